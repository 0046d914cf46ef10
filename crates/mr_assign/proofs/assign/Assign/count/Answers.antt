-- word by word
use Rattle.std.proofs.Common.{◌≡◌, ◌+◌, ◌*◌, ℕ, ap, sym, ◌∙◌, arith}
use Rattle.mr_assign.specs.declared.TheConstants.{POSITIONS}
use Rattle.mr_assign.proofs.Maps.{count_below, count_below_all}
use Rattle.mr_assign.proofs.assign.Assign.count.Goals as goal

pub loop-i-preserved : goal.loop-i-preserved
loop-i-preserved c = let next : 16 * c.loop-i.i + 16 ≡ 16 * (c.loop-i.i + 1) = omega arith in c.count_to-count.ensures ∙ ap (count_below c.self.inside.words) next

pub returns : goal.returns
returns c =
    let ended : 16 * c.loop-i.i ≡ POSITIONS = omega arith in
    c.loop-i.invariant ∙ ap (count_below c.self.inside.words) ended ∙ count_below_all c.self.inside.words c.args.self.now c.self.view_is
