-- word by word the other map's values are found, or one is missing
use Rattle.std.proofs.Common.{◌≡◌, ℕ, ◌*◌, subst, arith}
use Rattle.mr_assign.specs.declared.TheConstants.{POSITIONS}
use Rattle.mr_assign.proofs.Maps.{part, AgreesBelow}
use Rattle.mr_assign.proofs.Masks.{HasValues-word, agrees_more, disagrees}
use Rattle.mr_assign.proofs.assign.Assign.contains.Goals as goal

pub mask_of-requires : goal.mask_of-requires
mask_of-requires c = HasValues-word c.other.inside.words c.loop-i.i c.other.invariant

pub returns-then-self-i : goal.returns-then-self-i
returns-then-self-i c =
    disagrees c.self.inside.words c.other.inside.words c.args.self.now c.args.other.now c.loop-i.i c.mask_of.result c.self.view_is c.other.view_is c.self.invariant c.other.invariant c.loop-i-test.true c.mask_of.ensures c.if-self-i.true

pub loop-i-preserved : goal.loop-i-preserved
loop-i-preserved c =
    agrees_more c.self.inside.words c.other.inside.words c.loop-i.i c.mask_of.result c.self.invariant c.other.invariant c.mask_of.ensures c.if-self-i.false c.loop-i.invariant

pub returns : goal.returns
returns c =
    let ended : 16 * c.loop-i.i ≡ POSITIONS = omega arith in
    part c.self.inside.words c.other.inside.words c.args.self.now c.args.other.now c.self.view_is c.other.view_is
    (subst (λ (p : ℕ). AgreesBelow c.self.inside.words c.other.inside.words p) ended c.loop-i.invariant)
