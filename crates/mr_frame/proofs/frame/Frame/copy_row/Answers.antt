-- the row is copied or passed
use Rattle.std.proofs.Common.{ℕ, ◌≡◌, ◌+◌, ◌*◌, ◌∙◌, ap, subst, arith}
use Rattle.mr_linear.specs.declared.elimination.TheConstants.{STRIDE}
use Rattle.mr_matroid.proofs.Failures.{untrue}
use Rattle.mr_frame.specs.Frame.{Framed}
use Rattle.mr_frame.specs.Private.Filling.{IsCopiedTo}
use Rattle.mr_frame.proofs.Copying.{row_past, columns_past}
use Rattle.mr_frame.proofs.Keeping.{kept_now}
use Rattle.mr_frame.proofs.frame.Frame.copy_row.Goals as goal

pub returns-then-not-has : goal.returns-then-not-has
returns-then-not-has c = row_past c.args.self.now c.args.a.now c.args.rows c.args.columns c.args.w.now c.args.row c.requires.copied (untrue c.has.result c.has.ensures c.if-not-has.true)

pub returns : goal.returns
returns c =
    let kept = kept_now c.self.view_is c.self.invariant.0 in
    let limit = kept.frame.limits.elements in
    let n : c.elements-n.result ≡ c.args.self.now.matroid.elements = c.elements-n.ensures.value ∙ ap (λ (f : Framed). f.matroid.elements) c.self.view_is in
    let all : c.loop-e.e ≡ c.args.self.now.matroid.elements = omega arith in
    columns_past c.args.self.now c.args.a.now c.args.rows c.args.columns c.loop-e.w c.args.row c.args.self.now.matroid.elements
    (subst (λ (e : ℕ). IsCopiedTo c.args.self.now c.args.a.now c.args.rows c.args.columns c.loop-e.w (c.args.row * STRIDE + e)) all c.loop-e.invariant) (omega arith) c.requires.columns
