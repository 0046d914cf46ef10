-- row by row
use Rattle.std.proofs.Common.{ℕ, ◌≡◌, ◌∙◌, ap, subst, arith}
use Rattle.std.proofs.Common.{◌*◌}
use Rattle.mr_linear.specs.declared.elimination.TheConstants.{STRIDE}
use Rattle.mr_frame.specs.Frame.{Framed}
use Rattle.mr_frame.specs.Private.Filling.{IsCopiedTo}
use Rattle.mr_frame.proofs.Copying.{copied_none, copied_at}
use Rattle.mr_frame.proofs.Keeping.{kept_now}
use Rattle.mr_frame.proofs.frame.Frame.part.Goals as goal

pub loop-row-init : goal.loop-row-init
loop-row-init c = copied_none c.args.self.now c.args.a.now c.args.rows c.args.columns

pub returns-clause-elements : goal.returns-clause-elements
returns-clause-elements c = c.loop-row.invariant.elements

pub returns-clause-values : goal.returns-clause-values
returns-clause-values c = λ i e row col in_rows in_columns.
    let kept = kept_now c.self.view_is c.self.invariant.0 in
    let rank : c.rank-row-end.result ≡ c.args.self.now.matroid.rank = c.rank-row-end.ensures ∙ ap (λ (f : Framed). f.matroid.rank) c.self.view_is in
    let end : c.loop-row.row ≡ c.args.self.now.matroid.rank = omega arith in
    let limit = kept.frame.limits.elements in
    copied_at c.args.self.now c.args.a.now c.args.rows c.args.columns c.loop-row.w c.args.self.now.matroid.rank i e
    (subst (λ (r : ℕ). IsCopiedTo c.args.self.now c.args.a.now c.args.rows c.args.columns c.loop-row.w (r * STRIDE)) end c.loop-row.invariant) row (omega arith) in_rows in_columns
