-- by the edge's column, or by its row and back at the basis
use Rattle.std.proofs.Common.{ℕ, List, ◌≡◌, ◌++◌, [], ◌∷◌, sym, subst, ◌∙◌, get_or, ⊎_elim}
use Rattle.std.proofs.lemmas.Result.{on_ok_weaker}
use Rattle.mr_graph.specs.Graph.{row, col}
use Rattle.mr_graph.specs.Order.{Touches}
use Rattle.mr_matroid.proofs.Failures.{untrue}
use Rattle.mr_linear.specs.Matrix.{Grid}
use Rattle.mr_linear.specs.Operations.{IsAllowedOperation, matrix_after}
use Rattle.mr_linear.specs.declared.operation.RowOp.TheVariants.{ScaleRow, ScaleCol}
use Rattle.mr_linear.proofs.Units.{continues-trans}
use Rattle.mr_class.specs.Private.Scaling.{IsScaledOn}
use Rattle.mr_class.proofs.Steps.{value-ne, col-allowed, col-scaled, row-allowed, back-allowed, row-scaled}
use Rattle.mr_class.proofs.scale.scale_edge.Goals as goal

pub inv-by-requires-clause-nonzero : goal.inv-by-requires-clause-nonzero
inv-by-requires-clause-nonzero c =
    value-ne c.args.frame.now.matroid c.args.frame.now.basis c.basis-basis.ensures.frame.basis c.args.taken.now c.args.edge c.args.work.now c.requires.scaled c.requires.edge c.get-v.result c.get-v.ensures.value

pub perform-requires : goal.perform-requires
perform-requires c =
    col-allowed c.args.frame.now.matroid c.args.frame.now.basis c.basis-basis.ensures.frame.basis c.args.taken.now c.args.edge c.args.work.now c.requires.scaled c.requires.edge
    c.field.result c.get-v.result c.inv-by.result c.field.ensures c.get-v.ensures.value c.inv-by.ensures.value

pub returns-then-not-touches_col-clause-scaled : goal.returns-then-not-touches_col-clause-scaled
returns-then-not-touches_col-clause-scaled c =
    on_ok_weaker c.perform.result
    (λ same. subst (IsScaledOn c.args.frame.now.matroid c.args.frame.now.basis (c.args.taken.now ++ c.args.edge ∷ [])) (sym same)
    (col-scaled c.args.frame.now.matroid c.args.frame.now.basis c.basis-basis.ensures.frame.basis c.args.taken.now c.args.edge c.args.work.now c.requires.scaled c.requires.edge
    c.field.result c.get-v.result c.inv-by.result c.field.ensures c.get-v.ensures.value c.inv-by.ensures.value
    (untrue c.touches_col.result c.touches_col.ensures c.if-not-touches_col.true)))
    c.perform.ensures.matrix

pub perform-requires-2 : goal.perform-requires-2
perform-requires-2 c =
    row-allowed c.args.frame.now.matroid c.args.frame.now.basis c.basis-basis.ensures.frame.basis c.args.taken.now c.args.edge c.args.work.now c.requires.scaled c.requires.edge
    c.field.result c.get-v.result c.inv-by.result c.field.ensures c.get-v.ensures.value c.inv-by.ensures.value

pub perform-requires-3 : goal.perform-requires-3
perform-requires-3 c =
    let members : c.deref.result.now ≡ c.args.frame.now.basis = c.deref.ensures.0 ∙ c.elements.ensures ∙ c.basis-basis.ensures.value in
    subst (λ (w : Grid). IsAllowedOperation w (ScaleCol (get_or c.deref.result.now c.args.edge.row 0) c.get-v.result)) (sym c.in_ok-perform.ensures.matrix)
    (subst (λ (b : List ℕ). IsAllowedOperation (matrix_after c.args.work.now (ScaleRow c.args.edge.row c.inv-by.result)) (ScaleCol (get_or b c.args.edge.row 0) c.get-v.result)) (sym members)
    (back-allowed c.args.frame.now.matroid c.args.frame.now.basis c.basis-basis.ensures.frame.basis c.args.taken.now c.args.edge c.args.work.now c.requires.scaled c.requires.edge
    c.field.result c.get-v.result c.inv-by.result c.field.ensures c.get-v.ensures.value c.inv-by.ensures.value))

pub returns-clause-leads : goal.returns-clause-leads
returns-clause-leads c =
    on_ok_weaker c.perform-3.result
    (λ more. continues-trans c.args.work.now c.perform-2.new.work c.perform-3.new.work c.args.ops.now c.perform-2.new.ops c.perform-3.new.ops c.in_ok-perform.ensures.leads more)
    c.perform-3.ensures.leads

pub returns-clause-scaled : goal.returns-clause-scaled
returns-clause-scaled c =
    let members : c.deref.result.now ≡ c.args.frame.now.basis = c.deref.ensures.0 ∙ c.elements.ensures ∙ c.basis-basis.ensures.value in
    let free : Touches c.args.taken.now (row c.args.edge.row) → ⊥ =
    ⊎_elim (λ (h : Touches c.args.taken.now (row c.args.edge.row) → ⊥). h) (λ (h : Touches c.args.taken.now (col c.args.edge.col) → ⊥). absurd (h (c.touches_col.ensures.0 c.if-not-touches_col.false))) c.requires.edge.free in
    on_ok_weaker c.perform-3.result
    (λ same. subst (IsScaledOn c.args.frame.now.matroid c.args.frame.now.basis (c.args.taken.now ++ c.args.edge ∷ [])) (sym same)
    (subst (λ (w : Grid). IsScaledOn c.args.frame.now.matroid c.args.frame.now.basis (c.args.taken.now ++ c.args.edge ∷ []) (matrix_after w (ScaleCol (get_or c.deref.result.now c.args.edge.row 0) c.get-v.result))) (sym c.in_ok-perform.ensures.matrix)
    (subst (λ (b : List ℕ). IsScaledOn c.args.frame.now.matroid c.args.frame.now.basis (c.args.taken.now ++ c.args.edge ∷ []) (matrix_after (matrix_after c.args.work.now (ScaleRow c.args.edge.row c.inv-by.result)) (ScaleCol (get_or b c.args.edge.row 0) c.get-v.result))) (sym members)
    (row-scaled c.args.frame.now.matroid c.args.frame.now.basis c.basis-basis.ensures.frame.basis c.args.taken.now c.args.edge c.args.work.now c.requires.scaled c.requires.edge
    c.field.result c.get-v.result c.inv-by.result c.field.ensures c.get-v.ensures.value c.inv-by.ensures.value free))))
    c.perform-3.ensures.matrix
