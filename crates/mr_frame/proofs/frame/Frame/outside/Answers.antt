-- all rows, and the columns outside of the basis
use Rattle.std.proofs.Common.{ℕ, List, ◌≡◌, ◌<◌, ◌∙◌, ap, sym, subst, arith}
use Rattle.std.specs.Prelude.{Contains}
use Rattle.mr_linear.proofs.Pivots.{below_all}
use Rattle.mr_frame.specs.Frame.{Framed}
use Rattle.mr_frame.proofs.Values.{member_minus, minus_member}
use Rattle.mr_frame.proofs.frame.Frame.outside.Goals as goal

pub part-requires-clause-columns : goal.part-requires-clause-columns
part-requires-clause-columns c = λ e inside.
    let n : c.elements-n.result ≡ c.args.self.now.matroid.elements = c.elements-n.ensures.value ∙ ap (λ (f : Framed). f.matroid.elements) c.self.view_is in
    let has : Contains c.first_subset.result e = (minus_member c.first_subset.result c.self.inside.basis e (subst (λ (ys : List ℕ). Contains ys e) c.minus-columns.ensures inside)).0 in
    let low : e < c.elements-n.result = (below_all c.elements-n.result e).0 (subst (λ (ys : List ℕ). Contains ys e) c.first_subset.ensures.value has) in
    omega arith

pub returns-clause-values : goal.returns-clause-values
returns-clause-values c = λ i e row col out.
    let n : c.elements-n.result ≡ c.args.self.now.matroid.elements = c.elements-n.ensures.value ∙ ap (λ (f : Framed). f.matroid.elements) c.self.view_is in
    let r : c.rank-r.result ≡ c.args.self.now.matroid.rank = c.rank-r.ensures ∙ ap (λ (f : Framed). f.matroid.rank) c.self.view_is in
    let in_rows : Contains c.first_subset-rows.result i = subst (λ (ys : List ℕ). Contains ys i) (sym c.first_subset-rows.ensures.value) ((below_all c.rank-r.result i).1 (omega arith)) in
    let all : Contains c.first_subset.result e = subst (λ (ys : List ℕ). Contains ys e) (sym c.first_subset.ensures.value) ((below_all c.elements-n.result e).1 (omega arith)) in
    let in_columns : Contains c.minus-columns.result e = subst (λ (ys : List ℕ). Contains ys e) (sym c.minus-columns.ensures) (member_minus c.first_subset.result c.self.inside.basis e all (subst (λ (f : Framed). Contains f.basis e → ⊥) (sym c.self.view_is) out)) in
    c.part.ensures.values i e row col in_rows in_columns
