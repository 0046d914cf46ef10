-- the determinant after the pivot is a linear form in the value
use Rattle.std.proofs.Common.{◌≡◌, ◌∙◌, refl}
use Rattle.mr_field.specs.Gf.{add, mul, neg, inv}
use Rattle.mr_linear.specs.Stored.{cell}
use Rattle.mr_linear.proofs.Pairs.{forms-values, pair_sum-cleared_value}
use Rattle.mr_linear.proofs.small.triple_values.Goals as goal

pub returns : goal.returns
returns c =
    let f = c.args.field.now in
    let a = cell c.args.w.now in
    let by_e : c.mul-by_e.result ≡ mul f (neg f 1) (mul f (a c.args.p c.args.e) (inv f (a c.args.p c.args.h))) = c.mul-by_e.ensures.value ∙ rw (c.neg-minus.ensures.value, c.mul.ensures.value, c.inv-inverse.ensures.value) refl in
    let by_j : c.mul-by_j.result ≡ mul f (neg f 1) (mul f (a c.args.p c.args.j) (inv f (a c.args.p c.args.h))) = c.mul-by_j.ensures.value ∙ rw (c.neg-minus.ensures.value, c.mul-2.ensures.value, c.inv-inverse.ensures.value) refl in
    let last : c.mul-c.result ≡ mul f (neg f 1) c.plus-last.result = c.mul-c.ensures.value ∙ rw c.neg-minus.ensures.value refl in
    let sum : c.plus-s.result ≡ add f (mul f c.plus-beside.result c.plus-under.result) (mul f (mul f c.mul-by_e.result (a c.args.i c.args.h)) (mul f (neg f 1) c.plus-last.result)) =
    c.plus-s.ensures.value ∙ rw (c.mul-3.ensures.value, c.mul-first.ensures.value, last) refl in
    forms-values f c.zeros_of.result c.plus-s.result c.mul-c.result _
    (λ v. pair_sum-cleared_value f a c.args.i c.args.k c.args.p c.args.e c.args.j c.args.h v c.mul-by_e.result c.mul-by_j.result c.plus-beside.result c.plus-under.result c.plus-last.result
    c.requires.rows.0 c.requires.rows.1 c.requires.columns.0 c.requires.columns.1 by_e by_j c.plus-beside.ensures.value c.plus-under.ensures.value c.plus-last.ensures.value ∙ rw (sum, last) refl) c.zeros_of.ensures
