-- the determinant is a linear form in the value
use Rattle.std.proofs.Common.{◌≡◌, ◌∙◌, refl}
use Rattle.mr_field.specs.Gf.{mul, neg}
use Rattle.mr_linear.specs.Stored.{cell}
use Rattle.mr_linear.proofs.Pairs.{forms-values, pair_sum-value}
use Rattle.mr_linear.proofs.small.pair_values.Goals as goal

pub returns : goal.returns
returns c =
    let f = c.args.field.now in
    let a = cell c.args.w.now in
    let second : c.mul-c.result ≡ mul f (neg f 1) (a c.args.k c.args.j) = c.mul-c.ensures.value ∙ rw c.neg.ensures.value refl in
    forms-values f c.zeros_of.result c.mul-s.result c.mul-c.result _
    (λ v. pair_sum-value f a c.args.i c.args.k c.args.e c.args.j v c.requires.apart.0 c.requires.apart.1 ∙ rw (c.mul-s.ensures.value, second) refl) c.zeros_of.ensures
