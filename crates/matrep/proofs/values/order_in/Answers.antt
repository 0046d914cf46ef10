-- another order has another text
use Rattle.std.proofs.Common.{◌≡◌, ◌<◌, sym, ◌∙◌, arith}
use Rattle.std.specs.Prelude.{◌^◌}
use Rattle.std.proofs.lemmas.Fmt.{decimal_injective}
use Rattle.matrep.proofs.values.order_in.Goals as goal

pub returns-else-q-le-PLANE_ORDER : goal.returns-else-q-le-PLANE_ORDER
returns-else-q-le-PLANE_ORDER c = λ v order small is.
    let same : c.in-Some.q ≡ v = decimal_injective c.in-Some.q v (omega arith) (omega arith) (sym c.in-Some.ensures.1 ∙ is) in
    omega (arith, same, small)
