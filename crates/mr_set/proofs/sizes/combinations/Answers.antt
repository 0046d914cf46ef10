use Rattle.std.proofs.Common.{◌≡◌, ◌-◌, arith}
use Rattle.mr_set.proofs.Choose.{choose-quotient, choose-small, choose-product-small}
use Rattle.mr_set.proofs.sizes.combinations.Goals as goal

pub overflow_mul-count : goal.overflow_mul-count
overflow_mul-count c =
    let factor : c.from.result ≡ c.args.n - c.loop-k.k = omega arith in
    let small = choose-product-small c.args.n c.loop-k.k c.requires in
    rw (c.loop-k.invariant, factor) (omega arith)

pub loop-k-preserved : goal.loop-k-preserved
loop-k-preserved c =
    let factor : c.from.result ≡ c.args.n - c.loop-k.k = omega arith in
    rw (c.loop-k.invariant, factor, c.from-in-loop-k.ensures) (choose-quotient c.args.n c.loop-k.k)

pub overflow_cast-result : goal.overflow_cast-result
overflow_cast-result c = let small = choose-small c.args.n c.loop-k.k c.requires in rw c.loop-k.invariant (omega arith)
