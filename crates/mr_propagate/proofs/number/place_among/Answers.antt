-- a half is left, as the number in the middle is smaller or not
use Rattle.std.proofs.Common.{ℕ, ◌+◌, ◌-◌, ◌<◌, length, arith}
use Rattle.std.specs.Prelude.{◌/◌}
use Rattle.mr_propagate.proofs.InOrder.{below_smaller, above_other}
use Rattle.mr_propagate.proofs.number.place_among.Goals as goal

pub loop-low-preserved-then-items-middle : goal.loop-low-preserved-then-items-middle
loop-low-preserved-then-items-middle c =
    let middle : ℕ = c.loop-low.low + (c.loop-low.high - c.loop-low.low) / 2 in
    let most = c.loop-low.invariant.1 in
    let within : middle < length c.args.items.now = omega (arith, c.loop-low-test.true) in
    (omega (arith, c.loop-low-test.true), most, λ k lt. below_smaller c.args.items.now middle c.args.n c.requires within c.if-items-middle.true k (omega arith), c.loop-low.invariant.3)

pub loop-low-preserved : goal.loop-low-preserved
loop-low-preserved c =
    let middle : ℕ = c.loop-low.low + (c.loop-low.high - c.loop-low.low) / 2 in
    let most = c.loop-low.invariant.1 in
    (omega (arith, c.loop-low-test.true), omega (arith, c.loop-low-test.true), c.loop-low.invariant.2, above_other c.args.items.now middle c.args.n c.requires c.if-items-middle.false)
