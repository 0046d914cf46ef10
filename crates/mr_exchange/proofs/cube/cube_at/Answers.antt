-- the positions get their values one by one
use Rattle.std.proofs.Common.{◌-◌, arith}
use Rattle.mr_field.specs.Gf.{order}
use Rattle.mr_exchange.proofs.CubesInOrder.{cubes_are_in_order, few_places}
use Rattle.mr_exchange.proofs.Digits.{begun_at_first, begun_to_end, power_fits, power_above, next_fits, further}
use Rattle.mr_exchange.proofs.cube.cube_at.Goals as goal

pub loop-p-init : goal.loop-p-init
loop-p-init c = rw c.empty-cube.ensures (begun_at_first (order c.args.frame.now.field - 1) c.args.depth c.args.c c.requires.number)

pub pow-power-requires : goal.pow-power-requires
pow-power-requires c = power_fits c.args.frame.now c.nonzero_elements-elements.result _ c.nonzero_elements-elements.ensures (omega arith)

pub nonzero_div-rest : goal.nonzero_div-rest
nonzero_div-rest c = power_above c.args.frame.now c.args.depth c.args.c c.loop-p.cube c.loop-p.rest c.loop-p.p _ _ c.loop-p-test.true c.requires.number c.loop-p.invariant c.nonzero_elements-elements.ensures c.pow-power.ensures

pub with-cube-requires-clause-high : goal.with-cube-requires-clause-high
with-cube-requires-clause-high c = next_fits c.args.frame.now c.args.depth c.args.c c.loop-p.cube c.loop-p.rest c.loop-p.p _ _ c.loop-p-test.true c.requires.number c.loop-p.invariant c.nonzero_elements-elements.ensures c.pow-power.ensures

pub overflow_add-rest : goal.overflow_add-rest
overflow_add-rest c = let few = with-cube-requires-clause-high c in omega arith

pub overflow_cast-rest : goal.overflow_cast-rest
overflow_cast-rest c = let few = with-cube-requires-clause-high c in omega arith

pub nonzero_rem-rest : goal.nonzero_rem-rest
nonzero_rem-rest c = power_above c.args.frame.now c.args.depth c.args.c c.loop-p.cube c.loop-p.rest c.loop-p.p _ _ c.loop-p-test.true c.requires.number c.loop-p.invariant c.nonzero_elements-elements.ensures c.pow-power.ensures

pub loop-p-preserved : goal.loop-p-preserved
loop-p-preserved c =
    let few = few_places c.args.frame.now c.basis-basis.ensures.frame in
    rw c.with-cube.ensures (further c.args.frame.now c.args.depth c.args.c c.loop-p.cube c.loop-p.rest c.loop-p.p _ _ c.loop-p-test.true c.requires.number c.loop-p.invariant c.nonzero_elements-elements.ensures c.pow-power.ensures (omega arith))

pub returns-clause-value : goal.returns-clause-value
returns-clause-value c =
    let few = few_places c.args.frame.now c.basis-basis.ensures.frame in
    begun_to_end c.args.frame.now c.args.depth c.args.c c.loop-p.cube c.loop-p.rest c.loop-p.p (c.args.depth - c.loop-p.p) (omega arith) (omega arith) c.loop-p.invariant

pub returns-clause-cube : goal.returns-clause-cube
returns-clause-cube c =
    rw (returns-clause-value c) ((cubes_are_in_order c.args.frame.now c.args.depth c.basis-basis.ensures.frame c.requires.free).each c.args.c c.requires.number)
