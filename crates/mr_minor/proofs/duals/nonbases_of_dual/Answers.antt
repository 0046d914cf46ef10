-- The first set, one more, and the last.
use Rattle.std.proofs.Common.{◌-◌, arith}
use Rattle.mr_minor.specs.Dual.{HasCobasis}
use Rattle.mr_minor.proofs.Collecting.{walk_first, walk_next, walk_last, walk_falls}
use Rattle.mr_minor.proofs.duals.nonbases_of_dual.Goals as goal

pub sets-init : goal.sets-init
sets-init c =
    walk_first c.args.m.now.elements (c.args.m.now.elements - c.args.m.now.rank) c.elements-n.result (c.elements-n.result - c.rank.result) (HasCobasis c.args.m.now) c.first_subset-x.result c.new-nonbases.result.items
    c.elements-n.ensures.value (let n = c.elements-n.ensures.value in let r = c.rank.ensures in omega arith) c.first_subset-x.ensures.first c.new-nonbases.ensures.items

pub sets-smaller : goal.sets-smaller
sets-smaller c = walk_falls c.args.m.now.elements (c.args.m.now.elements - c.args.m.now.rank) c.elements-n.result c.sets.x c.in-Some.next c.elements-n.ensures.value c.elements-n.ensures.limits.elements c.sets.invariant.0 c.in-Some.ensures

pub sets-preserved : goal.sets-preserved
sets-preserved c =
    walk_next c.args.m.now.elements (c.args.m.now.elements - c.args.m.now.rank) c.elements-n.result (HasCobasis c.args.m.now) c.sets.x c.in-Some.next c.sets.nonbases.items c.collect.new.nonbases.items c.is_cobasis.result
    c.elements-n.ensures.value c.sets.invariant c.is_cobasis.ensures c.in-Some.ensures c.in_ok-collect.ensures.ok

pub returns-in-None : goal.returns-in-None
returns-in-None c =
    walk_last c.args.m.now.elements (c.args.m.now.elements - c.args.m.now.rank) c.elements-n.result (HasCobasis c.args.m.now) c.sets.x c.sets.nonbases.items c.collect.new.nonbases.items c.is_cobasis.result
    c.elements-n.ensures.value c.sets.invariant c.is_cobasis.ensures c.in-None.ensures c.in_ok-collect.ensures.ok
