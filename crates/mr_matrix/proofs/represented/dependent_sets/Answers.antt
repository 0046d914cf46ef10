-- The first set, one more, and the last.
use Rattle.mr_linear.specs.Matrix.{height, AreIndependent}
use Rattle.mr_minor.proofs.Collecting.{walk_first, walk_next, walk_last, walk_falls}
use Rattle.mr_matrix.proofs.represented.dependent_sets.Goals as goal

pub sets-init : goal.sets-init
sets-init c = walk_first c.args.a.now.cols (height c.args.a.now) c.cols-n.result c.rows-r.result (AreIndependent c.args.a.now) c.first_subset-x.result c.new-nonbases.result.items
    c.cols-n.ensures.value c.rows-r.ensures.value c.first_subset-x.ensures.first c.new-nonbases.ensures.items

pub sets-smaller : goal.sets-smaller
sets-smaller c = walk_falls c.args.a.now.cols (height c.args.a.now) c.cols-n.result c.sets.x c.in-Some.next c.cols-n.ensures.value c.rows-r.ensures.columns c.sets.invariant.0 c.in-Some.ensures

pub sets-preserved : goal.sets-preserved
sets-preserved c =
    walk_next c.args.a.now.cols (height c.args.a.now) c.cols-n.result (AreIndependent c.args.a.now) c.sets.x c.in-Some.next c.sets.nonbases.items c.collect.new.nonbases.items c.is_independent.result
    c.cols-n.ensures.value c.sets.invariant c.is_independent.ensures c.in-Some.ensures c.in_ok-collect.ensures.ok

pub returns-in-None : goal.returns-in-None
returns-in-None c =
    walk_last c.args.a.now.cols (height c.args.a.now) c.cols-n.result (AreIndependent c.args.a.now) c.sets.x c.sets.nonbases.items c.collect.new.nonbases.items c.is_independent.result
    c.cols-n.ensures.value c.sets.invariant c.is_independent.ensures c.in-None.ensures c.in_ok-collect.ensures.ok
