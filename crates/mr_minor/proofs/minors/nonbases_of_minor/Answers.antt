-- The first set, one more, and the last.
use Rattle.std.proofs.Common.{◌-◌, length, arith}
use Rattle.mr_minor.specs.Private.Best.{IsCompleted}
use Rattle.mr_minor.proofs.Collecting.{walk_first, walk_next, walk_last, walk_falls}
use Rattle.mr_minor.proofs.minors.nonbases_of_minor.Goals as goal

pub sets-init : goal.sets-init
sets-init c =
    walk_first (length c.args.kept) (c.args.m.now.rank - length c.args.fixed) c.len-n.result (c.rank.result - c.len.result) (IsCompleted c.args.m.now c.args.kept c.args.fixed) c.first_subset-x.result c.new-nonbases.result.items
    c.len-n.ensures (let r = c.rank.ensures in let s = c.len.ensures in omega (arith, r, s)) c.first_subset-x.ensures.first c.new-nonbases.ensures.items

pub sets-smaller : goal.sets-smaller
sets-smaller c = walk_falls (length c.args.kept) (c.args.m.now.rank - length c.args.fixed) c.len-n.result c.sets.x c.in-Some.next c.len-n.ensures c.requires.limit c.sets.invariant.0 c.in-Some.ensures

pub sets-preserved : goal.sets-preserved
sets-preserved c =
    walk_next (length c.args.kept) (c.args.m.now.rank - length c.args.fixed) c.len-n.result (IsCompleted c.args.m.now c.args.kept c.args.fixed) c.sets.x c.in-Some.next c.sets.nonbases.items c.collect.new.nonbases.items c.is_completed.result
    c.len-n.ensures c.sets.invariant c.is_completed.ensures c.in-Some.ensures c.in_ok-collect.ensures.ok

pub returns-in-None : goal.returns-in-None
returns-in-None c =
    walk_last (length c.args.kept) (c.args.m.now.rank - length c.args.fixed) c.len-n.result (IsCompleted c.args.m.now c.args.kept c.args.fixed) c.sets.x c.sets.nonbases.items c.collect.new.nonbases.items c.is_completed.result
    c.len-n.ensures c.sets.invariant c.is_completed.ensures c.in-None.ensures c.in_ok-collect.ensures.ok
