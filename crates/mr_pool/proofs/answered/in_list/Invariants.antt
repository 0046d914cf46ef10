use Rattle.std.proofs.Common.{◌≡◌, ◌++◌}
use Rattle.std.specs.Vec.Iter.{into_iter_items}
use Rattle.mr_pool.specs.Private.Lists.{answers_of}
use Rattle.mr_pool.proofs.answered.in_list.Given as goal

-- the answers so far and those that are left are all
abbrev pub invariant-loop-item : goal.invariant-loop-item
invariant-loop-item l = l.answers ++ answers_of (into_iter_items l.item-iterator) ≡ answers_of l.fn.list.items
