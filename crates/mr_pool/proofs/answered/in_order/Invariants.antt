use Rattle.std.proofs.Common.{◌≡◌, ◌++◌}
use Rattle.std.specs.Vec.Iter.{into_iter_items}
use Rattle.mr_pool.specs.Private.Lists.{present}
use Rattle.mr_pool.proofs.answered.in_order.Given as goal

-- the answers so far and those that are left are all
abbrev pub invariant-loop-place : goal.invariant-loop-place
invariant-loop-place l = l.answers ++ present (into_iter_items l.place-iterator) ≡ present l.fn.row.items
