use Rattle.std.proofs.Common.{◌≡◌, ◌<◌, length}
use Rattle.std.specs.Prelude.{All}
use Rattle.std.specs.Vec.Iter.{into_iter_items}
use Rattle.mr_pool.specs.declared.answered.Answered.{Answered}
use Rattle.mr_pool.specs.Private.Lists.{with_answers}
use Rattle.mr_pool.proofs.answered.put_all.Given as goal

-- the row with those that are left is the row with all
abbrev pub invariant-loop-item : goal.invariant-loop-item
invariant-loop-item l = record {
  row : with_answers l.row.items (into_iter_items l.item-iterator) ≡ with_answers l.initial.row.items l.fn.list.items;
  low : All (λ (a : Answered). a.cube < length l.row.items) (into_iter_items l.item-iterator);
}
