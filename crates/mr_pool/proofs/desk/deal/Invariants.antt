use Rattle.std.proofs.Common.{◌≡◌, ◌≤◌, ◌+◌, vec_len, vec_capacity}
use Rattle.std.specs.Prelude.{All}
use Rattle.mr_store.specs.Cards.{mark_of, held_by}
use Rattle.mr_pool.specs.Private.Desks.{IsOtherDesk}
use Rattle.mr_pool.proofs.desk.deal.Given as goal

-- a desk for each worker so far but the first
abbrev pub invariant-loop-worker : goal.invariant-loop-worker
invariant-loop-worker l = record {
  kept : held_by l.first ≡ held_by l.initial.first;
  mark : mark_of l.first ≡ record (mark_of l.initial.first) { made = l.worker };
  count : vec_len l.desks + 1 ≡ l.worker;
  room : l.workers ≤ vec_capacity l.desks;
  others : All (IsOtherDesk l.store) l.desks.items;
}
