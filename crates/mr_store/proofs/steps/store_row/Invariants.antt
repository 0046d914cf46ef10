-- The words before this one are stored.
use Rattle.std.proofs.Common.{◌≡◌}
use Rattle.mr_store.specs.Private.Laying.{IsLaid}
use Rattle.mr_store.proofs.steps.store_row.Given as goal

abbrev pub invariant-loop-place : goal.invariant-loop-place
invariant-loop-place l = record {
  table : l.seat.table_id ≡ l.initial.seat.table_id;
  seat : l.seat.id ≡ l.initial.seat.id;
  held : l.seat.me.1 ≡ l.initial.seat.me.1;
  laid : IsLaid l.initial.seat.me.0 l.slot l.row l.place l.seat.me.0;
}
