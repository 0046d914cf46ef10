-- The rows of the slots before this one are read.
use Rattle.std.proofs.Common.{◌≡◌, length}
use Rattle.mr_store.specs.Private.Laying.{AreRows}
use Rattle.mr_store.proofs.steps.read_rows.Given as goal

abbrev pub invariant-loop-slot : goal.invariant-loop-slot
invariant-loop-slot l = record {
  table : l.seat.table_id ≡ l.initial.seat.table_id;
  seat : l.seat.id ≡ l.initial.seat.id;
  me : l.seat.me ≡ l.initial.seat.me;
  rows : AreRows l.initial.seat.me.0 (length l.initial.rows) l.slot l.rows;
}
