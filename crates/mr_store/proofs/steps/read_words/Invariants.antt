-- The words before this one are those of the row.
use Rattle.std.proofs.Common.{◌≡◌, ◌<◌, ℕ, length, get_or, Some}
use Rattle.mr_nogood.specs.declared.TheConstants.{ROW_WORDS}
use Rattle.mr_nogood.specs.declared.row.Row.{Row}
use Rattle.mr_nogood.specs.Packing.{row_packing}
use Rattle.mr_store.specs.Seats.{find}
use Rattle.mr_store.proofs.steps.read_words.Given as goal

abbrev pub invariant-loop-j : goal.invariant-loop-j
invariant-loop-j l = record {
  table : l.seat.table_id ≡ l.initial.seat.table_id;
  seat : l.seat.id ≡ l.initial.seat.id;
  me : l.seat.me ≡ l.initial.seat.me;
  size : length l.row ≡ ROW_WORDS;
  words : (row : Row) → find l.initial.seat.me.0.found l.slot ≡ Some row → (k : ℕ) → k < l.j → get_or l.row k 0 ≡ get_or (row_packing row) k 0;
}
