-- The row of one slot more is put in.
use Rattle.std.proofs.Common.{◌∙◌, ap, arith}
use Rattle.atomic_table.specs.Table.{Me}
use Rattle.mr_store.specs.Seats.{Seen, known_of}
use Rattle.mr_store.specs.Private.Laying.{with_found}
use Rattle.mr_store.proofs.Peeking.{rows_more}
use Rattle.mr_store.proofs.steps.read_rows.Goals as goal

pub loop-slot-preserved : goal.loop-slot-preserved
loop-slot-preserved c = record {
  table = c.read_slot.ensures.same.0 ∙ c.loop-slot.invariant.table;
  seat = c.read_slot.ensures.same.1 ∙ c.loop-slot.invariant.seat;
  me = c.read_slot.ensures.same.2 ∙ c.loop-slot.invariant.me;
  rows = rows_more c.args.seat.now.me.0 _ c.loop-slot.slot c.loop-slot.rows c.read_slot.new.rows c.loop-slot.invariant.rows (let few = c.requires.opened in let lt = c.loop-slot-test.true in omega arith)
      (c.read_slot.ensures.rows ∙ ap (λ (m : Me (Unit {0}) Seen). with_found c.loop-slot.slot (known_of m.0 c.loop-slot.slot) c.loop-slot.rows) c.loop-slot.invariant.me);
}
