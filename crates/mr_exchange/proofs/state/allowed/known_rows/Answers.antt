-- one row is copied, or there is none
use Rattle.std.proofs.lemmas.List.{get_or_default}
use Rattle.mr_exchange.proofs.Scanning.{copied_further, copied_past}
use Rattle.mr_exchange.proofs.state.allowed.known_rows.Goals.{then-at-slots, else-at-slots}
use Rattle.mr_exchange.proofs.state.allowed.known_rows.Goals as goal

pub loop-slot-preserved : goal.loop-slot-preserved
loop-slot-preserved c =
    let read = get_or_default c.args.known.now c.loop-slot.slot-index 0 _ c.loop-slot-test.true in
    elim c.if-at-slots.branch [
      | then-at-slots w ↦ rw w.rows-is (copied_further c.args.slots.now c.loop-slot.rows.items c.args.known.now c.loop-slot.slot-index _ c.loop-slot-test.true read c.loop-slot.invariant w.index-slots-at.result w.if-at-slots.true w.index-slots-at.is)
      | else-at-slots w ↦ rw w.rows-is (copied_past c.args.slots.now c.loop-slot.rows.items c.args.known.now c.loop-slot.slot-index _ c.loop-slot-test.true read c.loop-slot.invariant w.if-at-slots.false)
    ]
