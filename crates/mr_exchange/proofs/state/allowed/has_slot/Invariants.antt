-- no ticket before this one has the slot
use Rattle.mr_exchange.proofs.Scanning.{NoSlotBefore}
use Rattle.mr_exchange.proofs.state.allowed.has_slot.Given as goal

abbrev pub invariant-loop-ticket : goal.invariant-loop-ticket
invariant-loop-ticket l = NoSlotBefore l.tickets l.slot l.ticket-index
