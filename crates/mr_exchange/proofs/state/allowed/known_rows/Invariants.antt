-- the rows of the slots before this one are copied
use Rattle.mr_exchange.proofs.Scanning.{AreCopied}
use Rattle.mr_exchange.proofs.state.allowed.known_rows.Given as goal

abbrev pub invariant-loop-slot : goal.invariant-loop-slot
invariant-loop-slot l = AreCopied l.slots l.known l.slot-index l.rows.items
