-- no slot before this one has a row that hits
use Rattle.mr_nogood.specs.Follows.{in_slots}
use Rattle.mr_exchange.proofs.Scanning.{AvoidsBefore}
use Rattle.mr_exchange.proofs.state.allowed.avoids.Given as goal

abbrev pub invariant-loop-slot : goal.invariant-loop-slot
invariant-loop-slot l = AvoidsBefore (in_slots l.slots) l.known l.node l.slot-index
