-- no slot has a row that hits
use Rattle.std.proofs.Common.{refl, arith}
use Rattle.mr_nogood.specs.Follows.{in_slots}
use Rattle.mr_exchange.proofs.Scanning.{avoids_all}
use Rattle.mr_exchange.proofs.state.allowed.avoids.Goals as goal

pub returns : goal.returns
returns c = (
  λ _. avoids_all (in_slots c.args.slots.now) c.args.known.now c.args.node.now (λ j lt. c.loop-slot.invariant j (omega arith)),
  λ _. refl,
)
