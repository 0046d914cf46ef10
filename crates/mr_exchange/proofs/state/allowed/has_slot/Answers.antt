-- no ticket has the slot
use Rattle.std.proofs.Common.{true≢false, sym, arith}
use Rattle.mr_exchange.proofs.Scanning.{no_slot}
use Rattle.mr_exchange.proofs.state.allowed.has_slot.Goals as goal

pub returns : goal.returns
returns c = (
  λ e. absurd (true≢false (sym e)),
  λ has. absurd (no_slot c.args.tickets.now c.args.slot (λ j t lt. c.loop-ticket.invariant j t (omega arith)) has),
)
