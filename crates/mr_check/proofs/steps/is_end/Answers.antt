-- an end
use Rattle.mr_check.proofs.Walk.{nothing_is_assigned, end_at, no_end}
use Rattle.mr_check.proofs.steps.is_end.Goals as goal

pub fails-requires : goal.fails-requires
fails-requires c = rw c.empty.ensures (nothing_is_assigned c.args.frame.now)

pub returns-in-Some : goal.returns-in-Some
returns-in-Some c = end_at c.args.frame.now c.args.steps.now c.args.last.now c.in-Slot.s c.in-Some.row.now c.contains.result c.in-Slot.is c.in-Some.ensures.lookup.3.0 (c.in-Some.ensures.lookup.3.1 c.in-Some.row.now) (rw c.empty-in-Some.ensures at c.contains.ensures)

pub returns-in-None : goal.returns-in-None
returns-in-None c = (λ no. cc, λ end. absurd (no_end c.args.frame.now c.args.steps.now c.args.last.now c.in-Slot.s c.in-Slot.is c.in-None.ensures.lookup.3 end))
