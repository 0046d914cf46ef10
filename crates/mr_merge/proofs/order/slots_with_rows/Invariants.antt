-- the slots before this one were looked at
use Rattle.mr_merge.specs.Table.{all_rows}
use Rattle.mr_merge.specs.Private.Order.{IsListedTo}
use Rattle.mr_merge.proofs.order.slots_with_rows.Given as goal

abbrev pub invariant-loop-slot : goal.invariant-loop-slot
invariant-loop-slot l = IsListedTo (all_rows l.table) l.slot l.slots.items
