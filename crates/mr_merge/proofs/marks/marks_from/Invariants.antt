-- the slots from the place on were seen to
use Rattle.std.proofs.Common.{◌≤◌, length}
use Rattle.mr_merge.specs.Table.{all_rows}
use Rattle.mr_merge.specs.Private.Marks.{MarksFrom}
use Rattle.mr_merge.proofs.marks.marks_from.Given as goal

abbrev pub invariant-loop-left : goal.invariant-loop-left
invariant-loop-left l = (l.left ≤ length l.slots) × MarksFrom (all_rows l.table) l.end l.slots l.left l.marks.items

abbrev pub decreases-loop-left : goal.decreases-loop-left
decreases-loop-left l = l.left
