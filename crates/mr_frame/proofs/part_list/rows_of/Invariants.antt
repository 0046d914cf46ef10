-- the rows before this one are taken or passed
use Rattle.mr_frame.proofs.Keeping.{AreRowsBelow}
use Rattle.mr_frame.proofs.part_list.rows_of.Given as goal

abbrev pub invariant-loop-row : goal.invariant-loop-row
invariant-loop-row l = AreRowsBelow l.members l.x l.rows l.row
