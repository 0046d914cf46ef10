-- the lists before this one have theirs
use Rattle.mr_frame.proofs.Parting.{ArePartListsTo}
use Rattle.mr_frame.proofs.part_list.parts_of.Given as goal

abbrev pub invariant-loop-p : goal.invariant-loop-p
invariant-loop-p l = ArePartListsTo l.m l.basis l.due l.parts.items l.p
