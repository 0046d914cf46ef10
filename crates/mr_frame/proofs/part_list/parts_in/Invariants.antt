-- the sets before this one have theirs
use Rattle.mr_frame.proofs.Parting.{ArePartsTo}
use Rattle.mr_frame.proofs.part_list.parts_in.Given as goal

abbrev pub invariant-loop-x : goal.invariant-loop-x
invariant-loop-x l = ArePartsTo l.m l.basis l.sets l.list l.x-index
