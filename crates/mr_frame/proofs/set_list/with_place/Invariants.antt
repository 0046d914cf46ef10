-- the sets before this place were seen
use Rattle.std.proofs.Common.{take, get_or}
use Rattle.mr_frame.specs.Private.Building.{AreChosen, HasAndNot}
use Rattle.mr_frame.proofs.set_list.with_place.Given as goal

abbrev pub invariant-loop-x : goal.invariant-loop-x
invariant-loop-x l = AreChosen (HasAndNot l.place.col (get_or l.members l.place.row 0)) (take l.x-index l.sets) l.list
