-- the sets before this place were seen
use Rattle.std.proofs.Common.{take}
use Rattle.mr_frame.specs.Private.Building.{AreLast}
use Rattle.mr_frame.proofs.set_list.last_of.Given as goal

abbrev pub invariant-loop-x : goal.invariant-loop-x
invariant-loop-x l = AreLast l.places l.members l.p (take l.x-index l.sets) l.list
