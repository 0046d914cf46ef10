-- the words so far have each value of the other map
use Rattle.std.proofs.Common.{◌*◌}
use Rattle.mr_assign.proofs.Maps.{AgreesBelow}
use Rattle.mr_assign.proofs.assign.Assign.contains.Given as goal

abbrev pub invariant-loop-i : goal.invariant-loop-i
invariant-loop-i l = AgreesBelow l.self-inside.words l.other-inside.words (16 * l.i)
