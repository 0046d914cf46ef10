-- the other map's values are taken so far
use Rattle.mr_assign.proofs.Maps.{IsJoined}
use Rattle.mr_assign.proofs.assign.Assign.join.Given as goal

abbrev pub invariant-loop-p : goal.invariant-loop-p
invariant-loop-p l = IsJoined l.self-inside.words l.other-inside.words l.both l.p
