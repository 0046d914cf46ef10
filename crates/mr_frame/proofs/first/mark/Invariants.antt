-- the values that are not left are looked at
use Rattle.std.proofs.Common.{length}
use Rattle.mr_frame.proofs.Firsts.{MarkedBut}
use Rattle.mr_frame.proofs.first.mark.Given as goal

abbrev pub invariant-loop-first : goal.invariant-loop-first
invariant-loop-first l = MarkedBut l.fn.values l.x l.initial.first l.first l.left

abbrev pub decreases-loop-first : goal.decreases-loop-first
decreases-loop-first l = length l.left
