-- the steps so far follow
use Rattle.mr_check.specs.Private.Judging.{FollowBelow}
use Rattle.mr_check.proofs.steps.first_stray.Given as goal

abbrev pub invariant-loop-j : goal.invariant-loop-j
invariant-loop-j l = FollowBelow l.frame l.steps l.j
