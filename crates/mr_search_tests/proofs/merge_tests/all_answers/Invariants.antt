-- the answers for the cubes before this one are right
use Rattle.mr_search_tests.proofs.Answered.{AreRightTo}
use Rattle.mr_search_tests.proofs.merge_tests.all_answers.Given as goal

abbrev pub invariant-loop-c : goal.invariant-loop-c
invariant-loop-c l = AreRightTo l.frame l.problem.depth l.c l.answers
