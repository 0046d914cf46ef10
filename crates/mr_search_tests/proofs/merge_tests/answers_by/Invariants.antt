-- the answers for the cubes before this one are right
use Rattle.mr_nogood.specs.Follows.{in_slots}
use Rattle.mr_search_tests.proofs.Answered.{AreRightBy}
use Rattle.mr_search_tests.proofs.merge_tests.answers_by.Given as goal

abbrev pub invariant-loop-c : goal.invariant-loop-c
invariant-loop-c l = AreRightBy l.frame l.problem.depth (in_slots l.closed.rows) l.c l.answers
