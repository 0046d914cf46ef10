-- one answer more is right
use Rattle.std.proofs.Common.{ℕ, List, subst}
use Rattle.mr_nogood.specs.Follows.{in_slots}
use Rattle.mr_exchange.specs.declared.answer.CubeAnswer.TheVariants.{Refuted}
use Rattle.mr_exchange.specs.Right.{IsRight}
use Rattle.mr_search_tests.proofs.Answered.{right_more_by}
use Rattle.mr_search_tests.proofs.merge_tests.answers_by.Goals as goal

pub loop-c-preserved : goal.loop-c-preserved
loop-c-preserved c =
    let cite = c.index-cites-c.result in
    rw c.in-Ok.ensures.ok (right_more_by c.args.frame.now c.args.problem.depth (in_slots c.args.closed.now.rows) c.loop-c.c c.loop-c.answers (Refuted cite) c.loop-c.invariant
    (subst (λ (a : List ℕ). IsRight c.args.frame.now (in_slots c.args.closed.now.rows) a (Refuted cite)) c.cube_at-cube.ensures.value (c.refutes.ensures c.if-not-refutes.false)))
