-- one answer more is right
use Rattle.std.proofs.Common.{ℕ, List, subst}
use Rattle.mr_exchange.specs.Right.{IsRight}
use Rattle.mr_search_tests.proofs.Answered.{right_further}
use Rattle.mr_search_tests.proofs.merge_tests.all_answers.Goals as goal

pub loop-c-preserved : goal.loop-c-preserved
loop-c-preserved c =
    rw c.in-Ok-push.ensures.ok (right_further c.args.frame.now c.args.problem.depth c.loop-c.c c.loop-c.answers c.in-Ok.answer c.loop-c.invariant
    (λ rows. subst (λ (a : List ℕ). IsRight c.args.frame.now rows a c.in-Ok.answer) c.cube_at-cube.ensures.value (c.in-Ok.ensures rows)))
