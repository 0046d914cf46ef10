-- the state is one of the frame
use Rattle.std.proofs.Common.{◌≡◌}
use Rattle.mr_exchange_tests.proofs.exchange_tests.wrong_answer.Given as goal

abbrev pub invariant-loop-k : goal.invariant-loop-k
invariant-loop-k l = l.state.frame ≡ l.frame
