-- words are refused just for a nibble above VALUES
use Rattle.std.proofs.Common.{arith}
use Rattle.mr_assign.proofs.Maps.{none_above}
use Rattle.mr_assign.proofs.assign.Assign.of_words.Goals as goal

pub returns-clause-none : goal.returns-clause-none
returns-clause-none c = (
  λ no. cc,
  λ any. absurd (none_above c.args.words (λ k lt. c.loop-i.invariant k (omega (arith, c.loop-i-test.false))) any),
)
