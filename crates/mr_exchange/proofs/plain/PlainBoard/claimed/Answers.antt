-- There are no more cubes claimed than there are.
use Rattle.std.proofs.Common.{arith}
use Rattle.mr_exchange.proofs.OneBoard.{plain_facts}
use Rattle.mr_exchange.proofs.plain.PlainBoard.claimed.Goals as goal

pub overflow_cast-result : goal.overflow_cast-result
overflow_cast-result c = let few = (plain_facts _ c.self.invariant.0).few_cubes in omega arith
