-- there are few cubes
use Rattle.std.proofs.Common.{arith}
use Rattle.mr_exchange.proofs.Digits.{power_fits}
use Rattle.mr_exchange.proofs.problem.Problem.of.Goals as goal

pub pow-requires : goal.pow-requires
pow-requires c = power_fits c.args.frame.now c.nonzero_elements.result c.min-depth.result c.nonzero_elements.ensures (omega arith)
