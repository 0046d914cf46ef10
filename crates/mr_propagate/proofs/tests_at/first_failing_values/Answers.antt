-- by the sets whose last position it is
use Rattle.std.proofs.Common.{get_or, None}
use Rattle.mr_propagate.proofs.Firsts.{first_of_last}
use Rattle.mr_propagate.proofs.tests_at.first_failing_values.Goals as goal

pub first_failing_values-requires-clause-earlier : goal.first_failing_values-requires-clause-earlier
first_failing_values-requires-clause-earlier c = λ q lt. (c.requires.filled q).1 lt

pub returns : goal.returns
returns c = λ v lt. first_of_last c.args.frame.now c.args.node.now c.args.p v c.requires.filled (get_or c.first_failing_values.result v None) (c.first_failing_values.ensures v lt)
