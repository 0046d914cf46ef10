-- The laws as they are proved in OneOfEach.
use Rattle.mr_class.proofs.OneOfEach.{one_of_each, empty_answers}
use Rattle.mr_class.proofs.laws.answers_have_one_of_each_class.Goals as goal

pub returns-clause-each : goal.returns-clause-each
returns-clause-each c = one_of_each

pub returns-clause-empty : goal.returns-clause-empty
returns-clause-empty c = empty_answers
