-- The law as it is proved in Excluding.
use Rattle.mr_nogood.proofs.Excluding.{rows_that_follow_from_each_other_exclude}
use Rattle.mr_nogood.proofs.laws.rows_that_follow_from_each_other_exclude.Goals as goal

pub returns : goal.returns
returns c = rows_that_follow_from_each_other_exclude
