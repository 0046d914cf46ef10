use Rattle.mr_set.proofs.Uniqueness.{sets-counted}
use Rattle.mr_set.proofs.laws.sets_are_counted.Goals as goal

pub returns : goal.returns
returns c = sets-counted
