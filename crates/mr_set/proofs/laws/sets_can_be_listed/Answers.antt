use Rattle.mr_set.proofs.Uniqueness.{sets-listed}
use Rattle.mr_set.proofs.laws.sets_can_be_listed.Goals as goal

pub returns : goal.returns
returns c = sets-listed
