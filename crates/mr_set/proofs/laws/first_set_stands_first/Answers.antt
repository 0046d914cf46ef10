use Rattle.mr_set.proofs.Uniqueness.{first-place}
use Rattle.mr_set.proofs.laws.first_set_stands_first.Goals as goal

pub returns : goal.returns
returns c = first-place
