use Rattle.mr_set.proofs.Uniqueness.{place-one_set}
use Rattle.mr_set.proofs.laws.place_has_one_set.Goals as goal

pub returns : goal.returns
returns c = place-one_set
