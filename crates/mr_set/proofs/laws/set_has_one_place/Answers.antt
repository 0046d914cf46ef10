use Rattle.mr_set.proofs.Uniqueness.{set-one_place}
use Rattle.mr_set.proofs.laws.set_has_one_place.Goals as goal

pub returns : goal.returns
returns c = set-one_place
