use Rattle.mr_set.proofs.Uniqueness.{first_basis-same}
use Rattle.mr_set.proofs.laws.first_basis_is_unique.Goals as goal

pub returns : goal.returns
returns c = first_basis-same
