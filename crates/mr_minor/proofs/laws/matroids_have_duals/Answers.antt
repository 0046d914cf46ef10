-- The law as it is proved in Existing.
use Rattle.mr_minor.proofs.Existing.{dual-exists}
use Rattle.mr_minor.proofs.laws.matroids_have_duals.Goals as goal

pub returns : goal.returns
returns c = λ m matroid. dual-exists m matroid
