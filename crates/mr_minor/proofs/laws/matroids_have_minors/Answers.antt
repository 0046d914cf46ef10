-- The law as it is proved in Existing.
use Rattle.mr_minor.proofs.Existing.{minor-exists}
use Rattle.mr_minor.proofs.laws.matroids_have_minors.Goals as goal

pub returns : goal.returns
returns c = λ m d c matroid of_c. minor-exists m d c matroid of_c
