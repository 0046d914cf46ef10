-- The law as it is proved in Single.
use Rattle.mr_matrix.proofs.Single.{matroid-exists}
use Rattle.mr_matrix.proofs.laws.matrices_have_matroids.Goals as goal

pub returns : goal.returns
returns c = λ a grid full. matroid-exists a grid full
