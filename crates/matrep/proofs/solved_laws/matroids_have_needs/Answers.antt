-- the law as it is proved in Needs
use Rattle.matrep.proofs.Needs.{matroids_have_needs}
use Rattle.matrep.proofs.solved_laws.matroids_have_needs.Goals as goal

pub returns : goal.returns
returns c = matroids_have_needs
