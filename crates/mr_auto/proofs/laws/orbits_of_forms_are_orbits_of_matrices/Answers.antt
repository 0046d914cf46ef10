use Rattle.mr_auto.proofs.Matrices.{orbits_of_matrices}
use Rattle.mr_auto.proofs.laws.orbits_of_forms_are_orbits_of_matrices.Goals as goal

pub returns : goal.returns
returns c = orbits_of_matrices
