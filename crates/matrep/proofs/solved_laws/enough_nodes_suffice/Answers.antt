-- the law as it is proved in Needs
use Rattle.matrep.proofs.Needs.{enough_nodes_suffice, powers_suffice}
use Rattle.matrep.proofs.solved_laws.enough_nodes_suffice.Goals as goal

pub returns-clause-need : goal.returns-clause-need
returns-clause-need c = enough_nodes_suffice

pub returns-clause-powers : goal.returns-clause-powers
returns-clause-powers c = powers_suffice
