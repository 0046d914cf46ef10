-- The law as it is proved in LawsOfForms.
use Rattle.mr_class.proofs.LawsOfForms.{chosen_have_ones}
use Rattle.mr_class.proofs.laws.chosen_matrices_have_ones.Goals as goal

pub returns : goal.returns
returns c = chosen_have_ones
