-- The law as it is proved in LawsOfForms.
use Rattle.mr_class.proofs.LawsOfForms.{each_has_one_form}
use Rattle.mr_class.proofs.laws.each_representation_has_one_form.Goals as goal

pub returns : goal.returns
returns c = each_has_one_form
