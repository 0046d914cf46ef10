-- The law as it is proved in LawsOfForms.
use Rattle.mr_class.proofs.LawsOfForms.{forms_are_members}
use Rattle.mr_class.proofs.laws.forms_are_members.Goals as goal

pub returns : goal.returns
returns c = forms_are_members
