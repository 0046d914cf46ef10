-- The law as it is proved in LawsOfForms.
use Rattle.mr_class.proofs.LawsOfForms.{members_come_from_one_form}
use Rattle.mr_class.proofs.laws.members_come_from_one_form.Goals as goal

pub returns : goal.returns
returns c = members_come_from_one_form
