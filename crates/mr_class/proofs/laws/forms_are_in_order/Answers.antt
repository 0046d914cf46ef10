-- The law as it is proved in InOrder.
use Rattle.mr_class.proofs.InOrder.{forms_in_order}
use Rattle.mr_class.proofs.laws.forms_are_in_order.Goals as goal

pub returns : goal.returns
returns c = forms_in_order
