-- The law as it is proved in FirstBasis.
use Rattle.mr_class.proofs.FirstBasis.{each_has_one_chosen}
use Rattle.mr_class.proofs.laws.each_class_has_one_chosen.Goals as goal

pub returns : goal.returns
returns c = each_has_one_chosen
