-- one end is due
use Rattle.matrep.proofs.OneEnd.{one_end}
use Rattle.matrep.proofs.laws.one_end_is_due.Goals as goal

pub returns : goal.returns
returns c = one_end
