-- The law as it is proved in Single.
use Rattle.mr_matrix.proofs.Single.{one-matroid}
use Rattle.mr_matrix.proofs.laws.there_is_one_matroid.Goals as goal

pub returns : goal.returns
returns c = λ a m k one two. one-matroid a m k one two
