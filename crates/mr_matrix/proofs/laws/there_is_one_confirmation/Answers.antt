-- The law as it is proved in Single.
use Rattle.mr_matrix.proofs.Single.{one-confirmation}
use Rattle.mr_matrix.proofs.laws.there_is_one_confirmation.Goals as goal

pub returns : goal.returns
returns c = λ m a found other one two. one-confirmation m a found other one two
