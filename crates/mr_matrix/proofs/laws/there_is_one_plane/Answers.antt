-- The law as it is proved in Single.
use Rattle.mr_matrix.proofs.Single.{one-plane}
use Rattle.mr_matrix.proofs.laws.there_is_one_plane.Goals as goal

pub returns : goal.returns
returns c = λ f a b one two. one-plane f a b one two
