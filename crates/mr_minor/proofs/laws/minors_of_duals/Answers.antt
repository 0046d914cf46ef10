-- The law as it is proved in DualMinors.
use Rattle.mr_minor.proofs.DualMinors.{minor-of_dual}
use Rattle.mr_minor.proofs.laws.minors_of_duals.Goals as goal

pub returns : goal.returns
returns c = λ m d c dual a b matroid of_d of_c apart is one two. minor-of_dual m d c dual matroid of_d of_c apart is a b one two
