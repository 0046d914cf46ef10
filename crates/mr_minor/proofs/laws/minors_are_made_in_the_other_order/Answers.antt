-- The law as it is proved in DualMinors.
use Rattle.mr_minor.proofs.DualMinors.{in-other_order}
use Rattle.mr_minor.proofs.laws.minors_are_made_in_the_other_order.Goals as goal

pub returns : goal.returns
returns c = λ m d c a b matroid of_c one of_d two. in-other_order m d c a b matroid of_c one of_d two
