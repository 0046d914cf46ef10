use Rattle.mr_auto.proofs.Single.{one-list}
use Rattle.mr_auto.proofs.laws.there_is_one_list_of_orbits.Goals as goal

pub returns : goal.returns
returns c = λ f forms a b one two. one-list f forms a b one two
