-- the law as it is proved in Enough
use Rattle.mr_search.proofs.Enough.{there_is_a_need}
use Rattle.mr_search.proofs.laws.there_is_a_need.Goals as goal

pub returns : goal.returns
returns c = there_is_a_need
