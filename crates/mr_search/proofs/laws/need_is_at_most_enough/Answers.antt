-- the law as it is proved in Enough
use Rattle.mr_search.proofs.Enough.{need_is_at_most_enough}
use Rattle.mr_search.proofs.laws.need_is_at_most_enough.Goals as goal

pub returns : goal.returns
returns c = need_is_at_most_enough
