-- The law as it is proved in Runs.
use Rattle.mr_exchange.proofs.Runs.{rows_stay}
use Rattle.mr_exchange.proofs.laws.rows_stay.Goals as goal

pub returns : goal.returns
returns c = rows_stay
