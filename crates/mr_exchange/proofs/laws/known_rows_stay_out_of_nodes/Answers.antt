-- The law as it is proved in Runs.
use Rattle.mr_exchange.proofs.Runs.{known_rows_stay_out_of_nodes}
use Rattle.mr_exchange.proofs.laws.known_rows_stay_out_of_nodes.Goals as goal

pub returns : goal.returns
returns c = known_rows_stay_out_of_nodes
