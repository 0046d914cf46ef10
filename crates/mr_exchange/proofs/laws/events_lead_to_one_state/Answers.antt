-- The law as it is proved in Runs.
use Rattle.mr_exchange.proofs.Runs.{events_lead_to_one_state}
use Rattle.mr_exchange.proofs.laws.events_lead_to_one_state.Goals as goal

pub returns : goal.returns
returns c = events_lead_to_one_state
