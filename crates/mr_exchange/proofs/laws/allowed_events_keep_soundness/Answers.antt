-- The law as it is proved in Runs.
use Rattle.mr_exchange.proofs.Runs.{allowed_events_keep_soundness}
use Rattle.mr_exchange.proofs.laws.allowed_events_keep_soundness.Goals as goal

pub returns : goal.returns
returns c = allowed_events_keep_soundness
