-- The law as it is proved in Runs.
use Rattle.mr_exchange.proofs.Runs.{rows_of_sound_states_exclude}
use Rattle.mr_exchange.proofs.laws.rows_of_sound_states_exclude.Goals as goal

pub returns : goal.returns
returns c = rows_of_sound_states_exclude
