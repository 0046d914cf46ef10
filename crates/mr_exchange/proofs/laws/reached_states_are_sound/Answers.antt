-- The law as it is proved in Runs.
use Rattle.mr_exchange.proofs.Runs.{reached_states_are_sound}
use Rattle.mr_exchange.proofs.laws.reached_states_are_sound.Goals as goal

pub returns : goal.returns
returns c = reached_states_are_sound
