-- The law as it is proved in Runs.
use Rattle.mr_exchange.proofs.Runs.{new_states_are_sound}
use Rattle.mr_exchange.proofs.laws.new_states_are_sound.Goals as goal

pub returns : goal.returns
returns c = new_states_are_sound
