-- the events before this place led to the state
use Rattle.mr_exchange.specs.State.{new_state}
use Rattle.mr_exchange.proofs.OneByOne.{HasReplayed}
use Rattle.mr_exchange.proofs.replaying.replay.Given as goal

abbrev pub invariant-loop-place : goal.invariant-loop-place
invariant-loop-place l = HasReplayed l.frame (new_state l.frame l.fn.problem l.passes) l.events l.place l.state
