-- A state as the program holds it, with the list of what each slot has. Words of private contracts and of the proofs.
use Rattle.std.specs.Prelude.{◌≡◌, ◌≤◌, length}
use Rattle.mr_exchange.specs.declared.TheConstants.{PASSES}
use Rattle.mr_exchange.specs.Cubes.{IsProblemOf}
use Rattle.mr_exchange.specs.Sound.{IsSound}
use Rattle.mr_exchange.specs.Held.{Held, state_of}

-- the state is sound, its problem is one of its frame, few passes may be made, and there is a slot for each node
pub record IsHeld (h : Held) : Type 0 where
  pub sound : IsSound (state_of h)
  pub problem : IsProblemOf h.frame h.problem
  pub limit : h.limit ≤ PASSES
  pub slots : length h.slots ≡ h.problem.nodes
