-- What is left of a board that was closed.
use Rattle.std.specs.Prelude.{◌≡◌, ℕ, min, List, length, Option}
use Rattle.mr_frame.specs.Frame.{Framed, IsFrame}
use Rattle.mr_nogood.specs.declared.row.Row.{Row}
use Rattle.mr_nogood.specs.Follows.{in_slots}
use Rattle.mr_exchange.specs.declared.problem.Problem.{Problem}
use Rattle.mr_exchange.specs.Cubes.{IsProblemOf}
use Rattle.mr_exchange.specs.State.{State}
use Rattle.mr_exchange.specs.Sound.{IsSound}

-- the frame and the problem, how many nodes were opened and cubes claimed, and the rows by their slots
pub record ClosedIs : Type 0 where
  pub frame : Framed
  pub problem : Problem
  pub opened : ℕ
  pub claimed : ℕ
  pub rows : List (Option Row)

-- the same from its parts
abbrev pub closed_is : Framed → Problem → ℕ → ℕ → List (Option Row) → ClosedIs
closed_is f problem opened claimed rows = record { frame = f; problem = problem; opened = opened; claimed = claimed; rows = rows }

-- A sound state of this frame and problem has just these rows, one or none for each slot, and its words are the numbers of
-- nodes and cubes, where they are not above what there is.
pub record IsShown (c : ClosedIs) : Type 0 where
  pub possible : IsProblemOf c.frame c.problem
  pub state : State
  pub frame : state.frame ≡ c.frame
  pub problem : state.problem ≡ c.problem
  pub sound : IsSound state
  pub size : length c.rows ≡ c.problem.nodes
  pub rows : (slot : ℕ) → state.rows slot ≡ in_slots c.rows slot
  pub opened : c.opened ≡ min state.ticket c.problem.nodes
  pub claimed : c.claimed ≡ min state.claim c.problem.cubes

-- what is kept of it: the frame is one, and a sound state is shown
pub record IsClosed (c : ClosedIs) : Type 0 where
  pub frame : IsFrame c.frame
  pub shown : IsShown c
