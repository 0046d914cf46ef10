-- A state as the program holds it: with the list of what each slot has.
use Rattle.std.specs.Prelude.{ℕ, List, Option}
use Rattle.mr_frame.specs.Frame.{Framed}
use Rattle.mr_nogood.specs.declared.row.Row.{Row}
use Rattle.mr_nogood.specs.Follows.{in_slots}
use Rattle.mr_exchange.specs.declared.problem.Problem.{Problem}
use Rattle.mr_exchange.specs.State.{Pass, State}

-- the parts of a state, its rows as a list
pub record Held : Type 0 where
  pub frame : Framed
  pub problem : Problem
  pub limit : ℕ
  pub claim : ℕ
  pub ticket : ℕ
  pub passes : List Pass
  pub slots : List (Option Row)

-- the state that is held
abbrev pub state_of : Held → State
state_of h = record { frame = h.frame; problem = h.problem; limit = h.limit; claim = h.claim; ticket = h.ticket; passes = h.passes; rows = in_slots h.slots }

-- the value of the fields
abbrev pub held : Framed → Problem → ℕ → ℕ → ℕ → List Pass → List (Option Row) → Held
held frame problem limit claim ticket passes slots = record { frame = frame; problem = problem; limit = limit; claim = claim; ticket = ticket; passes = passes; slots = slots }
