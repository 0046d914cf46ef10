-- A board for one pass: words of private contracts and of the proofs.
use Rattle.std.specs.Prelude.{◌≡◌, [], length}
use Rattle.mr_set.specs.Elements.{numbers_below}
use Rattle.mr_frame.specs.Frame.{IsFrame}
use Rattle.mr_exchange.specs.Cubes.{IsProblemOf}
use Rattle.mr_exchange.specs.State.{Pass, State, pass_at, slots_of}
use Rattle.mr_exchange.specs.Sound.{IsSound}
use Rattle.mr_exchange.specs.Board.{Holding, holding_in}
use Rattle.mr_exchange.specs.Plain.{PlainIs, plain_holding}

-- what a pass of a state has, and all rows of the state
abbrev pub whole_in : State → Pass → Holding
whole_in s p = record (holding_in s p) { known = s.rows }

-- what is kept of it: it is the one pass of a sound state of the frame and the problem, and its numbers are in order
pub record IsPlain (p : PlainIs) : Type 0 where
  pub state : State
  pub sound : IsSound state
  pub alone : (pass_at state 0).joined ≡ []
  pub one : (pass_at state 0).made ≡ 1
  pub is : whole_in state (pass_at state 0) ≡ plain_holding p
  pub frame : IsFrame p.frame
  pub problem : IsProblemOf p.frame p.problem
  pub size : length p.rows ≡ p.problem.nodes
  pub cubes : p.cubes ≡ numbers_below (length p.cubes)
  pub tickets : slots_of p.tickets ≡ numbers_below (length p.tickets)
