-- What a pass has answered: words of private contracts and of the proofs.
use Rattle.std.specs.Prelude.{◌≡◌, ℕ, ◌≤◌, List, length, sum_by, Contains, Some, slice_get}
use Rattle.mr_frame.specs.Frame.{Framed}
use Rattle.mr_frame.specs.Test.{IsFirstFailing}
use Rattle.mr_nogood.specs.declared.row.Cite.TheVariants.{Test}
use Rattle.mr_nogood.specs.Follows.{Rows}
use Rattle.mr_exchange.specs.declared.answer.CubeAnswer.{CubeAnswer}
use Rattle.mr_exchange.specs.declared.answer.CubeAnswer.TheVariants.{Found, Refuted}
use Rattle.mr_exchange.specs.declared.ticket.Ticket.{Ticket}
use Rattle.mr_exchange.specs.Cubes.{cube_at}
use Rattle.mr_exchange.specs.Right.{IsRight}
use Rattle.mr_exchange.specs.Board.{Holding}
use Rattle.mr_search.specs.Nodes.{IsNodeOfCube}
use Rattle.mr_search.specs.Search.{AreNodes, IsOpened}
use Rattle.mr_pool.specs.Answers.{number_found}

-- a node of one of these cubes
pub record IsNodeOfOne (f : Framed) (depth : ℕ) (cubes : List ℕ) (node : List ℕ) : Type 0 where
  pub cube : ℕ
  pub among : Contains cubes cube
  pub is : IsNodeOfCube f depth cube node

-- Each of these cubes has an answer, in their order, which is right where these rows are there. A set that refutes a cube is the
-- first that fails under it. Each completion found was opened, and what was opened are different nodes of the cubes, no fewer
-- than the completions.
pub record HasAnswered (f : Framed) (depth : ℕ) (cubes : List ℕ) (tickets : List Ticket) (rows : Rows) (answers : List CubeAnswer) : Type 0 where
  pub count : length answers ≡ length cubes
  pub right : (k c : ℕ) (answer : CubeAnswer) → slice_get cubes k ≡ Some c → slice_get answers k ≡ Some answer → IsRight f rows (cube_at f depth c) answer
  pub first : (k c : ℕ) (x : List ℕ) → slice_get cubes k ≡ Some c → slice_get answers k ≡ Some (Refuted (Test x)) → IsFirstFailing f (cube_at f depth c) x
  pub opened : (k : ℕ) (xs : List (List ℕ)) (c : List ℕ) → slice_get answers k ≡ Some (Found xs) → Contains xs c → IsOpened tickets c
  pub few : sum_by number_found answers ≤ length tickets
  pub nodes : AreNodes (IsNodeOfOne f depth cubes) tickets

-- the same of what a pass has and knows
abbrev pub HasServed : Holding → List CubeAnswer → Type 0
HasServed h answers = HasAnswered h.frame h.problem.depth h.cubes h.tickets h.known answers
