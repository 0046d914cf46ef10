-- The answers of all cubes, and what the closed board of a search shows.
use Rattle.std.specs.Prelude.{◌≡◌, ℕ, ◌+◌, List, length, Some, slice_get}
use Rattle.mr_frame.specs.Frame.{Framed}
use Rattle.mr_frame.specs.Test.{IsFirstFailing}
use Rattle.mr_nogood.specs.declared.row.Cite.TheVariants.{Test}
use Rattle.mr_exchange.specs.declared.problem.Problem.{Problem}
use Rattle.mr_exchange.specs.declared.answer.CubeAnswer.{CubeAnswer}
use Rattle.mr_exchange.specs.declared.answer.CubeAnswer.TheVariants.{Found, Refuted}
use Rattle.mr_exchange.specs.Cubes.{cube_at}
use Rattle.mr_exchange.specs.Closed.{ClosedIs}
use Rattle.mr_search.specs.Nodes.{IsNode, HoldsOfMany}
use Rattle.mr_pool.specs.declared.answer.PoolStop.{PoolStop}
use Rattle.mr_pool.specs.declared.answer.PoolStop.TheVariants.{Stopped, Memory}

-- each set that refutes a cube is the first that fails under it
abbrev pub AreFirst : Framed → Problem → List CubeAnswer → Type 0
AreFirst f problem answers = (c : ℕ) (x : List ℕ) → slice_get answers c ≡ Some (Refuted (Test x)) → IsFirstFailing f (cube_at f problem.depth c) x

-- how many completions an answer has
abbrev pub number_found : CubeAnswer → ℕ
number_found (Found xs) = length xs
number_found (Refuted cite) = 0

-- the board of this frame and problem was closed after all cubes were claimed, and no more nodes were opened than there are
pub record IsSearched (f : Framed) (problem : Problem) (closed : ClosedIs) : Type 0 where
  pub frame : closed.frame ≡ f
  pub problem_is : closed.problem ≡ problem
  pub claimed : closed.claimed ≡ problem.cubes
  pub most : HoldsOfMany (IsNode f problem.depth) closed.opened

-- the board of this frame and problem was closed after as many nodes were opened as may be, and there are more
pub record IsSpent (f : Framed) (problem : Problem) (closed : ClosedIs) : Type 0 where
  pub frame : closed.frame ≡ f
  pub problem_is : closed.problem ≡ problem
  pub opened : closed.opened ≡ problem.nodes
  pub fewer : HoldsOfMany (IsNode f problem.depth) (problem.nodes + 1)

-- so it is where the stop has a closed board
abbrev pub IsStop : Framed → Problem → PoolStop → Type 0
IsStop f problem (Stopped closed) = IsSpent f problem closed
IsStop f problem Memory = Unit {0}
