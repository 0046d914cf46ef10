-- When an answer for a cube is right.
use Rattle.std.specs.Prelude.{◌≡◌, ◌≢◌, ◌↔◌, ℕ, List, [], length, slice_get, Contains, Some}
use Rattle.std.specs.List.Sorted.{IsStrictlySortedBy}
use Rattle.mr_set.specs.Subsets.{list_cmp}
use Rattle.mr_assign.specs.Assign.{IsPartOf}
use Rattle.mr_frame.specs.Frame.{Framed}
use Rattle.mr_frame.specs.Test.{SetFails}
use Rattle.mr_frame.specs.Completion.{IsCompletion}
use Rattle.mr_nogood.specs.Follows.{Rows}
use Rattle.mr_nogood.specs.declared.row.Cite.TheVariants.{Nothing, Test, Slot}
use Rattle.mr_nogood.specs.declared.row.Row.{Row}
use Rattle.mr_exchange.specs.declared.problem.Problem.{Problem}
use Rattle.mr_exchange.specs.declared.answer.CubeAnswer.{CubeAnswer}
use Rattle.mr_exchange.specs.declared.answer.CubeAnswer.TheVariants.{Found, Refuted}
use Rattle.mr_exchange.specs.Cubes.{cube_at}

-- the list holds exactly the completions of the assignment, in increasing order
pub record AreCompletions (f : Framed) (a : List ℕ) (xs : List (List ℕ)) : Type 0 where
  pub increasing : IsStrictlySortedBy list_cmp xs
  pub exactly : (c : List ℕ) → Contains xs c ↔ IsCompletion f a c

-- an answer that is right for a cube's assignment, where these rows are there
abbrev pub IsRight : Framed → Rows → List ℕ → CubeAnswer → Type 0
IsRight f rows a (Found xs) = (xs ≢ []) × AreCompletions f a xs
IsRight f rows a (Refuted Nothing) = ⊥
IsRight f rows a (Refuted (Test x)) = SetFails f a x
IsRight f rows a (Refuted (Slot s)) = (row : Row) × (rows s ≡ Some row) × IsPartOf row.clause a

-- there is one answer for each cube, in order, and each is right where these rows are there
pub record AreAnswers (f : Framed) (problem : Problem) (rows : Rows) (answers : List CubeAnswer) : Type 0 where
  pub count : length answers ≡ problem.cubes
  pub right : (c : ℕ) (answer : CubeAnswer) → slice_get answers c ≡ Some answer → IsRight f rows (cube_at f problem.depth c) answer
