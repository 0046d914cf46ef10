-- Answers beside their cubes, and answers at the places of their cubes.
use Rattle.std.specs.Prelude.{◌≡◌, ◌↔◌, ℕ, ◌+◌, List, [], ◌∷◌, ◌++◌, map, slice_set, sum_by, Contains, Option, Some, None, slice_get}
use Rattle.mr_exchange.specs.declared.answer.CubeAnswer.{CubeAnswer}
use Rattle.mr_exchange.specs.Board.{Holding}
use Rattle.mr_pool.specs.declared.answered.Answered.{Answered}
use Rattle.mr_pool.specs.Answers.{number_found}
use Rattle.mr_pool.specs.Private.Answers.{HasServed}

-- a cube and its answer
abbrev pub answered : ℕ → CubeAnswer → Answered
answered cube answer = record { cube = cube; answer = answer }

-- the cubes of a list
abbrev pub cubes_of : List Answered → List ℕ
cubes_of list = map (λ (a : Answered). a.cube) list

-- the answers of a list
abbrev pub answers_of : List Answered → List CubeAnswer
answers_of list = map (λ (a : Answered). a.answer) list

-- the list has the pass's cubes, in their order, and their answers
pub record HasListed (h : Holding) (list : List Answered) : Type 0 where
  pub cubes : cubes_of list ≡ h.cubes
  pub served : HasServed h (answers_of list)

-- the row in which each answer of the list was put at the place of its cube
abbrev pub with_answers : List (Option CubeAnswer) → List Answered → List (Option CubeAnswer)
with_answers row [] = row
with_answers row (a ∷ list) = with_answers (slice_set row a.cube (Some a.answer)) list

-- the answers that are there
abbrev pub present : List (Option CubeAnswer) → List CubeAnswer
present [] = []
present (None ∷ row) = present row
present (Some answer ∷ row) = answer ∷ present row
