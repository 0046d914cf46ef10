-- The answers of all cubes.
use Rattle.std.specs.Prelude.{◌≡◌, ℕ, List, Some, slice_get}
use Rattle.mr_exchange.specs.declared.answer.CubeAnswer.{CubeAnswer}
use Rattle.mr_exchange.specs.declared.answer.CubeAnswer.TheVariants.{Found}

-- some cube has completions
abbrev pub HasFound : List CubeAnswer → Type 0
HasFound answers = (c : ℕ) × (xs : List (List ℕ)) × (slice_get answers c ≡ Some (Found xs))
