-- The least pair of a map.
use Rattle.std.specs.Prelude.{◌≡◌, ◌≢◌, ℕ, ◌<◌, List, slice_index}

-- p has the value v, and no position before it has one
pub record IsLeastPair (c : List ℕ) (p v : ℕ) : Type 0 where
  pub value : slice_index c p ≡ v
  pub some : v ≢ 0
  pub least : (q : ℕ) → q < p → slice_index c q ≡ 0
