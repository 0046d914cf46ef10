-- A partial map from positions to values, as the list of each position's value, 0 where it has none.
use Rattle.std.specs.Prelude.{◌≡◌, ◌≢◌, ℕ, ◌≤◌, List, [], ◌∷◌, length, All, ◌==◌, if◌then◌else◌, slice_index, replicate}
use Rattle.mr_assign.specs.declared.TheConstants.{POSITIONS, VALUES}

-- each position has a value, or 0
pub record IsAssign (a : List ℕ) : Type 0 where
  pub positions : length a ≡ POSITIONS
  pub values : All (λ v. v ≤ VALUES) a

-- the map that gives no value
abbrev pub no_values : List ℕ
no_values = replicate POSITIONS 0

-- each pair of b is one of a
abbrev pub IsPartOf : List ℕ → List ℕ → Type 0
IsPartOf b a = (p : ℕ) → slice_index b p ≢ 0 → slice_index a p ≡ slice_index b p

-- position p has a value in each map, and the two differ
pub record IsConflict (a b : List ℕ) (p : ℕ) : Type 0 where
  pub left : slice_index a p ≢ 0
  pub right : slice_index b p ≢ 0
  pub differs : slice_index a p ≢ slice_index b p

-- the pairs of a, and those of b at the other positions
abbrev pub map_union : List ℕ → List ℕ → List ℕ
map_union [] b = b
map_union (x ∷ a) [] = x ∷ a
map_union (x ∷ a) (y ∷ b) = (if x == 0 then y else x) ∷ map_union a b
