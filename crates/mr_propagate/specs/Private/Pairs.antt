-- The least and the greatest pair of a map, and numbers of pairs: words of private contracts and of the proofs.
use Rattle.std.specs.Prelude.{◌≡◌, ◌≢◌, ◌⊎◌, ℕ, ◌+◌, ◌*◌, ◌<◌, ◌≤◌, List, slice_index}
use Rattle.mr_assign.specs.declared.TheConstants.{POSITIONS, VALUES}

-- the map gives no value
abbrev pub IsEmpty : List ℕ → Type 0
IsEmpty c = (q : ℕ) → slice_index c q ≡ 0

-- p has the value v, and no position after it has one
pub record IsGreatestPair (c : List ℕ) (p v : ℕ) : Type 0 where
  pub value : slice_index c p ≡ v
  pub some : v ≢ 0
  pub greatest : (q : ℕ) → p < q → slice_index c q ≡ 0

-- a position and a value, not 0
pub record IsPair (p v : ℕ) : Type 0 where
  pub position : p < POSITIONS
  pub some : 0 < v
  pub value : v ≤ VALUES

-- the number of a pair, which isn't 0
abbrev pub pair_number : ℕ → ℕ → ℕ
pair_number p v = p * VALUES + v

-- the number of the pair that is so, and 0 for the empty map
abbrev pub IsPairNumber : (List ℕ → ℕ → ℕ → Type 0) → List ℕ → ℕ → Type 0
IsPairNumber R c k = ((k ≡ 0) × IsEmpty c) ⊎ ((p : ℕ) × (v : ℕ) × (k ≡ pair_number p v) × R c p v)

-- the node has the pair of this number, or the number is that of none
abbrev pub IsStart : List ℕ → ℕ → Type 0
IsStart node k = (k ≡ 0) ⊎ ((p : ℕ) × (v : ℕ) × IsPair p v × (k ≡ pair_number p v) × (slice_index node p ≡ v))
