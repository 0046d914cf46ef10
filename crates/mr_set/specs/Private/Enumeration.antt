-- Words of the proofs: the sets of one size whose elements begin at some number, in lexicographic order.
use Rattle.std.specs.Prelude.{◌≡◌, ℕ, zero, suc, ◌+◌, ◌-◌, ◌^◌, ◌<◌, ◌≤◌, List, [], ◌∷◌, ◌++◌, length, map, All}
use Rattle.std.specs.List.Sorted.{IsStrictlySortedBy}
use Rattle.std.specs.Ordering.{nat_cmp}
use Rattle.mr_set.specs.Subsets.{IsBefore}

-- a set of elements from low on and below n
pub record IsFrom (low n : ℕ) (x : List ℕ) : Type 0 where
  pub increasing : IsStrictlySortedBy nat_cmp x
  pub within : All (λ e. e < n) x
  pub from : All (λ e. low ≤ e) x

-- so many numbers from low on, one after another
unfoldable pub run : ℕ → ℕ → List ℕ
run low zero = []
run low (suc count) = low ∷ run (low + 1) count

-- among the sets of its size with elements from low on, y is the next after x
pub record IsNextFrom (low n : ℕ) (x y : List ℕ) : Type 0 where
  pub set : IsFrom low n y
  pub size : length y ≡ length x
  pub after : IsBefore x y
  pub none_between : (z : List ℕ) → IsFrom low n z → length z ≡ length x → IsBefore x z → IsBefore z y → ⊥

-- none of those comes after x
abbrev pub IsLastFrom : ℕ → ℕ → List ℕ → Type 0
IsLastFrom low n x = (z : List ℕ) → IsFrom low n z → length z ≡ length x → IsBefore x z → ⊥

-- the sets of r elements among m from low on, in order: first those with low, then the others
unfoldable pub sets_from : ℕ → ℕ → ℕ → List (List ℕ)
sets_from low m zero = [] ∷ []
sets_from low zero (suc r) = []
sets_from low (suc m) (suc r) = map (λ x. low ∷ x) (sets_from (low + 1) m r) ++ sets_from (low + 1) m (suc r)

-- a number that falls from a set to the next of its size
unfoldable pub weight : List ℕ → ℕ
weight [] = 0
weight (e ∷ es) = 2 ^ (31 - e) + weight es
