-- Places of sets among all sets of their size, in lexicographic order.
use Rattle.std.specs.Prelude.{◌≡◌, ◌↔◌, ℕ, List, length, Contains, Some}
use Rattle.std.specs.List.{slice_get}
use Rattle.std.specs.List.Sorted.{IsStrictlySortedBy}
use Rattle.mr_set.specs.Subsets.{IsSetOf, list_cmp}

-- all sets of r of the first n elements, in order
pub record IsAllSets (n r : ℕ) (all : List (List ℕ)) : Type 0 where
  pub increasing : IsStrictlySortedBy list_cmp all
  pub exactly : (x : List ℕ) → Contains all x ↔ IsSetOf n r x

-- x stands at place k among all sets of its size, counted from 0
pub record IsPlaceOf (n : ℕ) (x : List ℕ) (k : ℕ) : Type 0 where
  pub all : List (List ℕ)
  pub listed : IsAllSets n (length x) all
  pub here : slice_get all k ≡ Some x
