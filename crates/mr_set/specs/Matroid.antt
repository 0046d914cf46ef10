-- Matroids by their bases.
use Rattle.std.specs.Prelude.{ℕ, ◌≤◌, List, length, All, Contains}
use Rattle.std.specs.List.Sorted.{IsStrictlySortedBy}
use Rattle.mr_set.specs.Elements.{IsSet, IsSubset, with_element, without_element}
use Rattle.mr_set.specs.Subsets.{IsSetOf, IsBefore, list_cmp}

-- a number of elements, a rank, and the sets of that size that are no bases
pub record Presentation : Type 0 where
  pub elements : ℕ
  pub rank : ℕ
  pub nonbases : List (List ℕ)

-- the rank is at most the number of elements, and the nonbases are sets of that size in increasing order
pub record IsPresentation (m : Presentation) : Type 0 where
  pub rank : m.rank ≤ m.elements
  pub sets : All (IsSetOf m.elements m.rank) m.nonbases
  pub increasing : IsStrictlySortedBy list_cmp m.nonbases

-- a set of the rank's size that isn't listed
abbrev pub IsBasis : Presentation → List ℕ → Type 0
IsBasis m x = IsSetOf m.elements m.rank x × ¬ (Contains m.nonbases x)

-- b1 and b2 are bases, x lies in b1 alone, and no element of b2 alone can take the place of x in b1
pub record FailsExchange (m : Presentation) (b1 b2 : List ℕ) (x : ℕ) : Type 0 where
  pub first : IsBasis m b1
  pub second : IsBasis m b2
  pub inside : Contains b1 x
  pub outside : ¬ (Contains b2 x)
  pub none : (y : ℕ) → Contains b2 y → ¬ (Contains b1 y) → ¬ (IsBasis m (with_element y (without_element x b1)))

-- there is a basis, and no exchange fails
pub record IsMatroid (m : Presentation) : Type 0 where
  pub presentation : IsPresentation m
  pub basis : (b : List ℕ) × IsBasis m b
  pub exchange : (b1 b2 : List ℕ) (x : ℕ) → ¬ (FailsExchange m b1 b2 x)

-- the least basis
pub record IsFirstBasis (m : Presentation) (b : List ℕ) : Type 0 where
  pub basis : IsBasis m b
  pub least : (x : List ℕ) → IsBasis m x → ¬ (IsBefore x b)

-- a subset of some basis
abbrev pub IsIndependent : Presentation → List ℕ → Type 0
IsIndependent m x = (b : List ℕ) × IsBasis m b × IsSubset x b

-- k is the greatest size of an independent subset of x
pub record IsRank (m : Presentation) (x : List ℕ) (k : ℕ) : Type 0 where
  pub reached : (y : List ℕ) × IsSetOf m.elements k y × IsSubset y x × IsIndependent m y
  pub greatest : (y : List ℕ) → IsSet m.elements y → IsSubset y x → IsIndependent m y → length y ≤ k
