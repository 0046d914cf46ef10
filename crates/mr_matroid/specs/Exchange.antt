-- The first exchange that fails.
use Rattle.std.specs.Prelude.{ℕ, ◌≤◌, List, Contains}
use Rattle.mr_set.specs.Subsets.{IsBefore, choose}
use Rattle.mr_set.specs.Matroid.{Presentation, IsBasis, FailsExchange}
use Rattle.mr_set.specs.declared.TheConstants.{ELEMENTS, SETS}

-- a matroid of this size can be held
pub record IsWithinLimits (m : Presentation) : Type 0 where
  pub elements : m.elements ≤ ELEMENTS
  pub sets : choose m.elements m.rank ≤ SETS

-- each set of the rank's size is listed
abbrev pub HasNoBasis : Presentation → Type 0
HasNoBasis m = (x : List ℕ) → ¬ (IsBasis m x)

-- the exchange fails, and none does with an earlier b1, or with this b1 and an earlier b2, or with these and a lesser x
pub record IsFirstFailure (m : Presentation) (b1 b2 : List ℕ) (x : ℕ) : Type 0 where
  pub fails : FailsExchange m b1 b2 x
  pub first : (c1 c2 : List ℕ) (y : ℕ) → FailsExchange m c1 c2 y → ¬ (IsBefore c1 b1)
  pub second : (c2 : List ℕ) (y : ℕ) → FailsExchange m b1 c2 y → ¬ (IsBefore c2 b2)
  pub element : (y : ℕ) → FailsExchange m b1 b2 y → x ≤ y

-- no basis has the element
abbrev pub IsLoop : Presentation → ℕ → Type 0
IsLoop m e = (b : List ℕ) → IsBasis m b → ¬ (Contains b e)

-- each basis has the element
abbrev pub IsColoop : Presentation → ℕ → Type 0
IsColoop m e = (b : List ℕ) → IsBasis m b → Contains b e
