-- The first exchange that fails: words of private contracts and of the proofs.
use Rattle.std.specs.Prelude.{ℕ, ◌≤◌, List}
use Rattle.mr_set.specs.Subsets.{IsBefore}
use Rattle.mr_set.specs.Matroid.{Presentation, FailsExchange}

-- the exchange fails, and none does with this b1 and an earlier b2, or with these and a lesser x
pub record IsFirstSecond (m : Presentation) (b1 b2 : List ℕ) (x : ℕ) : Type 0 where
  pub fails : FailsExchange m b1 b2 x
  pub second : (c2 : List ℕ) (y : ℕ) → FailsExchange m b1 c2 y → ¬ (IsBefore c2 b2)
  pub element : (y : ℕ) → FailsExchange m b1 b2 y → x ≤ y
