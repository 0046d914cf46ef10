-- The search for the first exchange that fails.
use Rattle.std.specs.Prelude.{ℕ, ◌<◌, ◌≤◌, List, Option, Some, None}
use Rattle.mr_set.specs.Subsets.{IsBefore}
use Rattle.mr_set.specs.Matroid.{Presentation, FailsExchange}

-- no exchange from z fails
abbrev pub NoneFrom : Presentation → List ℕ → Type 0
NoneFrom m z = (c : List ℕ) (x : ℕ) → ¬ (FailsExchange m z c x)

-- no exchange of x from b1 fails
abbrev pub NoneAt : Presentation → List ℕ → ℕ → Type 0
NoneAt m b1 x = (c : List ℕ) → ¬ (FailsExchange m b1 c x)

-- b2 is the first basis with which the exchange of x from b1 fails
pub record IsFirstFrom (m : Presentation) (b1 : List ℕ) (x : ℕ) (b2 : List ℕ) : Type 0 where
  pub fails : FailsExchange m b1 b2 x
  pub least : (c : List ℕ) → FailsExchange m b1 c x → ¬ (IsBefore c b2)

-- of the elements below n, b2 is the first basis with which an exchange from b1 fails, and x the least that fails with it
pub record IsBest (m : Presentation) (b1 : List ℕ) (n : ℕ) (b2 : List ℕ) (x : ℕ) : Type 0 where
  pub fails : FailsExchange m b1 b2 x
  pub below : x < n
  pub second : (c : List ℕ) (y : ℕ) → y < n → FailsExchange m b1 c y → ¬ (IsBefore c b2)
  pub element : (y : ℕ) → y < n → FailsExchange m b1 b2 y → x ≤ y

-- the best so far, or none of the elements below n fails
abbrev pub IsBestBelow : Presentation → List ℕ → ℕ → Option (List ℕ × ℕ) → Type 0
IsBestBelow m b1 n None = (y : ℕ) → y < n → (c : List ℕ) → ¬ (FailsExchange m b1 c y)
IsBestBelow m b1 n (Some p) = IsBest m b1 n p.0 p.1
