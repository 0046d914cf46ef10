-- The first set that is due at a position and fails.
use Rattle.std.specs.Prelude.{ℕ, List}
use Rattle.mr_set.specs.Subsets.{IsBefore}
use Rattle.mr_frame.specs.Frame.{Framed}
use Rattle.mr_frame.specs.Test.{NeedsLast, SetFails}

-- no set fails whose part has p as its last free position
abbrev pub NoneFailsLast : Framed → List ℕ → ℕ → Type 0
NoneFailsLast f a p = (x : List ℕ) → NeedsLast f x p → ¬ (SetFails f a x)

-- the first set that fails among those whose part has p as its last free position
pub record IsFirstFailingLast (f : Framed) (a : List ℕ) (p : ℕ) (x : List ℕ) : Type 0 where
  pub needs : NeedsLast f x p
  pub fails : SetFails f a x
  pub least : (y : List ℕ) → NeedsLast f y p → SetFails f a y → ¬ (IsBefore y x)
