-- The first set that fails for each value of a position.
use Rattle.std.proofs.Common.{ℕ, List, set, Option, Some, None}
use Rattle.std.specs.Prelude.{MatchOption}
use Rattle.mr_frame.specs.Frame.{Framed}
use Rattle.mr_frame.specs.Parts.{NoneFailsLast, IsFirstFailingLast}
use Rattle.mr_propagate.specs.Index.{NoneFailsAt, IsFirstFailingAt, IsFilledBelow}
use Rattle.mr_propagate.proofs.Failing.{needs_last}
use Rattle.mr_propagate.proofs.Finding.{last_filled}

-- where no later position has a value, it is the first among those whose part has the position as its last one
pub first_of_last : (f : Framed) (node : List ℕ) (p v : ℕ) → IsFilledBelow node p → (first : Option (List ℕ)) →
    MatchOption first (NoneFailsLast f (set node p v) p) (IsFirstFailingLast f (set node p v) p) → MatchOption first (NoneFailsAt f (set node p v) p) (IsFirstFailingAt f (set node p v) p)
first_of_last f node p v filled None none = λ x needs fails. none x (needs_last f (set node p v) x p (λ q lt. last_filled node p v q filled lt) needs fails) fails
first_of_last f node p v filled (Some x) is = record {
  needs = is.needs.needs;
  fails = is.fails;
  least = λ y needs fails before. is.least y (needs_last f (set node p v) y p (λ q lt. last_filled node p v q filled lt) needs fails) fails before;
}
