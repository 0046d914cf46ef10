-- Which sets of one size are listed, and what the others offer to an exchange: words of private contracts and of the proofs.
use Rattle.std.specs.Prelude.{◌≡◌, ◌↔◌, ℕ, ◌<◌, Bool, true, false, List, length, Contains, slice_index_or}
use Rattle.std.specs.List.Sorted.{IsStrictlySortedBy}
use Rattle.mr_set.specs.Subsets.{IsSetOf, choose, list_cmp}
use Rattle.mr_set.specs.Places.{IsPlaceOf}
use Rattle.mr_set.specs.Matroid.{Presentation, IsPresentation, IsBasis}
use Rattle.mr_matroid.specs.Exchange.{IsWithinLimits}
use Rattle.mr_matroid.specs.Table.{AreApart}

-- numbers and sets that are a presentation within the limits
pub record IsHeld (m : Presentation) : Type 0 where
  pub presentation : IsPresentation m
  pub limits : IsWithinLimits m

-- a flag for each set of r of the first n elements, by its place among them, that tells whether it is listed
pub record AreFlags (n r : ℕ) (sets : List (List ℕ)) (flags : List Bool) : Type 0 where
  pub size : length flags ≡ choose n r
  pub each : (x : List ℕ) (k : ℕ) → IsSetOf n r x → IsPlaceOf n x k → (slice_index_or flags k false ≡ true) ↔ Contains sets x

-- all bases, in order
pub record AreBases (m : Presentation) (bases : List (List ℕ)) : Type 0 where
  pub increasing : IsStrictlySortedBy list_cmp bases
  pub exactly : (x : List ℕ) → Contains bases x ↔ IsBasis m x

-- s is the first of the sets that has no element of f
pub record IsFirstApart (sets : List (List ℕ)) (f s : List ℕ) : Type 0 where
  pub place : ℕ
  pub within : place < length sets
  pub here : slice_index_or sets place s ≡ s
  pub apart : AreApart s f
  pub first : (k : ℕ) (d : List ℕ) → k < place → ¬ (AreApart (slice_index_or sets k d) f)
