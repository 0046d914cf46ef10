-- What a frame keeps of each set for its test, and the first sets that fail: words of private contracts and of the proofs.
use Rattle.std.specs.Prelude.{◌≡◌, ◌↔◌, ℕ, ◌<◌, Bool, List, [], Option, Some, None, IsTrue, if◌then◌else◌, length, slice_get, slice_index_or}
use Rattle.mr_set.specs.Elements.{minus}
use Rattle.mr_set.specs.Matroid.{Presentation, IsBasis}
use Rattle.mr_frame.specs.Private.Filling.{AreRows}
use Rattle.mr_frame.specs.declared.part.Part.{Part}

-- the rows and columns of the part of the set x, and whether x is a basis
pub record IsPartOfSet (m : Presentation) (b x : List ℕ) (part : Part) : Type 0 where
  pub set : part.set ≡ x
  pub rows : AreRows b x part.rows
  pub columns : part.columns ≡ minus x b
  pub basis : IsTrue part.basis ↔ IsBasis m x

-- so it is for each set of a list
pub record AreParts (m : Presentation) (b : List ℕ) (sets : List (List ℕ)) (parts : List Part) : Type 0 where
  pub count : length parts ≡ length sets
  pub each : (k : ℕ) (part : Part) → slice_get parts k ≡ Some part → IsPartOfSet m b (slice_index_or sets k []) part

-- and for each list
pub record ArePartLists (m : Presentation) (b : List ℕ) (due : List (List (List ℕ))) (parts : List (List Part)) : Type 0 where
  pub count : length parts ≡ length due
  pub each : (p : ℕ) → p < length due → AreParts m b (slice_index_or due p []) (slice_index_or parts p [])

-- the one, if there is one, else x where it is flagged
abbrev pub first_of : Option (List ℕ) → Bool → List ℕ → Option (List ℕ)
first_of (Some y) flag x = Some y
first_of None flag x = if flag then Some x else None
