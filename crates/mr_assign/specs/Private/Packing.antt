-- Words of sixteen nibbles each, the least position in the lowest bits: words of private contracts and of the proofs.
use Rattle.std.specs.Prelude.{◌≡◌, ℕ, ◌^◌, ◌<◌, ◌≤◌, List, length, slice_index}
use Rattle.mr_assign.specs.declared.TheConstants.{CLAUSE_WORDS, VALUES}
use Rattle.mr_assign.specs.Packing.{nibble_at}

-- words whose nibbles are values or 0
pub record IsPacking (words : List ℕ) : Type 0 where
  pub size : length words ≡ CLAUSE_WORDS
  pub range : (i : ℕ) → slice_index words i < 2 ^ 64
  pub values : (p : ℕ) → nibble_at words p ≤ VALUES
