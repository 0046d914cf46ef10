-- The rows by their slots, those of a board first, and then those that are added: words of private contracts and of the proofs.
use Rattle.std.specs.Prelude.{◌≡◌, ℕ, ◌<◌, List, Option, Some, length}
use Rattle.mr_frame.specs.Frame.{Framed}
use Rattle.mr_nogood.specs.declared.row.Row.{Row}
use Rattle.mr_nogood.specs.declared.row.Cite.TheVariants.{Slot}
use Rattle.mr_nogood.specs.Row.{cite_for}
use Rattle.mr_nogood.specs.Follows.{in_slots, Follows}

-- each row follows from the rows, and its rank is below the number of slots
pub record AreSupported (f : Framed) (rows : List (Option Row)) : Type 0 where
  pub follow : (s : ℕ) (row : Row) → in_slots rows s ≡ Some row → Follows f (in_slots rows) row
  pub low : (s : ℕ) (row : Row) → in_slots rows s ≡ Some row → row.rank < length rows

-- what a row cites is there, and has a smaller rank
abbrev pub CiteSmaller : List (Option Row) → Type 0
CiteSmaller rows = (s k t : ℕ) (row : Row) → in_slots rows s ≡ Some row → cite_for row k ≡ Slot t → (other : Row) × (in_slots rows t ≡ Some other) × (other.rank < row.rank)
