-- When a row follows from given ones, and what it excludes.
use Rattle.std.specs.Prelude.{◌≡◌, ℕ, ◌+◌, ◌<◌, ◌≤◌, List, Option, Some, None, length, slice_get, slice_index, slice_set}
use Rattle.mr_field.specs.Gf.{order}
use Rattle.mr_assign.specs.Assign.{IsAssign, IsPartOf}
use Rattle.mr_frame.specs.Frame.{Framed}
use Rattle.mr_frame.specs.Test.{IsAssignmentOf, SetFails}
use Rattle.mr_frame.specs.Completion.{IsCompletion}
use Rattle.mr_nogood.specs.Row.{cite_for}
use Rattle.mr_nogood.specs.declared.row.Cite.{Cite}
use Rattle.mr_nogood.specs.declared.row.Cite.TheVariants.{Nothing, Test, Slot}
use Rattle.mr_nogood.specs.declared.row.Row.{Row}

-- the rows that are given, by their numbers
abbrev pub Rows : Type 0
Rows = ℕ → Option Row

-- the rows of a list, by their places
abbrev pub in_list : List Row → Rows
in_list rows s = slice_get rows s

-- the rows of a list that has none at some places
abbrev pub in_slots : List (Option Row) → Rows
in_slots rows s = at_slot (slice_get rows s)
  where
    at_slot : Option (Option Row) → Option Row
    at_slot None = None
    at_slot (Some slot) = slot

-- A cite holds of an assignment where it is a set that fails under it, or a given row of smaller rank whose clause is a
-- part of it.
abbrev pub CiteHolds : Framed → Rows → ℕ → List ℕ → Cite → Type 0
CiteHolds f given rank a Nothing = ⊥
CiteHolds f given rank a (Test x) = SetFails f a x
CiteHolds f given rank a (Slot s) = (row : Row) × (given s ≡ Some row) × (row.rank < rank) × IsPartOf row.clause a

-- The clause is an assignment that gives no value to the row's position. Whichever value the position is given then, the
-- cite for it holds. There are no cites for values that the field doesn't have.
pub record Follows (f : Framed) (given : Rows) (row : Row) : Type 0 where
  pub map : IsAssign row.clause
  pub clause : IsAssignmentOf f row.clause
  pub position : row.at < length f.places
  pub no_value : slice_index row.clause row.at ≡ 0
  pub cites : (k : ℕ) → k + 1 < order f.field → CiteHolds f given row.rank (slice_set row.clause row.at (k + 1)) (cite_for row k)
  pub others : (k : ℕ) → order f.field ≤ k + 1 → cite_for row k ≡ Nothing

-- no full assignment that contains the clause is one under which no set fails
abbrev pub Excludes : Framed → Row → Type 0
Excludes f row = (c : List ℕ) → ¬ (IsCompletion f row.clause c)
