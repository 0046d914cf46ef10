-- What is looked at before a row's cites, and what is looked at in one cite.
use Rattle.std.specs.Prelude.{◌≡◌, ℕ, ◌+◌, ◌<◌, ◌≤◌, List, Option, Some, None, length, slice_index, slice_set}
use Rattle.mr_field.specs.Gf.{order}
use Rattle.mr_assign.specs.Assign.{IsAssign, IsPartOf}
use Rattle.mr_frame.specs.Frame.{Framed}
use Rattle.mr_frame.specs.Test.{IsAssignmentOf, SetFails}
use Rattle.mr_nogood.specs.Row.{cite_for}
use Rattle.mr_nogood.specs.Follows.{Rows}
use Rattle.mr_nogood.specs.declared.row.Cite.{Cite}
use Rattle.mr_nogood.specs.declared.row.Cite.TheVariants.{Nothing, Test, Slot}
use Rattle.mr_nogood.specs.declared.row.Row.{Row}

-- the clause is an assignment, and it gives no value to the row's position, which is free
pub record IsOpen (f : Framed) (row : Row) : Type 0 where
  pub map : IsAssign row.clause
  pub clause : IsAssignmentOf f row.clause
  pub position : row.at < length f.places
  pub no_value : slice_index row.clause row.at ≡ 0

-- the row that a cite names
abbrev pub cited_row : Rows → Cite → Option Row
cited_row given Nothing = None
cited_row given (Test x) = None
cited_row given (Slot s) = given s

-- when a cite holds of an assignment, where the row that it names is known
abbrev pub HoldsBy : Framed → Option Row → ℕ → List ℕ → Cite → Type 0
HoldsBy f found rank a Nothing = ⊥
HoldsBy f found rank a (Test x) = SetFails f a x
HoldsBy f found rank a (Slot s) = (row : Row) × (found ≡ Some row) × (row.rank < rank) × IsPartOf row.clause a

-- the cite for the value k + 1 is such as a row that follows has, where the row that it names is known
pub record Accounts (f : Framed) (row : Row) (found : Option Row) (k : ℕ) : Type 0 where
  pub within : k + 1 < order f.field → HoldsBy f found row.rank (slice_set row.clause row.at (k + 1)) (cite_for row k)
  pub past : order f.field ≤ k + 1 → cite_for row k ≡ Nothing
