-- The rank of a row among given ones.
use Rattle.std.specs.Prelude.{◌≡◌, ℕ, ◌<◌, ◌≤◌, Some}
use Rattle.mr_nogood.specs.Row.{cite_for}
use Rattle.mr_nogood.specs.Follows.{Rows}
use Rattle.mr_nogood.specs.declared.row.Row.{Row}
use Rattle.mr_nogood.specs.declared.row.Cite.TheVariants.{Slot}

-- the number is above the rank of each given row that the row cites
abbrev pub IsAboveCited : Rows → Row → ℕ → Type 0
IsAboveCited given row n = (k slot : ℕ) (cited : Row) → cite_for row k ≡ Slot slot → given slot ≡ Some cited → cited.rank < n

-- the least number above the ranks that the row cites, 0 where it cites no row
pub record HasLeastRank (given : Rows) (row : Row) : Type 0 where
  pub above : IsAboveCited given row row.rank
  pub least : (n : ℕ) → IsAboveCited given row n → row.rank ≤ n
