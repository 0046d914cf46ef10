-- The rows by their slots, those of a board first, and then those that are added.
use Rattle.std.specs.Prelude.{List, ◌++◌, Option, Some, map}
use Rattle.mr_nogood.specs.declared.row.Row.{Row}

-- the rows of a board by their slots, and the added rows
pub record TableIs : Type 0 where
  pub board : List (Option Row)
  pub added : List Row

-- the same from its parts
abbrev pub table_is : List (Option Row) → List Row → TableIs
table_is board added = record { board = board; added = added }

-- all of them, by their slots
abbrev pub all_rows : TableIs → List (Option Row)
all_rows t = t.board ++ map (λ row. Some row) t.added
