-- What holds of all rows.
use Rattle.std.specs.Prelude.{◌≡◌, ℕ, ◌<◌, Some}
use Rattle.mr_frame.specs.Frame.{Framed, IsFrame}
use Rattle.mr_nogood.specs.Row.{IsRow, cite_for}
use Rattle.mr_nogood.specs.Follows.{Rows, Follows, Excludes}
use Rattle.mr_nogood.specs.Packing.{row_packing}
use Rattle.mr_nogood.specs.Unpacking.{unpacked}
use Rattle.mr_nogood.specs.declared.row.Cite.TheVariants.{Slot}
use Rattle.mr_nogood.specs.declared.row.Row.{Row}

-- a row that follows from rows without completions has none
abbrev pub RowsThatFollowExclude : Type 0
RowsThatFollowExclude = (f : Framed) (given : Rows) (row : Row) → IsFrame f → Follows f given row
    → ((s : ℕ) (r : Row) → given s ≡ Some r → r.rank < row.rank → Excludes f r) → Excludes f row

-- where more rows are given, no less follows
abbrev pub MoreRowsKeepWhatFollows : Type 0
MoreRowsKeepWhatFollows = (f : Framed) (some more : Rows) (row : Row) → ((s : ℕ) (r : Row) → some s ≡ Some r → more s ≡ Some r) → Follows f some row → Follows f more row

-- rows have words of their own
abbrev pub RowsHaveWordsOfTheirOwn : Type 0
RowsHaveWordsOfTheirOwn = (a b : Row) → IsRow a → IsRow b → row_packing a ≡ row_packing b → a ≡ b

-- a row that follows rests on given rows of smaller rank alone
abbrev pub CitedRowsHaveSmallerRanks : Type 0
CitedRowsHaveSmallerRanks = (f : Framed) (given : Rows) (row : Row) (k s : ℕ) → Follows f given row → cite_for row k ≡ Slot s → (r : Row) × (given s ≡ Some r) × (r.rank < row.rank)

-- rows each of which follows from the others have no completions
abbrev pub RowsThatFollowFromEachOtherExclude : Type 0
RowsThatFollowFromEachOtherExclude = (f : Framed) (given : Rows) → IsFrame f → ((s : ℕ) (r : Row) → given s ≡ Some r → Follows f given r) → (s : ℕ) (r : Row) → given s ≡ Some r → Excludes f r

-- a row comes back from its words
abbrev pub RowsComeBackFromTheirWords : Type 0
RowsComeBackFromTheirWords = (row : Row) → IsRow row → unpacked (row_packing row) ≡ row
