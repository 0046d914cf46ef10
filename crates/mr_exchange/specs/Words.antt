-- The row that stands among words.
use Rattle.std.specs.Prelude.{ℕ, ◌==◌, if◌then◌else◌, List, take, drop, slice_index, Option, Some, None}
use Rattle.mr_nogood.specs.declared.TheConstants.{ROW_WORDS}
use Rattle.mr_nogood.specs.declared.row.Row.{Row}
use Rattle.mr_nogood.specs.Unpacking.{unpacked}

-- as many words as a row has, from a place on
abbrev pub words_at : List ℕ → ℕ → List ℕ
words_at words start = take ROW_WORDS (drop start words)

-- the row that is read from words, where the first of them isn't 0
abbrev pub row_read : List ℕ → Option Row
row_read words = if slice_index words 0 == 0 then None else Some (unpacked words)
