-- Rows kept as packed words.
use Rattle.std.specs.Prelude.{◌≡◌, ℕ, ◌<◌, ◌≤◌, ◌*◌, List, map, length, Option, Some}
use Rattle.std.specs.List.{range_with_len}
use Rattle.mr_nogood.specs.declared.TheConstants.{ROW_WORDS}
use Rattle.mr_nogood.specs.declared.row.Row.{Row}
use Rattle.mr_nogood.specs.Row.{IsRow}
use Rattle.mr_nogood.specs.Packing.{row_packing}
use Rattle.mr_exchange.specs.Words.{words_at, row_read}

-- the words of a slot
abbrev pub words_of : List ℕ → ℕ → List ℕ
words_of words slot = words_at words (ROW_WORDS * slot)

-- the rows of so many slots
abbrev pub rows_read : List ℕ → ℕ → List (Option Row)
rows_read words slots = map (λ slot. row_read (words_of words slot)) (range_with_len 0 slots)

-- the words of so many slots are there, and those of a slot with a row are its packing
pub record ArePacked (words : List ℕ) (slots : ℕ) : Type 0 where
  pub size : ROW_WORDS * slots ≤ length words
  pub packed : (slot : ℕ) (row : Row) → slot < slots → row_read (words_of words slot) ≡ Some row → IsRow row × (words_of words slot ≡ row_packing row)
