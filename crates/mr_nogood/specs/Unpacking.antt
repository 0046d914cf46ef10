-- Rows read from words.
use Rattle.std.specs.Prelude.{ℕ, ◌/◌, ◌%◌, ◌^◌, List, map, drop, nat_le, if◌then◌else◌, slice_index, slice_range}
use Rattle.mr_set.specs.Elements.{elements_below}
use Rattle.mr_set.specs.declared.TheConstants.{ELEMENTS}
use Rattle.mr_assign.specs.Packing.{nibbles}
use Rattle.mr_nogood.specs.declared.row.Cite.{Cite}
use Rattle.mr_nogood.specs.declared.row.Cite.TheVariants.{Nothing, Test, Slot}
use Rattle.mr_nogood.specs.declared.row.Row.{Row}

-- the cite that is read from a word
unfoldable pub cite_of : ℕ → Cite
cite_of w = if nat_le (2 ^ 57) w then Slot (w % 2 ^ 32) else (if nat_le (2 ^ 56) w then Test (elements_below ELEMENTS (w % 2 ^ 32)) else Nothing)

-- The row that is read from words. Where they are the words of a row, it is that one.
unfoldable pub unpacked : List ℕ → Row
unpacked words = record {
  rank = slice_index words 0 % 2 ^ 32;
  at = slice_index words 0 / 2 ^ 32 % 2 ^ 8;
  clause = nibbles (slice_range words 1 7);
  cites = map cite_of (drop 7 words);
}
