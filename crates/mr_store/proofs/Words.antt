-- The rows that words have.
use Rattle.std.proofs.Common.{◌≡◌, ◌≢◌, ℕ, ◌+◌, ◌<◌, List, length, set, get_or, slice_index, Option, Some, None, refl, sym, ap, ◌∙◌, arith, length-set, get_or-set_other}
use Rattle.mr_nogood.specs.declared.TheConstants.{ROW_WORDS}
use Rattle.mr_nogood.specs.declared.row.Row.{Row}
use Rattle.mr_nogood.specs.Row.{IsRow}
use Rattle.mr_nogood.specs.Packing.{row_packing}
use Rattle.mr_exchange.specs.State.{head_at}
use Rattle.mr_exchange.specs.Words.{row_read}
use Rattle.mr_exchange.proofs.RowWords.{word_of, words_same, read_none, packing_read, head_none as no_row_begins}
use Rattle.mr_store.specs.Seats.{word_at}
use Rattle.mr_store.specs.Shown.{slot_words, rows_in_words}

-- a word of a slot
pub slot_word : (words : List ℕ) (slot j : ℕ) → j < ROW_WORDS → get_or (slot_words words slot) j 0 ≡ slice_index words (word_at slot j)
slot_word words slot j lt = word_of words (word_at slot 0) j lt ∙ ap (slice_index words) (let e : word_at slot 0 + j ≡ word_at slot j = omega arith in e)

-- its head
head_is : (words : List ℕ) (slot : ℕ) → slice_index (slot_words words slot) 0 ≡ slice_index words (word_at slot 0)
head_is words slot = slot_word words slot 0 (omega arith)

-- a slot whose head is 0 has no row
pub rows_of-none : (words : List ℕ) (slot : ℕ) → slice_index words (word_at slot 0) ≡ 0 → rows_in_words words slot ≡ None
unfolding rows_in_words
rows_of-none words slot e = read_none (slot_words words slot) (head_is words slot ∙ e)

-- the head of a slot without a row is 0
pub head_none : (words : List ℕ) (slot : ℕ) → rows_in_words words slot ≡ None → slice_index words (word_at slot 0) ≡ 0
unfolding rows_in_words
head_none words slot none = sym (head_is words slot) ∙ no_row_begins (slot_words words slot) none

-- a slot with the words of a row has that row
pub rows_of-packed : (words : List ℕ) (slot : ℕ) (row : Row) → IsRow row → slot_words words slot ≡ row_packing row → rows_in_words words slot ≡ Some row
unfolding rows_in_words
rows_of-packed words slot row good is = packing_read (slot_words words slot) row good is

-- the words of a slot are told one by one
pub slot_words-same : (words other : List ℕ) (slot : ℕ) → length words ≡ length other → ((j : ℕ) → j < ROW_WORDS → slice_index words (word_at slot j) ≡ slice_index other (word_at slot j)) → slot_words words slot ≡ slot_words other slot
slot_words-same words other slot long same =
    words_same words other (word_at slot 0) long (λ j lt. let e : word_at slot 0 + j ≡ word_at slot j = omega arith in ap (slice_index words) e ∙ same j lt ∙ sym (ap (slice_index other) e))

-- and so is its row
pub rows_of-same : (words other : List ℕ) (slot : ℕ) → length words ≡ length other → ((j : ℕ) → j < ROW_WORDS → slice_index words (word_at slot j) ≡ slice_index other (word_at slot j)) → rows_in_words words slot ≡ rows_in_words other slot
unfolding rows_in_words
rows_of-same words other slot long same = ap row_read (slot_words-same words other slot long same)

-- a word that changes is none of the others
pub other_word : (words : List ℕ) (i n slot j : ℕ) → i ≢ word_at slot j → slice_index (set words i n) (word_at slot j) ≡ slice_index words (word_at slot j)
other_word words i n slot j d = get_or-set_other words i (word_at slot j) n 0 (λ e. d (sym e))

-- a slot is as it was where none of its words changes
pub untouched : (words : List ℕ) (i n slot : ℕ) → ((j : ℕ) → j < ROW_WORDS → i ≢ word_at slot j) → (rows_in_words (set words i n) slot ≡ rows_in_words words slot) × (slot_words (set words i n) slot ≡ slot_words words slot)
untouched words i n slot apart = (
  rows_of-same (set words i n) words slot (length-set words i n) (λ j lt. other_word words i n slot j (apart j lt)),
  slot_words-same (set words i n) words slot (length-set words i n) (λ j lt. other_word words i n slot j (apart j lt)),
)

-- the claim word and the ticket word are no slot's
pub low_apart : (i slot j : ℕ) → i < 2 → i ≢ word_at slot j
low_apart i slot j low e = omega arith

-- the head of a slot is that of its row
pub head_at-rows_of : (words : List ℕ) (slot : ℕ) → ((row : Row) → rows_in_words words slot ≡ Some row → slot_words words slot ≡ row_packing row) → head_at (rows_in_words words slot) ≡ slice_index words (word_at slot 0)
head_at-rows_of words slot packs = read (rows_in_words words slot) refl
  where
    read : (o : Option Row) → rows_in_words words slot ≡ o → head_at o ≡ slice_index words (word_at slot 0)
    read None e = sym (head_none words slot e)
    read (Some row) e = ap (λ ws. get_or ws 0 0) (sym (packs row e)) ∙ slot_word words slot 0 (omega arith)
