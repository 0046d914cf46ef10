-- The rows of slots, kept as packed words.
use Rattle.std.proofs.Common.{◌≡◌, ◌≢◌, ℕ, ◌+◌, ◌*◌, ◌<◌, ◌≤◌, List, length, set, get_or, replicate, slice_index, Option, Some, None, refl, sym, ap, ◌∙◌, subst, arith, inl, inr, length-set, get_or-set_same, get_or-set_other}
use Rattle.std.proofs.lemmas.Bool.{cases_eq}
use Rattle.std.proofs.lemmas.Option.{none-some, same_Some}
use Rattle.std.proofs.lemmas.List.FromFn.{length-map-range_with_len, get_or-map-range_with_len}
use Rattle.std.proofs.lemmas.List.{ext_get_or, get_or-replicate, length-replicate}
use Rattle.mr_nogood.specs.declared.TheConstants.{ROW_WORDS}
use Rattle.mr_nogood.specs.declared.row.Row.{Row}
use Rattle.mr_nogood.specs.Row.{IsRow}
use Rattle.mr_nogood.specs.Follows.{in_slots}
use Rattle.mr_nogood.specs.Packing.{row_packing}
use Rattle.mr_nogood.specs.Unpacking.{unpacked}
use Rattle.mr_exchange.specs.Words.{row_read}
use Rattle.mr_exchange.specs.Private.Packed.{words_of, rows_read, ArePacked}
use Rattle.mr_exchange.proofs.RowWords.{zero_at, read_none, read_some, packing_read, word_of}
use Rattle.mr_exchange.proofs.Holding.{in_slots_read, in_slots_within}

-- a number counted from 0
from_zero : (k : ℕ) → 0 + k ≡ k
from_zero k = omega arith

-- a slot has the row that is read from its words
pub in_rows : (words : List ℕ) (slots slot : ℕ) → slot < slots → in_slots (rows_read words slots) slot ≡ row_read (words_of words slot)
in_rows words slots slot lt =
    let f : ℕ → Option Row = λ s. row_read (words_of words s) in
    let long = length-map-range_with_len f 0 slots in
    in_slots_read (rows_read words slots) slot None (omega arith) ∙ get_or-map-range_with_len f 0 slots slot slot None lt (from_zero slot)

-- and there are no others
pub in_rows-past : (words : List ℕ) (slots slot : ℕ) → slots ≤ slot → in_slots (rows_read words slots) slot ≡ None
in_rows-past words slots slot past = read (in_slots (rows_read words slots) slot) refl
  where
    read : (o : Option Row) → in_slots (rows_read words slots) slot ≡ o → in_slots (rows_read words slots) slot ≡ None
    read None e = e
    read (Some row) e = absurd (
        let lt = in_slots_within (rows_read words slots) slot row e in
        let long = length-map-range_with_len (λ s. row_read (words_of words s)) 0 slots in
        omega arith
        )

-- a slot of zeros has no row
zero_slot : (n slot : ℕ) → row_read (words_of (replicate n 0) slot) ≡ None
zero_slot n slot = read_none (words_of (replicate n 0) slot) (word_of (replicate n 0) (ROW_WORDS * slot) 0 (omega arith) ∙ zero_at n (ROW_WORDS * slot + 0))

-- zeros have no rows
pub zeros_read : (n slots : ℕ) → rows_read (replicate n 0) slots ≡ replicate slots None
zeros_read n slots =
    let long = length-map-range_with_len (λ slot. row_read (words_of (replicate n 0) slot)) 0 slots in
    ext_get_or None (rows_read (replicate n 0) slots) (replicate slots None) (long ∙ sym (length-replicate slots None))
    (λ slot lt. let low : slot < slots = omega arith in
    get_or-map-range_with_len (λ s. row_read (words_of (replicate n 0) s)) 0 slots slot slot None low (from_zero slot) ∙ zero_slot n slot ∙ sym (get_or-replicate slots slot None None low))

-- so they are packed
pub zeros_packed : (words : List ℕ) (slots : ℕ) → words ≡ replicate (length words) 0 → ROW_WORDS * slots ≤ length words → ArePacked words slots
zeros_packed words slots zeros size = record {
  size = size;
  packed = λ slot row lt e. absurd (none-some row (sym (zero_slot (length words) slot) ∙ ap (λ (ws : List ℕ). row_read (words_of ws slot)) (sym zeros) ∙ e));
}

-- after a row was put in a slot
pub put_rows : (old new : List ℕ) (slots slot : ℕ) (row : Row) → slot < slots → IsRow row → words_of new slot ≡ row_packing row → ((other : ℕ) → other ≢ slot → words_of new other ≡ words_of old other) → rows_read new slots ≡ set (rows_read old slots) slot (Some row)
put_rows old new slots slot row lt good here others =
    let f : ℕ → Option Row = λ s. row_read (words_of new s) in
    let g : ℕ → Option Row = λ s. row_read (words_of old s) in
    let one = length-map-range_with_len f 0 slots in
    let two = length-map-range_with_len g 0 slots in
    ext_get_or None (rows_read new slots) (set (rows_read old slots) slot (Some row)) (one ∙ sym (length-set (rows_read old slots) slot (Some row) ∙ two))
    (λ i low. let small : i < slots = omega arith in
    get_or-map-range_with_len f 0 slots i i None small (from_zero i) ∙ elim (cases_eq i slot) as (λ _. f i ≡ get_or (set (rows_read old slots) slot (Some row)) i None) [
      | inl same ↦ ap f same ∙ packing_read (words_of new slot) row good here ∙ sym (get_or-set_same (rows_read old slots) slot (Some row) None (omega arith)) ∙ ap (λ k. get_or (set (rows_read old slots) slot (Some row)) k None) (sym same)
      | inr other ↦ ap row_read (others i other) ∙ sym (get_or-map-range_with_len g 0 slots i i None small (from_zero i)) ∙ sym (get_or-set_other (rows_read old slots) slot i (Some row) None other)
    ])

-- the words are packed then too
pub put_packed : (old new : List ℕ) (slots slot : ℕ) (row : Row) → ArePacked old slots → length new ≡ length old → IsRow row → words_of new slot ≡ row_packing row → ((other : ℕ) → other ≢ slot → words_of new other ≡ words_of old other) → ArePacked new slots
put_packed old new slots slot row h size good here others = record {
  size = (let a = h.size in omega arith);
  packed = λ i found lt e. elim (cases_eq i slot) as (λ _. IsRow found × (words_of new i ≡ row_packing found)) [
    | inl same ↦
        let is : row ≡ found = same_Some row found (sym (packing_read (words_of new slot) row good here) ∙ ap (λ k. row_read (words_of new k)) (sym same) ∙ e) in
        (subst IsRow is good, ap (words_of new) same ∙ here ∙ ap row_packing is)
    | inr other ↦
        let before = h.packed i found lt (ap row_read (sym (others i other)) ∙ e) in
        (before.0, others i other ∙ before.1)
  ];
}

-- the first word of a slot
head_of : (words : List ℕ) (slot : ℕ) → slice_index (words_of words slot) 0 ≡ slice_index words (ROW_WORDS * slot)
head_of words slot = word_of words (ROW_WORDS * slot) 0 (omega arith) ∙ ap (slice_index words) (let e : ROW_WORDS * slot + 0 ≡ ROW_WORDS * slot = omega arith in e)

-- a slot with words that don't begin with 0 has the row that they are those of
pub packed_row : (words : List ℕ) (slots slot : ℕ) → ArePacked words slots → slot < slots → slice_index words (ROW_WORDS * slot) ≢ 0 → (row : Row) × IsRow row × (words_of words slot ≡ row_packing row)
packed_row words slots slot h lt some_head =
    let there = h.packed slot (unpacked (words_of words slot)) lt (read_some (words_of words slot) (λ e. some_head (sym (head_of words slot) ∙ e))) in
    (unpacked (words_of words slot), there.0, there.1)

-- there is room for the words of each of the slots
pub slots_of_rows : (words : List ℕ) (slots slot : ℕ) (rows : List (Option Row)) → ArePacked words slots → rows_read words slots ≡ rows → slot < length rows → (slot < slots) × (ROW_WORDS * slot + ROW_WORDS ≤ length words)
slots_of_rows words slots slot rows h is lt =
    let size = h.size in
    let long = length-map-range_with_len (λ s. row_read (words_of words s)) 0 slots in
    let same = ap (λ (xs : List (Option Row)). length xs) is in
    let low : slot < slots = omega arith in
    (low, omega arith)

-- What a read of a slot gives, where these are the rows.
module _ (words : List ℕ) (slots slot : ℕ) (rows : List (Option Row)) (is : rows_read words slots ≡ rows) where
  -- there is no slot
  pub past_slots : slots ≤ slot → None ≡ in_slots rows slot
  past_slots past = sym (in_rows-past words slots slot past) ∙ ap (λ (xs : List (Option Row)). in_slots xs slot) is

  -- its words begin with 0
  pub no_row : slot < slots → slice_index words (ROW_WORDS * slot) ≡ 0 → None ≡ in_slots rows slot
  no_row lt zero_head =
      sym (in_rows words slots slot lt ∙ read_none (words_of words slot) (head_of words slot ∙ zero_head))
      ∙ ap (λ (xs : List (Option Row)). in_slots xs slot) is

  -- they don't
  pub has_row : (row : List ℕ) (found : Row) → slot < slots → row ≡ words_of words slot → row ≡ row_packing found → IsRow found → Some found ≡ in_slots rows slot
  has_row row found lt same packing good =
      sym (in_rows words slots slot lt ∙ packing_read (words_of words slot) found good (sym same ∙ packing))
      ∙ ap (λ (xs : List (Option Row)). in_slots xs slot) is
