-- The row that stands among words.
use Rattle.std.proofs.Common.{◌≡◌, ◌≢◌, ℕ, zero, suc, ◌+◌, ◌-◌, ◌<◌, ◌≤◌, min, if◌then◌else◌, List, map, length, get_or, drop, replicate, slice_index, Some, None, refl, sym, ap, ◌∙◌, arith, length-append, length-drop}
use native.Mathlib.Decide.{ℕ_discrete}
use Rattle.std.proofs.lemmas.Option.{none-some}
use Rattle.std.proofs.lemmas.List.{ext_get_or, get_or-take, get_or-drop, length-take, length-map}
use Rattle.mr_assign.specs.Private.Again.{length-map_words}
use Rattle.mr_assign.specs.Packing.{map_words}
use Rattle.mr_nogood.specs.declared.TheConstants.{ROW_WORDS}
use Rattle.mr_nogood.specs.declared.row.Row.{Row}
use Rattle.mr_nogood.specs.Row.{IsRow}
use Rattle.mr_nogood.specs.Packing.{row_packing, cite_word}
use Rattle.mr_nogood.specs.Unpacking.{unpacked}
use Rattle.mr_nogood.proofs.Words.{unpacked-packed}
use Rattle.mr_exchange.specs.Words.{words_at, row_read}
use Rattle.mr_exchange.proofs.Totals.{eq_cases}

-- each of zeros is one
pub zero_at : (n i : ℕ) → get_or (replicate {A = ℕ} n 0) i 0 ≡ 0
zero_at zero i = refl
zero_at (suc n) zero = refl
zero_at (suc n) (suc i) = zero_at n i

-- a row has as many words
pub length-packed : (row : Row) → IsRow row → length (row_packing row) ≡ ROW_WORDS
length-packed row is =
    let a = length-append (map_words row.clause) (map cite_word row.cites) in
    let b = length-map_words row.clause in
    let c = length-map row.cites cite_word in
    let d = is.count in
    omega arith

-- words that begin with 0 have no row
pub read_none : (words : List ℕ) → slice_index words 0 ≡ 0 → row_read words ≡ None
read_none words e = eq_cases (slice_index words 0) 0 (λ b. (if b then None else Some (unpacked words)) ≡ None) (λ _. refl) (λ n. absurd (n e))

-- others have the one that is read from them
pub read_some : (words : List ℕ) → slice_index words 0 ≢ 0 → row_read words ≡ Some (unpacked words)
read_some words n = eq_cases (slice_index words 0) 0 (λ b. (if b then None else Some (unpacked words)) ≡ Some (unpacked words)) (λ e. absurd (n e)) (λ _. refl)

-- words without a row begin with 0
pub head_none : (words : List ℕ) → row_read words ≡ None → slice_index words 0 ≡ 0
head_none words none = by_head (ℕ_discrete (slice_index words 0) 0)
  where
    by_head : Dec (slice_index words 0 ≡ 0) → slice_index words 0 ≡ 0
    by_head (yes e) = e
    by_head (no n) = absurd (none-some (unpacked words) (sym none ∙ read_some words n))

-- the words of a row have that row
pub packing_read : (words : List ℕ) (row : Row) → IsRow row → words ≡ row_packing row → row_read words ≡ Some row
packing_read words row good is =
    read_some words (λ zero_head. (let head = sym (ap (λ (ws : List ℕ). slice_index ws 0) is) ∙ zero_head in omega arith))
    ∙ ap (λ (r : Row). Some r) (ap unpacked is ∙ unpacked-packed row good)

-- Words from a place on.
module _ (words : List ℕ) (start : ℕ) where
  -- one of them
  pub word_of : (j : ℕ) → j < ROW_WORDS → get_or (words_at words start) j 0 ≡ get_or words (start + j) 0
  word_of j lt = get_or-take ROW_WORDS (drop start words) j 0 lt ∙ get_or-drop start words j 0

  -- how many there are
  pub length-words_at : length (words_at words start) ≡ min ROW_WORDS (length words - start)
  length-words_at = length-take ROW_WORDS (drop start words) ∙ ap (λ n. min ROW_WORDS n) (length-drop start words)

  -- they are told one by one
  pub words_are : (row : List ℕ) → length row ≡ ROW_WORDS → start + ROW_WORDS ≤ length words → ((j : ℕ) → j < ROW_WORDS → get_or row j 0 ≡ get_or words (start + j) 0) → row ≡ words_at words start
  words_are row size room same =
      let long = length-words_at in
      ext_get_or 0 row (words_at words start) (let n : length row ≡ length (words_at words start) = omega arith in n)
      (λ j lt. let low : j < ROW_WORDS = omega arith in same j low ∙ sym (word_of j low))

-- they are the same where each of them is
pub words_same : (words other : List ℕ) (start : ℕ) → length words ≡ length other → ((j : ℕ) → j < ROW_WORDS → get_or words (start + j) 0 ≡ get_or other (start + j) 0) → words_at words start ≡ words_at other start
words_same words other start long same =
    let a = length-words_at words start in
    let b = length-words_at other start in
    ext_get_or 0 (words_at words start) (words_at other start) (let n : length (words_at words start) ≡ length (words_at other start) = omega arith in n)
    (λ j lt. let low : j < ROW_WORDS = omega arith in word_of words start j low ∙ same j low ∙ sym (word_of other start j low))
