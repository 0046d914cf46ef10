-- The greatest value of a map, by its words.
use Rattle.std.proofs.Common.{◌≡◌, ◌≢◌, ℕ, suc, ◌+◌, ◌-◌, ◌*◌, ◌<◌, ◌≤◌, List, get_or, sym, ap, subst, ◌∙◌, inl, inr, arith}
use Rattle.std.specs.Prelude.{◌/◌, ◌%◌, ◌^◌}
use Rattle.std.specs.Int.{w64, leading_zeros}
use Rattle.std.specs.Int.Count.{count_leading_zeros}
use Rattle.std.proofs.Math.Nat.{div-eq_of_lt, mod-eq_of_lt}
use Rattle.std.proofs.Math.Pow.{pow_mono}
use Rattle.std.proofs.lemmas.Nat.{leading_top, pow_pos, pow-add, le-div, div_below}
use Rattle.std.proofs.lemmas.Bool.{cases_lt}
use Rattle.std.proofs.lemmas.List.{get_or_past}
use Rattle.mr_assign.specs.declared.TheConstants.{POSITIONS}
use Rattle.mr_assign.specs.Assign.{IsAssign}
use Rattle.mr_assign.specs.Packing.{nibble, map_words}
use Rattle.mr_assign.proofs.Maps.{value-view, no_nibble}
use Rattle.mr_assign.proofs.Masks.{nibbles-map_words}

-- the greatest bit of a word lies in its greatest nibble that isn't 0
top_bit : (w j : ℕ) → 2 ^ j ≤ w → w < 2 ^ suc j → (nibble w (j / 4) ≢ 0) × ((k : ℕ) → j / 4 < k → nibble w k ≡ 0)
top_bit w j low high = (λ none. (let some = here in let n = none in omega arith), above)
  where
    one : 1 ≤ w / 2 ^ (4 * (j / 4))
    one =
        let le : 2 ^ (4 * (j / 4)) ≤ 2 ^ j = pow_mono (let h : 4 * (j / 4) ≤ j = omega arith in h) in
        le-div 1 w (2 ^ (4 * (j / 4))) (pow_pos (4 * (j / 4))) (omega arith)

    small : w / 2 ^ (4 * (j / 4)) < 16
    small =
        let le : 2 ^ suc j ≤ 2 ^ (4 * (j / 4) + 4) = pow_mono (let h : suc j ≤ 4 * (j / 4) + 4 = omega arith in h) in
        let parts : 2 ^ (4 * (j / 4) + 4) ≡ 2 ^ (4 * (j / 4)) * 16 = pow-add 2 (4 * (j / 4)) 4 in
        div_below w (2 ^ (4 * (j / 4))) 16 (pow_pos (4 * (j / 4))) (omega arith)

    here : 1 ≤ nibble w (j / 4)
    here = subst (λ (n : ℕ). 1 ≤ n) (sym (mod-eq_of_lt small)) one

    above : (k : ℕ) → j / 4 < k → nibble w k ≡ 0
    above k lt =
        let le : 2 ^ suc j ≤ 2 ^ (4 * k) = pow_mono (let h : suc j ≤ 4 * k = omega arith in h) in
        ap (λ (n : ℕ). n % 16) (div-eq_of_lt (let h : w < 2 ^ (4 * k) = omega arith in h))

-- so the leading zeros of a word tell its greatest nibble that isn't 0
pub top_nibble : (w : ℕ) → 0 < w → w < 2 ^ 64 → (nibble w ((63 - leading_zeros w64 w) / 4) ≢ 0) × ((k : ℕ) → (63 - leading_zeros w64 w) / 4 < k → nibble w k ≡ 0)
top_nibble w some small =
    let top = leading_top 64 w some small in
    let same : top.0 ≡ 63 - count_leading_zeros 64 w = (let sum = top.1 in omega arith) in
    subst (λ (j : ℕ). (nibble w (j / 4) ≢ 0) × ((k : ℕ) → j / 4 < k → nibble w k ≡ 0)) same (top_bit w top.0 top.2 top.3)

-- the value at a position is a nibble of the position's word
pub value_of_word : (a : List ℕ) → IsAssign a → (i k : ℕ) → k < 16 → 16 * i + k < POSITIONS → nibble (get_or (map_words a) i 0) k ≡ get_or a (16 * i + k) 0
value_of_word a h i k low small =
    let word : (16 * i + k) / 16 ≡ i = omega arith in
    let place : (16 * i + k) % 16 ≡ k = omega arith in
    sym (ap (λ (j : ℕ). nibble (get_or (map_words a) j 0) ((16 * i + k) % 16)) word ∙ ap (nibble (get_or (map_words a) i 0)) place)
    ∙ value-view (map_words a) a (16 * i + k) (nibbles-map_words a h) small

-- no position of this word or a later one has a value
abbrev pub IsEmptyFrom : List ℕ → ℕ → Type 0
IsEmptyFrom a i = (q : ℕ) → 16 * i ≤ q → get_or a q 0 ≡ 0

-- no position of the word after this nibble has a value, and no later one
pub after_nibble : (a : List ℕ) → IsAssign a → (i k : ℕ) → i < 6 → IsEmptyFrom a (i + 1) → ((j : ℕ) → k < j → nibble (get_or (map_words a) i 0) j ≡ 0) → (q : ℕ) → 16 * i + k < q → get_or a q 0 ≡ 0
after_nibble a h i k small later zeros q past = elim (cases_lt q (16 * (i + 1))) [
  | inl inside ↦
      let place : 16 * i + (q - 16 * i) ≡ q = omega arith in
      subst (λ (p : ℕ). get_or a p 0 ≡ 0) place (sym (value_of_word a h i (q - 16 * i) (omega arith) (omega arith)) ∙ zeros (q - 16 * i) (omega arith))
  | inr outside ↦ later q outside
]

-- a word of zeros has no value either
pub zero_word : (a : List ℕ) → IsAssign a → (i : ℕ) → i < 6 → IsEmptyFrom a (i + 1) → get_or (map_words a) i 0 ≡ 0 → IsEmptyFrom a i
zero_word a h i small later none q past = elim (cases_lt q (16 * (i + 1))) [
  | inl inside ↦
      let word : q / 16 ≡ i = omega arith in
      sym (value-view (map_words a) a q (nibbles-map_words a h) (omega arith))
      ∙ no_nibble (map_words a) q (ap (λ (j : ℕ). get_or (map_words a) j 0) word ∙ none)
  | inr outside ↦ later q outside
]

-- there are no more positions than those of all words
pub none_past : (a : List ℕ) → IsAssign a → IsEmptyFrom a 6
none_past a h q past = get_or_past a q 0 (let n = h.positions in omega arith)
