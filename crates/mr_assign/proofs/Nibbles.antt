-- The nibbles of a word, and what a change of one leaves.
use Rattle.std.proofs.Common.{◌≡◌, ◌≢◌, ℕ, ◌+◌, ◌-◌, ◌*◌, ◌/◌, ◌%◌, ◌^◌, ◌<◌, ◌≤◌, List, length, set, get_or, sym, ap, subst, ◌∙◌, inl, inr, arith, length-set, get_or-set_same, get_or-set_other}
use Rattle.std.specs.Prelude.{bit_xor}
use Rattle.std.specs.Int.Bits.{xor_self, xor_assoc, xor_zero_l, xor_zero_r}
use Rattle.std.proofs.lemmas.Bool.{cases_eq, cases_lt}
use Rattle.std.proofs.lemmas.Nat.{xor_shr, xor_mod, xor_lt, shl-shr, shl_whole, shl_below, pow-add}
use Rattle.std.proofs.lemmas.List.{ext_get_or}
use Rattle.std.proofs.Math.Nat.{mod-eq_of_lt, div-eq_of_lt, pow-le-pow_right}
use Rattle.mr_assign.specs.declared.TheConstants.{POSITIONS, CLAUSE_WORDS, VALUES}
use Rattle.mr_assign.specs.Packing.{nibble, nibble_at, nibbles}
use Rattle.mr_assign.specs.Private.Packing.{IsPacking}
use Rattle.mr_assign.specs.Private.Again.{length-nibbles, get_or-nibbles}

-- a nibble has four bits
pub nibble-lt : (w k : ℕ) → nibble w k < 16
nibble-lt w k = omega arith

-- the words' bits that differ differ nibble by nibble
nibble-xor : (a b k : ℕ) → nibble (bit_xor a b) k ≡ bit_xor (nibble a k) (nibble b k)
nibble-xor a b k = ap (λ v. v % 16) (xor_shr a b (4 * k)) ∙ xor_mod (a / 2 ^ (4 * k)) (b / 2 ^ (4 * k)) 4

-- a nibble that is shifted to place k stands there
nibble-shifted_same : (d k : ℕ) → d < 16 → nibble (d * 2 ^ (4 * k)) k ≡ d
nibble-shifted_same d k small = ap (λ v. v % 16) (shl-shr d (4 * k)) ∙ mod-eq_of_lt small

-- a multiple of sixteen has an empty lowest nibble
times16 : (t : ℕ) → (t * 16) % 16 ≡ 0
times16 t = omega arith

-- below place k the shifted word is empty
nibble-shifted_below : (d k j : ℕ) → j < k → nibble (d * 2 ^ (4 * k)) j ≡ 0
nibble-shifted_below d k j lt =
    let r : ℕ = 4 * (k - j - 1) in
    let e : 4 * k ≡ (r + 4) + 4 * j = omega arith in
    let split : d * 2 ^ (4 * k) ≡ (d * 2 ^ r * 16) * 2 ^ (4 * j) =
    ap (λ n. d * 2 ^ n) e ∙ ap (λ n. d * n) (pow-add 2 (r + 4) (4 * j) ∙ ap (λ n. n * 2 ^ (4 * j)) (pow-add 2 r 4)) ∙ regroup d (2 ^ r) (2 ^ (4 * j)) in
    ap (λ n. n / 2 ^ (4 * j) % 16) split ∙ ap (λ n. n % 16) (shl-shr (d * 2 ^ r * 16) (4 * j)) ∙ times16 (d * 2 ^ r)
  where
    regroup : (a b c : ℕ) → a * (b * 16 * c) ≡ (a * b * 16) * c
    regroup a b c = grind arith

-- and above it too
nibble-shifted_above : (d k j : ℕ) → d < 16 → k < j → nibble (d * 2 ^ (4 * k)) j ≡ 0
nibble-shifted_above d k j small lt =
    let below : d * 2 ^ (4 * k) < 2 ^ (4 + 4 * k) = shl_below d 4 (4 * k) small in
    let more : 2 ^ (4 + 4 * k) ≤ 2 ^ (4 * j) = pow-le-pow_right (omega arith) (omega arith) in
    let none : d * 2 ^ (4 * k) / 2 ^ (4 * j) ≡ 0 = div-eq_of_lt (omega arith) in
    ap (λ n. n % 16) none

-- so it is empty at every other place
nibble-shifted_other : (d k j : ℕ) → d < 16 → j ≢ k → nibble (d * 2 ^ (4 * k)) j ≡ 0
nibble-shifted_other d k j small ne = elim (cases_lt j k) [
  | inl lt ↦ nibble-shifted_below d k j lt
  | inr ge ↦ nibble-shifted_above d k j small (omega arith)
]

-- the word with v as nibble k
abbrev pub word_with : ℕ → ℕ → ℕ → ℕ
word_with w k v = bit_xor w (bit_xor (nibble w k) v * 2 ^ (4 * k) % 2 ^ 64)

-- no bit of the change leaves the word
whole : (w k v : ℕ) → k < 16 → v < 16 → bit_xor (nibble w k) v * 2 ^ (4 * k) % 2 ^ 64 ≡ bit_xor (nibble w k) v * 2 ^ (4 * k)
whole w k v lt small = shl_whole (bit_xor (nibble w k) v) 4 (4 * k) 64 (xor_lt 4 (nibble w k) v (nibble-lt w k) small) (omega arith)

-- nibble k of the changed word is v
pub nibble-word_with_same : (w k v : ℕ) → k < 16 → v < 16 → nibble (word_with w k v) k ≡ v
nibble-word_with_same w k v lt small =
    nibble-xor w (bit_xor (nibble w k) v * 2 ^ (4 * k) % 2 ^ 64) k
    ∙ ap (λ n. bit_xor (nibble w k) (nibble n k)) (whole w k v lt small)
    ∙ ap (bit_xor (nibble w k)) (nibble-shifted_same (bit_xor (nibble w k) v) k (xor_lt 4 (nibble w k) v (nibble-lt w k) small))
    ∙ sym (xor_assoc (nibble w k) (nibble w k) v) ∙ ap (λ n. bit_xor n v) (xor_self (nibble w k)) ∙ xor_zero_l v

-- and each other nibble is as before
pub nibble-word_with_other : (w k v j : ℕ) → k < 16 → v < 16 → j ≢ k → nibble (word_with w k v) j ≡ nibble w j
nibble-word_with_other w k v j lt small ne =
    nibble-xor w (bit_xor (nibble w k) v * 2 ^ (4 * k) % 2 ^ 64) j
    ∙ ap (λ n. bit_xor (nibble w j) (nibble n j)) (whole w k v lt small)
    ∙ ap (bit_xor (nibble w j)) (nibble-shifted_other (bit_xor (nibble w k) v) k j (xor_lt 4 (nibble w k) v (nibble-lt w k) small) ne)
    ∙ xor_zero_r (nibble w j)

-- the words with v at position p
abbrev pub words_with : List ℕ → ℕ → ℕ → List ℕ
words_with ws p v = set ws (p / 16) (word_with (get_or ws (p / 16) 0) (p % 16) v)

-- the changed words have v at position p
pub nibble_at-words_with_same : (ws : List ℕ) (p v : ℕ) → p / 16 < length ws → v < 16 → nibble_at (words_with ws p v) p ≡ v
nibble_at-words_with_same ws p v within small =
    ap (λ w. nibble w (p % 16)) (get_or-set_same ws (p / 16) (word_with (get_or ws (p / 16) 0) (p % 16) v) 0 within)
    ∙ nibble-word_with_same (get_or ws (p / 16) 0) (p % 16) v (omega arith) small

-- and at each other position what they had
pub nibble_at-words_with_other : (ws : List ℕ) (p v q : ℕ) → p / 16 < length ws → v < 16 → q ≢ p → nibble_at (words_with ws p v) q ≡ nibble_at ws q
nibble_at-words_with_other ws p v q within small ne = elim (cases_eq (q / 16) (p / 16)) [
  | inl same ↦
      let differs : q % 16 ≢ p % 16 = λ e. ne (omega arith) in
      ap (λ i. nibble (get_or (words_with ws p v) i 0) (q % 16)) same
      ∙ ap (λ w. nibble w (q % 16)) (get_or-set_same ws (p / 16) (word_with (get_or ws (p / 16) 0) (p % 16) v) 0 within)
      ∙ nibble-word_with_other (get_or ws (p / 16) 0) (p % 16) v (q % 16) (omega arith) small differs
      ∙ ap (λ i. nibble (get_or ws i 0) (q % 16)) (sym same)
  | inr other ↦ ap (λ w. nibble w (q % 16)) (get_or-set_other ws (p / 16) (q / 16) (word_with (get_or ws (p / 16) 0) (p % 16) v) 0 other)
]

-- so their map is the old one with v at p
pub nibbles-words_with : (ws : List ℕ) (p v : ℕ) → length ws ≡ CLAUSE_WORDS → p < POSITIONS → v < 16 → nibbles (words_with ws p v) ≡ set (nibbles ws) p v
nibbles-words_with ws p v size lt small =
    let within : p / 16 < length ws = omega arith in
    let long = length-nibbles ws in
    ext_get_or 0 (nibbles (words_with ws p v)) (set (nibbles ws) p v) (length-nibbles (words_with ws p v) ∙ sym (length-set (nibbles ws) p v ∙ long)) (λ q inside.
    let q_lt : q < POSITIONS = let n = length-nibbles (words_with ws p v) in omega arith in
    get_or-nibbles (words_with ws p v) q q_lt ∙ elim (cases_eq q p) as (λ _. nibble_at (words_with ws p v) q ≡ get_or (set (nibbles ws) p v) q 0) [
      | inl same ↦ ap (nibble_at (words_with ws p v)) same ∙ nibble_at-words_with_same ws p v within small
          ∙ sym (ap (λ k. get_or (set (nibbles ws) p v) k 0) same ∙ get_or-set_same (nibbles ws) p v 0 (let n = long in omega arith))
      | inr other ↦ nibble_at-words_with_other ws p v q within small other ∙ sym (get_or-set_other (nibbles ws) p q v 0 other ∙ get_or-nibbles ws q q_lt)
    ])

-- and they are still the words of a map
pub IsPacking-words_with : (ws : List ℕ) (p v : ℕ) → IsPacking ws → p < POSITIONS → v ≤ VALUES → IsPacking (words_with ws p v)
IsPacking-words_with ws p v h lt small = record {
  size = length-set ws (p / 16) (word_with (get_or ws (p / 16) 0) (p % 16) v) ∙ h.size;
  range = λ i. elim (cases_eq i (p / 16)) as (λ _. get_or (words_with ws p v) i 0 < 2 ^ 64) [
    | inl same ↦ subst (λ n. n < 2 ^ 64) (sym (ap (λ k. get_or (words_with ws p v) k 0) same ∙ get_or-set_same ws (p / 16) (word_with (get_or ws (p / 16) 0) (p % 16) v) 0 within))
        (xor_lt 64 (get_or ws (p / 16) 0) (bit_xor (nibble_at ws p) v * 2 ^ (4 * (p % 16)) % 2 ^ 64) (h.range (p / 16)) (omega arith))
    | inr other ↦ subst (λ n. n < 2 ^ 64) (sym (get_or-set_other ws (p / 16) i (word_with (get_or ws (p / 16) 0) (p % 16) v) 0 other)) (h.range i)
  ];
  values = λ q. elim (cases_eq q p) as (λ _. nibble_at (words_with ws p v) q ≤ VALUES) [
    | inl same ↦ subst (λ n. n ≤ VALUES) (sym (ap (nibble_at (words_with ws p v)) same ∙ nibble_at-words_with_same ws p v within (omega arith))) small
    | inr other ↦ subst (λ n. n ≤ VALUES) (sym (nibble_at-words_with_other ws p v q within (omega arith) other)) (h.values q)
  ];
}
  where
    within : p / 16 < length ws
    within = let n = h.size in omega arith
