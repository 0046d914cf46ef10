-- The words come back from their nibbles.
use Rattle.std.specs.Prelude.{◌≡◌, ℕ, zero, suc, ◌+◌, ◌*◌, ◌/◌, ◌%◌, ◌^◌, ◌<◌, List, length, slice_index, refl}
use Rattle.std.proofs.Common.{sym, ap, ◌∙◌, arith, get_or}
use Rattle.std.proofs.lemmas.Nat.{mod-pow-add}
use Rattle.std.proofs.lemmas.List.{ext_get_or}
use Rattle.std.proofs.lemmas.List.FromFn.{length-map-range_with_len, get_or-map-range_with_len}
use Rattle.std.proofs.Math.Nat.{mod-eq_of_lt}
use Rattle.mr_assign.specs.declared.TheConstants.{POSITIONS, CLAUSE_WORDS}
use Rattle.mr_assign.specs.declared.assign.Assign.TheInside.{Inside}
use Rattle.mr_assign.specs.Packing.{nibble, nibble_at, nibbles, packed_values, map_words}
use Rattle.mr_assign.specs.Private.Packing.{IsPacking}

-- numbers that agree below n are packed into one word
pub packed-same : (n : ℕ) (f g : ℕ → ℕ) → ((k : ℕ) → k < n → f k ≡ g k) → packed_values n f ≡ packed_values n g
unfolding packed_values
packed-same zero f g same = refl
packed-same (suc n) f g same =
    let here : f n ≡ g n = same n (omega arith) in
    let rest : packed_values n f ≡ packed_values n g = packed-same n f g (λ k lt. same k (omega arith)) in
    ap (λ v. v * 2 ^ (4 * n) + packed_values n f) here ∙ ap (λ v. g n * 2 ^ (4 * n) + v) rest

-- the nibbles of a word, packed, are what stands in its lowest bits
pub packed-nibble : (n w : ℕ) → packed_values n (nibble w) ≡ w % 2 ^ (4 * n)
unfolding packed_values
packed-nibble zero w = omega arith
packed-nibble (suc n) w =
    ap (λ v. nibble w n * 2 ^ (4 * n) + v) (packed-nibble n w)
    ∙ sym (ap (λ k. w % 2 ^ k) (let e : 4 * suc n ≡ 4 + 4 * n = omega arith in e) ∙ mod-pow-add w 4 (4 * n))

-- the nibbles are those of all positions
pub length-nibbles : (words : List ℕ) → length (nibbles words) ≡ POSITIONS
unfolding nibbles
length-nibbles words = length-map-range_with_len (nibble_at words) 0 POSITIONS

-- read at a position they are the nibble there
pub get_or-nibbles : (words : List ℕ) (p : ℕ) → p < POSITIONS → get_or (nibbles words) p 0 ≡ nibble_at words p
unfolding nibbles
get_or-nibbles words p lt = get_or-map-range_with_len (nibble_at words) 0 POSITIONS p p 0 lt (omega arith)

-- a word of a map is its sixteen values, packed
pub get_or-map_words : (a : List ℕ) (i : ℕ) → i < CLAUSE_WORDS → get_or (map_words a) i 0 ≡ packed_values 16 (λ k. get_or a (16 * i + k) 0)
unfolding map_words
get_or-map_words a i lt = get_or-map-range_with_len (λ j. packed_values 16 (λ k. slice_index a (16 * j + k))) 0 CLAUSE_WORDS i i 0 lt (omega arith)

-- a map fills all words
pub length-map_words : (a : List ℕ) → length (map_words a) ≡ CLAUSE_WORDS
unfolding map_words
length-map_words a = length-map-range_with_len (λ j. packed_values 16 (λ k. slice_index a (16 * j + k))) 0 CLAUSE_WORDS

-- position k of word i is nibble k of that word
pub place : (words : List ℕ) (i k : ℕ) → k < 16 → nibble_at words (16 * i + k) ≡ nibble (get_or words i 0) k
place words i k lt =
    let row : (16 * i + k) / 16 ≡ i = omega arith in
    let col : (16 * i + k) % 16 ≡ k = omega arith in
    ap (λ j. nibble (get_or words j 0) ((16 * i + k) % 16)) row ∙ ap (nibble (get_or words i 0)) col

-- words come back from their nibbles
pub map_words-nibbles : (words : List ℕ) → IsPacking words → map_words (nibbles words) ≡ words
map_words-nibbles words h = ext_get_or 0 (map_words (nibbles words)) words (length-map_words (nibbles words) ∙ sym h.size) (λ i lt.
    let within : i < CLAUSE_WORDS = let n = length-map_words (nibbles words) in omega arith in
    let inner : packed_values 16 (λ k. get_or (nibbles words) (16 * i + k) 0) ≡ packed_values 16 (nibble (get_or words i 0)) =
    packed-same 16 _ _ (λ k small. get_or-nibbles words (16 * i + k) (omega arith) ∙ place words i k small) in
    let small : get_or words i 0 < 2 ^ 64 = h.range i in
    get_or-map_words (nibbles words) i within ∙ inner ∙ packed-nibble 16 (get_or words i 0) ∙ mod-eq_of_lt small)

-- the fields of a map, by its words
abbrev pub inside : List ℕ → Inside
inside words = record { words = words }

-- and with them the map itself
pub words_again : (words : List ℕ) → IsPacking words → inside (map_words (nibbles words)) ≡ inside words
words_again words h = ap inside (map_words-nibbles words h)
