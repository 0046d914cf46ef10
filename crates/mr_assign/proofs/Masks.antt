-- Words by their nibbles: sums without a carry, and the mask of the nibbles that aren't 0.
use Rattle.std.proofs.Common.{◌≡◌, ◌≢◌, ℕ, zero, suc, ◌+◌, ◌-◌, ◌*◌, ◌/◌, ◌%◌, ◌^◌, ◌<◌, ◌≤◌, ◌↔◌, false, List, get_or, refl, sym, ap, subst, ◌∙◌, inl, inr, ⊎_elim, arith}
use Rattle.std.specs.Prelude.{bit_and, IsTrue}
use Rattle.std.proofs.lemmas.Bool.{cases_eq, cases_lt}
use Rattle.std.proofs.lemmas.Nat.{and_shr, and_mod, and_mask, and_le_l, field_of, shr_high, mod_low, mul-add-lt, pow-add}
use Rattle.std.proofs.lemmas.List.{ext_get_or}
use Rattle.std.proofs.Math.Pow.{mod-mod-pow}
use Rattle.std.proofs.Math.Nat.{mod-eq_of_lt}
use Rattle.mr_assign.specs.declared.TheConstants.{POSITIONS, CLAUSE_WORDS, VALUES}
use Rattle.mr_assign.specs.Packing.{nibble, nibble_at, nibbles, packed_values, map_words}
use Rattle.mr_assign.specs.Private.Packing.{IsPacking}
use Rattle.mr_assign.specs.Private.Again.{packed-same, packed-nibble, place, length-nibbles, get_or-nibbles, get_or-map_words}
use Rattle.mr_assign.specs.Private.Words.{nonzero, HasValues}
use Rattle.mr_assign.specs.Assign.{IsAssign, IsPartOf}
use Rattle.mr_assign.proofs.Maps.{AgreesBelow, value-view}

-- the words' bits in common are common nibble by nibble
pub nibble-and : (a b k : ℕ) → nibble (bit_and a b) k ≡ bit_and (nibble a k) (nibble b k)
nibble-and a b k = ap (λ v. v % 16) (and_shr a b (4 * k)) ∙ and_mod (a / 2 ^ (4 * k)) (b / 2 ^ (4 * k)) 4

-- one more nibble takes four more bits
next_power : (n : ℕ) → 2 ^ (4 * suc n) ≡ 2 ^ (4 * n) * 16
next_power n = ap (λ k. 2 ^ k) (let e : 4 * suc n ≡ 4 * n + 4 = omega arith in e) ∙ pow-add 2 (4 * n) 4

-- n nibbles fill no more than 4 n bits
pub packed-lt : (n : ℕ) (f : ℕ → ℕ) → ((k : ℕ) → k < n → f k < 16) → packed_values n f < 2 ^ (4 * n)
unfolding packed_values
packed-lt zero f small = omega arith
packed-lt (suc n) f small =
    subst (λ m. f n * 2 ^ (4 * n) + packed_values n f < m) (sym (next_power n))
    (mul-add-lt (f n) (2 ^ (4 * n)) (packed_values n f) 16 (small n (omega arith)) (packed-lt n f (λ k lt. small k (omega arith))))

-- a nibble among the lowest n stands in what is left at 4 n bits
nibble-low : (w n k : ℕ) → k < n → nibble w k ≡ nibble (w % 2 ^ (4 * n)) k
nibble-low w n k lt =
    let j : ℕ = 4 * n - (4 + 4 * k) in
    let e : 4 * n ≡ j + (4 + 4 * k) = omega arith in
    let cut : w % 2 ^ (4 * n) % 2 ^ (4 + 4 * k) ≡ w % 2 ^ (4 + 4 * k) = ap (λ m. w % 2 ^ m % 2 ^ (4 + 4 * k)) e ∙ mod-mod-pow w j (4 + 4 * k) in
    sym (field_of w 4 (4 * k)) ∙ ap (λ m. m / 2 ^ (4 * k)) (sym cut) ∙ field_of (w % 2 ^ (4 * n)) 4 (4 * k)

-- the nibbles of a packed word are those that were packed
pub nibble-packed : (n : ℕ) (f : ℕ → ℕ) → ((k : ℕ) → k < n → f k < 16) → (k : ℕ) → k < n → nibble (packed_values n f) k ≡ f k
unfolding packed_values
nibble-packed zero f small k lt = absurd (omega arith)
nibble-packed (suc n) f small k lt =
    let low : packed_values n f < 2 ^ (4 * n) = packed-lt n f (λ j l. small j (omega arith)) in
    ⊎_elim
    (λ (p : k < n). nibble-low (f n * 2 ^ (4 * n) + packed_values n f) n k p ∙ ap (λ m. nibble m k) (mod_low (f n) (4 * n) (packed_values n f) low) ∙ nibble-packed n f (λ j l. small j (omega arith)) k p)
    (λ (p : n ≤ k). let is : k ≡ n = omega arith in
    ap (nibble (f n * 2 ^ (4 * n) + packed_values n f)) is ∙ ap (λ m. m % 16) (shr_high (f n) (4 * n) (packed_values n f) low) ∙ mod-eq_of_lt (small n (omega arith)) ∙ ap f (sym is))
    (cases_lt k n)

-- packed words are added nibble by nibble
packed-add : (n : ℕ) (f g : ℕ → ℕ) → packed_values n f + packed_values n g ≡ packed_values n (λ k. f k + g k)
unfolding packed_values
packed-add zero f g = refl
packed-add (suc n) f g = let rest = packed-add n f g in regroup (f n) (g n) (2 ^ (4 * n)) (packed_values n f) (packed_values n g) (packed_values n (λ k. f k + g k)) rest
  where
    regroup : (a b p x y z : ℕ) → x + y ≡ z → (a * p + x) + (b * p + y) ≡ (a + b) * p + z
    regroup a b p x y z e = grind arith

-- and multiplied nibble by nibble
packed-mul : (n c : ℕ) (f : ℕ → ℕ) → packed_values n f * c ≡ packed_values n (λ k. f k * c)
unfolding packed_values
packed-mul zero c f = omega arith
packed-mul (suc n) c f = let rest = packed-mul n c f in regroup (f n) (2 ^ (4 * n)) (packed_values n f) c (packed_values n (λ k. f k * c)) rest
  where
    regroup : (a p x c z : ℕ) → x * c ≡ z → (a * p + x) * c ≡ (a * c) * p + z
    regroup a p x c z e = grind arith

-- a word is its nibbles, packed
pub packed_word : (w : ℕ) → w < 2 ^ 64 → packed_values 16 (nibble w) ≡ w
packed_word w small = packed-nibble 16 w ∙ mod-eq_of_lt small

-- words with the same nibbles are one word
pub same_words : (a b : ℕ) → a < 2 ^ 64 → b < 2 ^ 64 → ((k : ℕ) → k < 16 → nibble a k ≡ nibble b k) → a ≡ b
same_words a b sa sb same = sym (packed_word a sa) ∙ packed-same 16 (nibble a) (nibble b) same ∙ packed_word b sb

-- the word of sixteen sevens
sevens : packed_values 16 (λ _. 7) ≡ 0x7777777777777777
unfolding packed_values
sevens = refl

-- the word of sixteen eights
eights : packed_values 16 (λ _. 8) ≡ 0x8888888888888888
unfolding packed_values
eights = refl

-- seven more in each nibble
raised : (w : ℕ) → w < 2 ^ 64 → w + 0x7777777777777777 ≡ packed_values 16 (λ k. nibble w k + 7)
raised w small = sym (ap (λ m. m + 0x7777777777777777) (packed_word w small)) ∙ ap (λ m. packed_values 16 (nibble w) + m) (sym sevens) ∙ packed-add 16 (nibble w) (λ _. 7)

-- and no carry leaves the word, as no nibble is above VALUES
pub raised-lt : (w : ℕ) → w < 2 ^ 64 → ((k : ℕ) → k < 16 → nibble w k ≤ 8) → w + 0x7777777777777777 < 2 ^ 64
raised-lt w small values = subst (λ m. m < 2 ^ 64) (sym (raised w small)) (packed-lt 16 (λ k. nibble w k + 7) (λ k lt. let v = values k lt in omega arith))

-- a flag is 0 or 1
nonzero-le : (v : ℕ) → nonzero v ≤ 1
nonzero-le zero = omega arith
nonzero-le (suc v) = omega arith

-- and it is 1 for a value
nonzero-some : (v : ℕ) → v ≢ 0 → nonzero v ≡ 1
nonzero-some zero some = absurd (some refl)
nonzero-some (suc v) some = refl

-- a nibble plus seven reaches the bit of eight just where it isn't 0
high_bit : (v : ℕ) → v ≤ 8 → bit_and (v + 7) 8 ≡ nonzero v * 8
high_bit zero le = refl
high_bit (suc zero) le = refl
high_bit (suc (suc zero)) le = refl
high_bit (suc (suc (suc zero))) le = refl
high_bit (suc (suc (suc (suc zero)))) le = refl
high_bit (suc (suc (suc (suc (suc zero))))) le = refl
high_bit (suc (suc (suc (suc (suc (suc zero)))))) le = refl
high_bit (suc (suc (suc (suc (suc (suc (suc zero))))))) le = refl
high_bit (suc (suc (suc (suc (suc (suc (suc (suc zero)))))))) le = refl
high_bit (suc (suc (suc (suc (suc (suc (suc (suc (suc n))))))))) le = absurd (omega arith)

-- the nibbles that aren't 0, as bits
pub flags : (w : ℕ) → w < 2 ^ 64 → ((k : ℕ) → k < 16 → nibble w k ≤ 8) → bit_and (w + 0x7777777777777777) 0x8888888888888888 / 2 ^ 3 ≡ packed_values 16 (λ k. nonzero (nibble w k))
flags w small values =
    let low : bit_and (w + 0x7777777777777777) 0x8888888888888888 < 2 ^ 64 =
    let le = and_le_l (w + 0x7777777777777777) 0x8888888888888888 in let lt = raised-lt w small values in omega arith in
    let at : (k : ℕ) → k < 16 → nibble (bit_and (w + 0x7777777777777777) 0x8888888888888888) k ≡ nonzero (nibble w k) * 8 =
    λ k lt.
    nibble-and (w + 0x7777777777777777) 0x8888888888888888 k
    ∙ ap (λ m. bit_and (nibble m k) (nibble 0x8888888888888888 k)) (raised w small)
    ∙ ap (λ m. bit_and m (nibble 0x8888888888888888 k)) (nibble-packed 16 (λ j. nibble w j + 7) (λ j l. let v = values j l in omega arith) k lt)
    ∙ ap (bit_and (nibble w k + 7)) (ap (λ m. nibble m k) (sym eights) ∙ nibble-packed 16 (λ _. 8) (λ j l. omega arith) k lt)
    ∙ high_bit (nibble w k) (values k lt) in
    let word : bit_and (w + 0x7777777777777777) 0x8888888888888888 ≡ packed_values 16 (λ k. nonzero (nibble w k)) * 8 =
    sym (packed_word (bit_and (w + 0x7777777777777777) 0x8888888888888888) low) ∙ packed-same 16 (nibble (bit_and (w + 0x7777777777777777) 0x8888888888888888)) (λ k. nonzero (nibble w k) * 8) at ∙ sym (packed-mul 16 8 (λ k. nonzero (nibble w k))) in
    ap (λ m. m / 2 ^ 3) word ∙ eighth (packed_values 16 (λ k. nonzero (nibble w k)))
  where
    eighth : (x : ℕ) → x * 8 / 8 ≡ x
    eighth x = omega arith

-- the mask has fifteen at the nibbles that aren't 0, and 0 at the others
pub nibble-mask : (w : ℕ) → w < 2 ^ 64 → HasValues w → (k : ℕ) → k < 16 → nibble (bit_and (w + 0x7777777777777777) 0x8888888888888888 / 2 ^ 3 * 15) k ≡ nonzero (nibble w k) * 15
nibble-mask w small values k lt =
    ap (λ m. nibble (m * 15) k) (flags w small values) ∙ ap (λ m. nibble m k) (packed-mul 16 15 (λ j. nonzero (nibble w j)))
    ∙ nibble-packed 16 (λ j. nonzero (nibble w j) * 15) (λ j l. let v = nonzero-le (nibble w j) in omega arith) k lt

-- the mask is a word
pub mask-lt : (w : ℕ) → w < 2 ^ 64 → HasValues w → bit_and (w + 0x7777777777777777) 0x8888888888888888 / 2 ^ 3 * 15 < 2 ^ 64
mask-lt w small values =
    subst (λ m. m < 2 ^ 64) (sym (ap (λ m. m * 15) (flags w small values) ∙ packed-mul 16 15 (λ j. nonzero (nibble w j))))
    (packed-lt 16 (λ j. nonzero (nibble w j) * 15) (λ j l. let v = nonzero-le (nibble w j) in omega arith))

-- under its mask a word is b just where each nibble of b that isn't 0 is its own
pub masked : (a b m : ℕ) → a < 2 ^ 64 → b < 2 ^ 64 → ((k : ℕ) → k < 16 → nibble m k ≡ nonzero (nibble b k) * 15) →
    (bit_and a m ≡ b) ↔ ((k : ℕ) → k < 16 → nibble b k ≢ 0 → nibble a k ≡ nibble b k)
masked a b m sa sb mask = (
  λ e k lt some. sym (kept k lt some) ∙ ap (λ w. nibble w k) e,
  λ same. same_words (bit_and a m) b (let le = and_le_l a m in omega arith) sb (λ k lt. elim (cases_eq (nibble b k) 0) as (λ _. nibble (bit_and a m) k ≡ nibble b k) [
    | inl none ↦ nibble-and a m k ∙ ap (bit_and (nibble a k)) (mask k lt ∙ ap (λ v. nonzero v * 15) none) ∙ and_mask (nibble a k) 0 ∙ ones (nibble a k) ∙ sym none
    | inr some ↦ kept k lt some ∙ same k lt some
  ]),
)
  where
    ones : (v : ℕ) → v % 2 ^ 0 ≡ 0
    ones v = omega arith

    small : (w k : ℕ) → nibble w k < 16
    small w k = omega arith

    kept : (k : ℕ) → k < 16 → nibble b k ≢ 0 → nibble (bit_and a m) k ≡ nibble a k
    kept k lt some = nibble-and a m k ∙ ap (bit_and (nibble a k)) (mask k lt ∙ ap (λ v. v * 15) (nonzero-some (nibble b k) some)) ∙ and_mask (nibble a k) 4 ∙ mod-eq_of_lt (small a k)

-- each nibble of a packing's word is a value or 0
pub HasValues-word : (ws : List ℕ) (i : ℕ) → IsPacking ws → HasValues (get_or ws i 0)
HasValues-word ws i h k lt = subst (λ v. v ≤ VALUES) (place ws i k lt) (h.values (16 * i + k))

-- words that agree and one more that does agree further
pub agrees_more : (ws vs : List ℕ) (i m : ℕ) → IsPacking ws → IsPacking vs → ((k : ℕ) → k < 16 → nibble m k ≡ nonzero (nibble (get_or vs i 0) k) * 15) →
    bit_and (get_or ws i 0) m ≡ get_or vs i 0 → AgreesBelow ws vs (16 * i) → AgreesBelow ws vs (16 * (i + 1))
agrees_more ws vs i m hw hv mask same below p lt some = ⊎_elim
    (λ (q : p < 16 * i). below p q some)
    (λ (q : 16 * i ≤ p).
    let k : ℕ = p - 16 * i in
    let is : 16 * i + k ≡ p = omega arith in
    let small : k < 16 = omega arith in
    let left : nibble_at ws p ≡ nibble (get_or ws i 0) k = sym (ap (nibble_at ws) is) ∙ place ws i k small in
    let right : nibble_at vs p ≡ nibble (get_or vs i 0) k = sym (ap (nibble_at vs) is) ∙ place vs i k small in
    left ∙ (masked (get_or ws i 0) (get_or vs i 0) m (hw.range i) (hv.range i) mask).0 same k small (λ e. some (right ∙ e)) ∙ sym right)
    (cases_lt p (16 * i))

-- where one word doesn't agree, the second map is no part of the first
pub disagrees : (ws vs a b : List ℕ) (i m : ℕ) → nibbles ws ≡ a → nibbles vs ≡ b → IsPacking ws → IsPacking vs → i < CLAUSE_WORDS → ((k : ℕ) → k < 16 → nibble m k ≡ nonzero (nibble (get_or vs i 0) k) * 15) →
    (bit_and (get_or ws i 0) m ≡ get_or vs i 0 → ⊥) → IsTrue false ↔ IsPartOf b a
disagrees ws vs a b i m isa isb hw hv lt mask differs = (
  λ refused. cc,
  λ part. absurd (differs ((masked (get_or ws i 0) (get_or vs i 0) m (hw.range i) (hv.range i) mask).1 (λ k small some.
      let inside : 16 * i + k < POSITIONS = omega arith in
      let va = value-view ws a (16 * i + k) isa inside in
      let vb = value-view vs b (16 * i + k) isb inside in
      sym (place ws i k small) ∙ va ∙ part (16 * i + k) (λ e. some (sym (place vs i k small) ∙ vb ∙ e)) ∙ sym vb ∙ place vs i k small))),
)

-- a map comes back from its words
pub nibbles-map_words : (a : List ℕ) → IsAssign a → nibbles (map_words a) ≡ a
nibbles-map_words a h = ext_get_or 0 (nibbles (map_words a)) a (length-nibbles (map_words a) ∙ sym h.positions) (λ p lt.
    let inside : p < POSITIONS = let n = length-nibbles (map_words a) in omega arith in
    let i : ℕ = p / 16 in
    let k : ℕ = p % 16 in
    let is : 16 * i + k ≡ p = omega arith in
    let small : (j : ℕ) → j < 16 → get_or a (16 * i + j) 0 < 16 =
    λ j l. let n = h.positions in let v : get_or a (16 * i + j) 0 ≤ VALUES = h.values (16 * i + j) 0 (omega arith) in omega arith in
    get_or-nibbles (map_words a) p inside
    ∙ ap (λ w. nibble w k) (get_or-map_words a i (omega arith))
    ∙ nibble-packed 16 (λ j. get_or a (16 * i + j) 0) small k (omega arith)
    ∙ ap (λ q. get_or a q 0) is)
