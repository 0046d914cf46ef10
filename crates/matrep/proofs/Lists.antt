-- Lists of numbers with commas between them, and their masks.
use Rattle.std.proofs.Common.{◌≡◌, ◌≢◌, ℕ, zero, suc, ◌+◌, ◌*◌, ◌%◌, ◌-◌, ◌<◌, ◌≤◌, Bool, true, false, ◌&&◌, List, [], ◌∷◌, ◌++◌, length, refl, sym, ap, subst, ◌∙◌, inl, inr, ◌⊎◌, arith}
use Rattle.std.specs.Prelude.{◌^◌, ◌↔◌, ◌||◌, IsTrue, decimal, All, Contains, map, min, nat_eq, nat_lt, bit_and, bit_or}
use Rattle.std.specs.List.{join_with_byte}
use Rattle.std.specs.Int.{bit_at, w64}
use Rattle.std.proofs.lemmas.Bool.{cases_eq, cases_lt}
use Rattle.std.proofs.lemmas.Bool.Decides.{nat_tests, Decides-ltb, Decides-eqb}
use Rattle.std.proofs.lemmas.Fmt.{decimal_injective}
use Rattle.std.proofs.lemmas.Nat.Bits.{bit_at-lt, bit_at-zero, bit_at_above, bit_at_and, bit_at_set_same, bit_at_set_other, same_from_bits_below}
use Rattle.std.specs.Int.Bits.{or_zero_l}
use Rattle.std.proofs.lemmas.Nat.{and_le_l}
use Rattle.mr_set.specs.Elements.{IsSet, is_element, elements_below, with_element}
use Rattle.mr_set.proofs.Bits.{is_element-elements, elements-set, elements-sorted, same_as_elements}
use Rattle.mr_set.proofs.Members.{is_element-with, is_element-from_Contains, Contains-from_element, with_element-sorted}
use Rattle.mr_set.proofs.Sorted.{all_head, all_tail, all_cons, all_none, below_all, all_above, sorted_cons, sorted_parts, sorted_none, with_front}
use Rattle.mr_minor.proofs.Bitwise.{elements-zero}
use Rattle.mr_text.specs.Text.{Lacks}
use Rattle.mr_text.proofs.Formats.{same_parts, has_separator}
use Rattle.mr_text.proofs.Decimals.{decimal_without}
use Rattle.matrep.specs.Words.{IsListText, list_text}
use Rattle.matrep.specs.Private.Operands.{IsListFrom, HasNumber, ShareNone}

-- a bit is a number of few digits, and has no comma
no_comma : (e : ℕ) → e < 64 → Lacks 44 (decimal e)
no_comma e small = decimal_without 44 e (omega arith) (omega arith)

-- one number
one_text : (e : ℕ) → e < 64 → IsListText (decimal e) (e ∷ [])
one_text e small = record {
  some = λ same. cc;
  set = record { increasing = sorted_cons e [] tt sorted_none; elements = all_cons (λ k. k < 64) e [] small (all_none (λ k. k < 64)) };
  text_is = refl;
}

-- it is from any number on that is no greater
pub one_from : (low e : ℕ) (text : List ℕ) → low ≤ e → e < 64 → text ≡ decimal e → IsListFrom low text (e ∷ [])
one_from low e text from small is =
    subst (λ (t : List ℕ). IsListFrom low t (e ∷ [])) (sym is) (record { list = one_text e small; from = all_cons (λ k. low ≤ k) e [] from (all_none (λ k. low ≤ k)) })

-- a number, a comma and more numbers
pub more_from : (low e : ℕ) (first rest xs : List ℕ) → low ≤ e → e < 64 → first ≡ decimal e → IsListFrom (e + 1) rest xs → IsListFrom low (first ++ 44 ∷ rest) (e ∷ xs)
more_from low e first rest [] from small is are = absurd (are.list.some refl)
more_from low e first rest (x ∷ xs) from small is are = record {
  list = record {
    some = λ same. cc;
    set = record {
      increasing = sorted_cons e (x ∷ xs) (below_all e (x ∷ xs) are.from) are.list.set.increasing;
      elements = all_cons (λ k. k < 64) e (x ∷ xs) small are.list.set.elements;
    };
    text_is = ap (λ (t : List ℕ). t ++ 44 ∷ rest) is ∙ ap (λ (t : List ℕ). decimal e ++ 44 ∷ t) are.list.text_is;
  };
  from = all_cons (λ k. low ≤ k) e (x ∷ xs) from (λ k d lt. let h = are.from k d lt in omega arith);
}

-- a list without commas is one number
pub lone_number : (low : ℕ) (text xs : List ℕ) → Lacks 44 text → IsListFrom low text xs → (e : ℕ) × (low ≤ e) × (e < 64) × (text ≡ decimal e)
lone_number low text [] none are = absurd (are.list.some refl)
lone_number low text (e ∷ []) none are = (e, all_head (λ k. low ≤ k) e [] are.from, all_head (λ k. k < 64) e [] are.list.set.elements, are.list.text_is)
lone_number low text (e ∷ x ∷ xs) none are =
    let comma = ap (λ (t : List ℕ). is_element t 44) are.list.text_is ∙ has_separator 44 (decimal e) (list_text (x ∷ xs)) in
    let no : true ≡ false = sym comma ∙ none in
    cc

-- the parts of a list that is split at its first comma
pub split_list : (low : ℕ) (text first rest xs : List ℕ) → text ≡ first ++ 44 ∷ rest → Lacks 44 first → IsListFrom low text xs →
    (e : ℕ) × (others : List ℕ) × (low ≤ e) × (e < 64) × (first ≡ decimal e) × IsListFrom (e + 1) rest others
split_list low text first rest [] is none are = absurd (are.list.some refl)
split_list low text first rest (e ∷ []) is none are =
    let small = all_head (λ k. k < 64) e [] are.list.set.elements in
    let comma = ap (λ (t : List ℕ). is_element t 44) (sym are.list.text_is ∙ is) ∙ has_separator 44 first rest in
    let no : true ≡ false = sym comma ∙ no_comma e small in
    cc
split_list low text first rest (e ∷ x ∷ xs) is none are =
    let small = all_head (λ k. k < 64) e (x ∷ xs) are.list.set.elements in
    let both = same_parts 44 first (decimal e) rest (list_text (x ∷ xs)) none (no_comma e small) (sym is ∙ are.list.text_is) in
    let parts = sorted_parts e (x ∷ xs) are.list.set.increasing in (
      e,
      x ∷ xs,
      all_head (λ k. low ≤ k) e (x ∷ xs) are.from,
      small,
      both.0,
      record {
        list = record { some = λ same. cc; set = record { increasing = parts.1; elements = all_tail (λ k. k < 64) e (x ∷ xs) are.list.set.elements }; text_is = both.1 };
        from = all_above e (x ∷ xs) parts.0;
      },
    )

-- any list is one from 0 on
pub from_zero : (text xs : List ℕ) → IsListText text xs → IsListFrom 0 text xs
from_zero text xs is = record { list = is; from = λ k d lt. omega arith }

-- the rest of a list
tail_of : (low : ℕ) (text : List ℕ) (x w : ℕ) (ws : List ℕ) → IsListFrom low text (x ∷ w ∷ ws) → IsListFrom (x + 1) (list_text (w ∷ ws)) (w ∷ ws)
tail_of low text x w ws p =
    let parts = sorted_parts x (w ∷ ws) p.list.set.increasing in
    record {
      list = record { some = λ same. cc; set = record { increasing = parts.1; elements = all_tail (λ k. k < 64) x (w ∷ ws) p.list.set.elements }; text_is = refl };
      from = all_above x (w ∷ ws) parts.0;
    }

-- two longer lists with one text begin alike, and their rests have one text
same_heads : (low : ℕ) (text : List ℕ) (x y w z : ℕ) (ws zs : List ℕ) → IsListFrom low text (x ∷ w ∷ ws) → IsListFrom low text (y ∷ z ∷ zs) →
    (x ≡ y) × IsListFrom (x + 1) (list_text (w ∷ ws)) (z ∷ zs)
same_heads low text x y w z ws zs p q =
    let small = all_head (λ k. k < 64) x (w ∷ ws) p.list.set.elements in
    let small_too = all_head (λ k. k < 64) y (z ∷ zs) q.list.set.elements in
    let both = same_parts 44 (decimal x) (decimal y) (list_text (w ∷ ws)) (list_text (z ∷ zs)) (no_comma x small) (no_comma y small_too) (sym p.list.text_is ∙ q.list.text_is) in
    let first : x ≡ y = decimal_injective x y (omega arith) (omega arith) both.0 in
    let rest = tail_of low text y z zs q in
    (first, subst (λ (t : List ℕ). IsListFrom (x + 1) t (z ∷ zs)) (sym both.1) (subst (λ (e : ℕ). IsListFrom (e + 1) (list_text (z ∷ zs)) (z ∷ zs)) (sym first) rest))

-- a text lists one list of numbers from low on
one_list_from : (xs ys : List ℕ) (low : ℕ) (text : List ℕ) → IsListFrom low text xs → IsListFrom low text ys → xs ≡ ys
one_list_from [] ys low text p q = absurd (p.list.some refl)
one_list_from xs [] low text p q = absurd (q.list.some refl)
one_list_from (x ∷ []) (y ∷ []) low text p q =
    let small = all_head (λ k. k < 64) x [] p.list.set.elements in
    let small_too = all_head (λ k. k < 64) y [] q.list.set.elements in
    ap (λ (e : ℕ). e ∷ []) (decimal_injective x y (omega arith) (omega arith) (sym p.list.text_is ∙ q.list.text_is))
one_list_from (x ∷ []) (y ∷ z ∷ zs) low text p q =
    let small = all_head (λ k. k < 64) x [] p.list.set.elements in
    let comma = ap (λ (t : List ℕ). is_element t 44) (sym p.list.text_is ∙ q.list.text_is) ∙ has_separator 44 (decimal y) (list_text (z ∷ zs)) in
    let no : true ≡ false = sym comma ∙ no_comma x small in
    cc
one_list_from (x ∷ w ∷ ws) (y ∷ []) low text p q =
    let small = all_head (λ k. k < 64) y [] q.list.set.elements in
    let comma = ap (λ (t : List ℕ). is_element t 44) (sym q.list.text_is ∙ p.list.text_is) ∙ has_separator 44 (decimal x) (list_text (w ∷ ws)) in
    let no : true ≡ false = sym comma ∙ no_comma y small in
    cc
one_list_from (x ∷ w ∷ ws) (y ∷ z ∷ zs) low text p q =
    let heads = same_heads low text x y w z ws zs p q in
    ap (λ (e : ℕ). e ∷ w ∷ ws) heads.0 ∙ ap (λ (es : List ℕ). y ∷ es) (one_list_from (w ∷ ws) (z ∷ zs) (x + 1) (list_text (w ∷ ws)) (tail_of low text x w ws p) heads.1)

-- a text lists one list
pub one_list : (text xs ys : List ℕ) → IsListText text xs → IsListText text ys → xs ≡ ys
one_list text xs ys p q = one_list_from xs ys 0 text (from_zero text xs p) (from_zero text ys q)

-- masks

-- the bits of a mask with one more bit
pub with_bit : (mask e : ℕ) → e < 64 → elements_below 64 (bit_or mask (1 * 2 ^ e % 2 ^ 64)) ≡ with_element e (elements_below 64 mask)
with_bit mask e small = same_as_elements 64 _ (with_element e (elements_below 64 mask)) (with_element-sorted e (elements_below 64 mask) (elements-sorted 64 mask)) (λ k.
    at k ∙ ap (λ b. nat_eq k e || b) (sym (is_element-elements 64 mask k)) ∙ sym (is_element-with e k (elements_below 64 mask)))
  where
    at : (k : ℕ) → (nat_eq (bit_at (bit_or mask (1 * 2 ^ e % 2 ^ 64)) k) 1 && nat_lt k 64) ≡ (nat_eq k e || (nat_eq (bit_at mask k) 1 && nat_lt k 64))
    at k = elim (cases_eq k e) [
      | inl same ↦
          let b : bit_at (bit_or mask (1 * 2 ^ e % 2 ^ 64)) k ≡ 1 = subst (λ j. bit_at (bit_or mask (1 * 2 ^ e % 2 ^ 64)) j ≡ 1) (sym same) (bit_at_set_same w64 mask e (omega arith)) in
          let t : nat_eq k e ≡ true = (Decides-eqb k e).1 same in
          let l : nat_lt k 64 ≡ true = (Decides-ltb k 64).1 (omega arith) in
          ap (λ n. nat_eq n 1 && nat_lt k 64) b ∙ l ∙ sym (ap (λ z. z || (nat_eq (bit_at mask k) 1 && nat_lt k 64)) t)
      | inr differs ↦
          let b : bit_at (bit_or mask (1 * 2 ^ e % 2 ^ 64)) k ≡ bit_at mask k = bit_at_set_other w64 mask e (omega arith) k differs in
          let t : nat_eq k e ≡ false = grind (arith, nat_tests) in
          ap (λ n. nat_eq n 1 && nat_lt k 64) b ∙ sym (ap (λ z. z || (nat_eq (bit_at mask k) 1 && nat_lt k 64)) t)
    ]

-- a lower bit goes to the front
pub front_bit : (mask e low : ℕ) (rest : List ℕ) → e < 64 → IsListFrom (e + 1) rest (elements_below 64 mask) → elements_below 64 (bit_or mask (1 * 2 ^ e % 2 ^ 64)) ≡ e ∷ elements_below 64 mask
front_bit mask e low rest small are = with_bit mask e small ∙ with_front e (elements_below 64 mask) are.from

-- one bit
pub lone_bit : (e : ℕ) → e < 64 → elements_below 64 (1 * 2 ^ e % 2 ^ 64) ≡ e ∷ []
lone_bit e small = ap (elements_below 64) (sym (or_zero_l (1 * 2 ^ e % 2 ^ 64))) ∙ with_bit 0 e small ∙ ap (with_element e) (elements-zero 64)

-- both of two tests
both : (p q : Bool) → (p && q) ≡ true → (p ≡ true) × (q ≡ true)
both true true is = (refl, refl)
both true false is = cc
both false q is = cc

-- an element of a mask is a bit that is set
bit_from : (mask e : ℕ) → Contains (elements_below 64 mask) e → (bit_at mask e ≡ 1) × (e < 64)
bit_from mask e inside =
    let tests = both (nat_eq (bit_at mask e) 1) (nat_lt e 64) (sym (is_element-elements 64 mask e) ∙ is_element-from_Contains (elements_below 64 mask) e inside) in
    ((Decides-eqb (bit_at mask e) 1).0 tests.0, (Decides-ltb e 64).0 tests.1)

-- and a bit that is set is an element
bit_in : (mask e : ℕ) → bit_at mask e ≡ 1 → e < 64 → Contains (elements_below 64 mask) e
bit_in mask e set small =
    let first : nat_eq (bit_at mask e) 1 ≡ true = (Decides-eqb (bit_at mask e) 1).1 set in
    let second : nat_lt e 64 ≡ true = (Decides-ltb e 64).1 small in
    Contains-from_element (elements_below 64 mask) e (is_element-elements 64 mask e ∙ ap (λ b. b && nat_lt e 64) first ∙ second)

-- masks have no bit in common exactly where they have no element in common
none_common : (a b : ℕ) → a < 2 ^ 64 → (bit_and a b ≡ 0) ↔ ((e : ℕ) → Contains (elements_below 64 a) e → Contains (elements_below 64 b) e → ⊥)
none_common a b small = (
  λ zero e p q.
      let one = (bit_from a e p).0 in
      let other = (bit_from b e q).0 in
      let common = bit_at_and a b e in
      let none : bit_at (bit_and a b) e ≡ 0 = ap (λ n. bit_at n e) zero ∙ bit_at-zero e in
      omega (arith, one, other, common, none),
  λ apart. same_from_bits_below 64 (bit_and a b) 0 (let le = and_le_l a b in omega (arith, le)) (omega arith) (λ i lt. bit_at_and a b i ∙ at i lt apart ∙ sym (bit_at-zero i)),
)
  where
    at : (i : ℕ) → i < 64 → ((e : ℕ) → Contains (elements_below 64 a) e → Contains (elements_below 64 b) e → ⊥) → min (bit_at a i) (bit_at b i) ≡ 0
    at i lt apart = elim (cases_eq (bit_at a i) 1) [
      | inl one ↦ elim (cases_eq (bit_at b i) 1) [
        | inl other ↦ absurd (apart i (bit_in a i one lt) (bit_in b i other lt))
        | inr other ↦ let low = bit_at-lt b i in omega (arith, low, other)
      ]
      | inr one ↦ let low = bit_at-lt a i in omega (arith, low, one)
    ]

-- two lists share no number exactly where their masks have no bit in common
pub shares : (x y : List ℕ) (a b : ℕ) → a < 2 ^ 64 → IsListText x (elements_below 64 a) → IsListText y (elements_below 64 b) → IsTrue (nat_eq (bit_and a b) 0) ↔ ShareNone x y
shares x y a b small is at = (
  λ zero e p q.
      (none_common a b small).0 ((Decides-eqb (bit_and a b) 0).0 zero) e
      (subst (λ (xs : List ℕ). Contains xs e) (one_list x p.0 (elements_below 64 a) p.1 is) p.2)
      (subst (λ (ys : List ℕ). Contains ys e) (one_list y q.0 (elements_below 64 b) q.1 at) q.2),
  λ none. (Decides-eqb (bit_and a b) 0).1 ((none_common a b small).1 (λ e p q. none e (elements_below 64 a, is, p) (elements_below 64 b, at, q))),
)

-- masks with the same elements are equal
pub one_mask : (a b : ℕ) → a < 2 ^ 64 → b < 2 ^ 64 → elements_below 64 a ≡ elements_below 64 b → a ≡ b
one_mask a b small low same = same_from_bits_below 64 a b small low (λ i lt. bits i lt (cases_eq (bit_at a i) 1) (cases_eq (bit_at b i) 1))
  where
    bits : (i : ℕ) → i < 64 → (bit_at a i ≡ 1) ⊎ (bit_at a i ≢ 1) → (bit_at b i ≡ 1) ⊎ (bit_at b i ≢ 1) → bit_at a i ≡ bit_at b i
    bits i lt (inl one) (inl other) = one ∙ sym other
    bits i lt (inl one) (inr other) = absurd (other (bit_from b i (subst (λ (xs : List ℕ). Contains xs i) same (bit_in a i one lt))).0)
    bits i lt (inr one) (inl other) = absurd (one (bit_from a i (subst (λ (xs : List ℕ). Contains xs i) (sym same) (bit_in b i other lt))).0)
    bits i lt (inr one) (inr other) = let low_a = bit_at-lt a i in let low_b = bit_at-lt b i in omega (arith, low_a, low_b, one, other)
