-- The first element of a set, by the lowest bit of its mask, and the elements after it.
use Rattle.std.proofs.Common.{◌≡◌, ℕ, ◌-◌, ◌*◌, ◌%◌, ◌^◌, ◌≤◌, Bool, true, false, cond, suc, ◌&&◌, List, [], ◌∷◌, length, None, Some, refl, sym, ap, subst, ◌∙◌, arith, inl, inr}
use Rattle.std.specs.Prelude.{◌<◌, Contains, not, filter, nat_eq, nat_lt, slice_get}
use Rattle.std.specs.List.Sorted.{IsStrictlySortedBy}
use Rattle.std.specs.Ordering.{nat_cmp}
use Rattle.std.specs.Int.{bit_at, w64, trailing_zeros}
use Rattle.std.proofs.lemmas.Bool.{cases_eq, cases_lt, cases_Bool}
use Rattle.std.proofs.lemmas.Bool.Decides.{nat_tests, Decides-ltb, Decides-eqb}
use Rattle.std.proofs.lemmas.List.Kept.{IsStrictlySortedBy-filter}
use Rattle.std.proofs.lemmas.Nat.Bits.{bit_at-trailing_zeros, bit_at_above, bit_at_ones, bit_at_ones_above}
use Rattle.std.proofs.Math.Nat.{mod-eq_of_lt}
use Rattle.std.proofs.Math.Pow.{pow-lt}
use Rattle.mr_set.specs.Elements.{IsSet, is_element, elements_below, numbers_below, without_element}
use Rattle.mr_set.proofs.Members.{IsBelowAll, Contains-from_element, itself, above_first, not_element_below, is_element-without, is_element-numbers_below, numbers_below-sorted, same_sets}
use Rattle.mr_set.proofs.Bits.{is_element-elements, same_as_elements, set-mask}
use Rattle.mr_set.proofs.Sorted.{sorted_parts}
use Rattle.mr_set.proofs.Lexicographic.{from_set, room}

-- both tests of a bit pass
bit_of : (mask e : ℕ) → (nat_eq (bit_at mask e) 1 && nat_lt e 32) ≡ true → bit_at mask e ≡ 1
bit_of mask e h = elim (cases_Bool (nat_eq (bit_at mask e) 1)) [
  | inl is ↦ (Decides-eqb (bit_at mask e) 1).0 is
  | inr is_not ↦ absurd (let f : (nat_eq (bit_at mask e) 1 && nat_lt e 32) ≡ false = rw is_not refl in cc)
]

-- the lowest bit that is set is one below 32
pub lowest_small : (mask : ℕ) → mask < 2 ^ 32 → 0 < mask → trailing_zeros w64 mask < 32
lowest_small mask small some = elim (cases_lt (trailing_zeros w64 mask) 32) [
  | inl lt ↦ lt
  | inr past ↦ absurd (
      let low : (trailing_zeros w64 mask < 64) × (bit_at mask (trailing_zeros w64 mask) ≡ 1) × ((i : ℕ) → i < trailing_zeros w64 mask → bit_at mask i ≡ 0) = bit_at-trailing_zeros w64 mask some (omega arith) in
      let none = bit_at_above mask 32 (trailing_zeros w64 mask) small past in
      let one = low.1 in
      omega arith)
]

-- it is the first element
pub first_bit : (mask : ℕ) (x : List ℕ) → elements_below 32 mask ≡ x → mask < 2 ^ 32 → 0 < mask → Some (trailing_zeros w64 mask) ≡ slice_get x 0
first_bit mask x is small some = at x is
  where
    low : (trailing_zeros w64 mask < 64) × (bit_at mask (trailing_zeros w64 mask) ≡ 1) × ((i : ℕ) → i < trailing_zeros w64 mask → bit_at mask i ≡ 0)
    low = bit_at-trailing_zeros w64 mask some (omega arith)

    test : (x : List ℕ) → elements_below 32 mask ≡ x → (k : ℕ) → is_element x k ≡ (nat_eq (bit_at mask k) 1 && nat_lt k 32)
    test x is k = sym (ap (λ z. is_element z k) is) ∙ is_element-elements 32 mask k

    has : (x : List ℕ) → elements_below 32 mask ≡ x → is_element x (trailing_zeros w64 mask) ≡ true
    has x is = test x is (trailing_zeros w64 mask) ∙ ap (λ b. b && nat_lt (trailing_zeros w64 mask) 32) ((Decides-eqb (bit_at mask (trailing_zeros w64 mask)) 1).1 low.1) ∙ (Decides-ltb (trailing_zeros w64 mask) 32).1 (lowest_small mask small some)

    at : (x : List ℕ) → elements_below 32 mask ≡ x → Some (trailing_zeros w64 mask) ≡ slice_get x 0
    at [] is = absurd (let h = has [] is in cc)
    at (y ∷ ys) is =
        let set = bit_of mask y (sym (test (y ∷ ys) is y) ∙ itself y ys) in
        let sorted = sorted_parts y ys (set-mask mask (y ∷ ys) is).increasing in
        let same : trailing_zeros w64 mask ≡ y = elim (cases_lt y (trailing_zeros w64 mask)) [
          | inl below ↦ absurd (let none = low.2 y below in omega arith)
          | inr no_less ↦ elim (cases_lt (trailing_zeros w64 mask) y) [
            | inl above ↦ absurd (let gone = above_first (trailing_zeros w64 mask) y ys above sorted.0 in let found = has (y ∷ ys) is in cc)
            | inr no_more ↦ omega arith
          ]
        ] in
        ap Some same

-- no bit is set in the mask of no elements
pub no_first : (x : List ℕ) → elements_below 32 0 ≡ x → slice_get x 0 ≡ None
unfolding elements_below
no_first x is = ap (λ y. slice_get y 0) (sym is)

-- the lowest bits are the first numbers
pub low_bits : (n : ℕ) → n ≤ 32 → elements_below 32 (2 ^ n - 1) ≡ numbers_below n
low_bits n le = same_as_elements 32 (2 ^ n - 1) (numbers_below n) (numbers_below-sorted n) (λ e. at e ∙ sym (is_element-numbers_below n e))
  where
    at : (e : ℕ) → (nat_eq (bit_at (2 ^ n - 1) e) 1 && nat_lt e 32) ≡ nat_lt e n
    at e = elim (cases_lt e n) [
      | inl below ↦ rw (bit_at_ones n e below, (Decides-ltb e n).1 below) ((Decides-ltb e 32).1 (omega arith))
      | inr past ↦ rw (bit_at_ones_above n e past) (sym (let h : nat_lt e n ≡ false = grind (arith, nat_tests) in h))
    ]

-- a list in order without its first number is the rest
pub without-first : (e : ℕ) (xs : List ℕ) → IsStrictlySortedBy nat_cmp (e ∷ xs) → without_element e (e ∷ xs) ≡ xs
without-first e xs sorted =
    same_sets (without_element e (e ∷ xs)) xs (IsStrictlySortedBy-filter nat_cmp (λ j. not (nat_eq j e)) (e ∷ xs) sorted) parts.1 (λ k. is_element-without e k (e ∷ xs) ∙ at k)
  where
    parts : IsBelowAll e xs × IsStrictlySortedBy nat_cmp xs
    parts = sorted_parts e xs sorted

    at : (k : ℕ) → (not (nat_eq k e) && is_element (e ∷ xs) k) ≡ is_element xs k
    at k = elim (cases_eq k e) [
      | inl same ↦ rw ((Decides-eqb k e).1 same) (sym (not_element_below e k xs (omega arith) parts.0))
      | inr other ↦ let differs : nat_eq k e ≡ false = grind (arith, nat_tests) in rw (differs) refl
    ]

-- a set of some of the first n elements has no more than n
pub length-le : (n : ℕ) (x : List ℕ) → IsSet n x → length x ≤ n
length-le n [] set = omega arith
length-le n (e ∷ es) set = let fits = room 0 n e es (from_set n (length (e ∷ es)) (e ∷ es) (record { set = set; size = refl })) in omega arith

-- a bit below 32 as it is computed
pub power : (n : ℕ) → n ≤ 32 → 1 * 2 ^ n % 2 ^ 64 ≡ 2 ^ n
power n le =
    let one : 1 * 2 ^ n ≡ 2 ^ n = omega arith in
    let fits : 2 ^ n < 2 ^ 64 = pow-lt (let l : n < 64 = omega arith in l) in
    ap (λ k. k % 2 ^ 64) one ∙ mod-eq_of_lt fits

-- a set that begins with an element is that and the others
pub first_and_rest : (x : List ℕ) (e : ℕ) → Some e ≡ slice_get x 0 → IsStrictlySortedBy nat_cmp x → x ≡ e ∷ without_element e x
first_and_rest [] e is sorted = absurd (cc)
first_and_rest (y ∷ ys) e is sorted =
    let same : y ≡ e = cc in
    subst (λ k. y ∷ ys ≡ k ∷ without_element k (y ∷ ys)) same (ap (λ z. y ∷ z) (sym (without-first y ys sorted)))

-- it has that element
pub first_inside : (x : List ℕ) (e : ℕ) → Some e ≡ slice_get x 0 → Contains x e
first_inside [] e is = absurd (cc)
first_inside (y ∷ ys) e is = let same : y ≡ e = cc in Contains-from_element (y ∷ ys) e (subst (λ k. is_element (y ∷ ys) k ≡ true) same (itself y ys))

-- no more elements pass a test than there are
length-filter-le : (p : ℕ → Bool) (xs : List ℕ) → length (filter p xs) ≤ length xs
length-filter-le p [] = omega arith
length-filter-le p (x ∷ xs) = at (p x) (length-filter-le p xs)
  where
    at : (b : Bool) → length (filter p xs) ≤ length xs → length (cond b (x ∷ filter p xs) (filter p xs)) ≤ suc (length xs)
    at true le = omega arith
    at false le = omega arith

-- and is longer than without it
pub first_shorter : (x : List ℕ) (e : ℕ) → Some e ≡ slice_get x 0 → length (without_element e x) < length x
first_shorter [] e is = absurd (cc)
first_shorter (y ∷ ys) e is =
    let same : y ≡ e = cc in
    let gone : nat_eq y e ≡ true = (Decides-eqb y e).1 same in
    let kept : length (without_element e ys) ≤ length ys = length-filter-le (λ k. not (nat_eq k e)) ys in
    rw gone (omega arith)

-- a set without a first element is empty
pub none_first : (x : List ℕ) → None ≡ slice_get x 0 → x ≡ []
none_first [] is = refl
none_first (y ∷ ys) is = absurd (cc)
