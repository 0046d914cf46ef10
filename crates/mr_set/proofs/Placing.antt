-- The place of a set among those of its size, by whether it has the least element.
use Rattle.std.proofs.Common.{◌≡◌, ◌≢◌, ℕ, zero, suc, ◌+◌, ◌-◌, ◌^◌, ◌≤◌, ◌⊎◌, List, [], ◌∷◌, ◌++◌, length, get_or, Some, cond, false, refl, sym, ap, subst, ◌∙◌, inl, inr, arith, eq-eqb, ne_eqb}
use Rattle.std.specs.Prelude.{◌<◌, All, Contains, not, nat_eq}
use Rattle.std.specs.List.{slice_get}
use Rattle.std.specs.Option.{option_map}
use Rattle.std.proofs.lemmas.Bool.{cases_lt}
use Rattle.std.proofs.lemmas.List.{length-map}
use Rattle.std.proofs.lemmas.List.Elements.{Contains-get_or}
use Rattle.std.proofs.lemmas.Option.{none-some, slice_get-map, slice_get_within}
use Rattle.mr_set.specs.Elements.{IsSet, with_element, without_element}
use Rattle.mr_set.specs.Subsets.{choose}
use Rattle.mr_set.specs.Private.Enumeration.{IsFrom, sets_from}
use Rattle.mr_set.specs.Places.{IsPlaceOf}
use Rattle.mr_set.proofs.Sorted.{all_head, all_tail, with_front}
use Rattle.mr_set.proofs.Lexicographic.{from_head, from_tail}
use Rattle.mr_set.proofs.Choose.{choose-none, choose-small, choose-parts}
use Rattle.mr_set.proofs.Ordered.{member_cases, place_member}
use Rattle.mr_set.proofs.Listing.{after_front, member_is_set, length-sets_from, all_sets}

-- what stands in the first of two lists stands there in both together
place-append_left : {X : Type 0} (xs ys : List X) (k : ℕ) (x : X) → slice_get xs k ≡ Some x → slice_get (xs ++ ys) k ≡ Some x
place-append_left [] ys k x is = absurd (none-some x is)
place-append_left (y ∷ xs) ys zero x is = is
place-append_left (y ∷ xs) ys (suc k) x is = place-append_left xs ys k x is

-- what stands in the second of them stands after the first
place-append_right : {X : Type 0} (xs ys : List X) (k : ℕ) → slice_get (xs ++ ys) (length xs + k) ≡ slice_get ys k
place-append_right [] ys k = ap (slice_get ys) (let e : 0 + k ≡ k = omega arith in e)
place-append_right (x ∷ xs) ys k = ap (slice_get (x ∷ (xs ++ ys))) (let e : suc (length xs) + k ≡ suc (length xs + k) = omega arith in e) ∙ place-append_right xs ys k

-- the set without elements is alone
pub place-empty : (low m : ℕ) (x : List ℕ) → length x ≡ 0 → slice_get (sets_from low m (length x)) 0 ≡ Some x
unfolding sets_from
place-empty low m [] is = refl
place-empty low m (e ∷ es) is = absurd (omega arith)

-- and at place 0
pub set_at-empty : (low m r k : ℕ) (x : List ℕ) → r ≡ 0 → k < choose m r → x ≡ [] → slice_get (sets_from low m r) k ≡ Some x
unfolding sets_from
set_at-empty low m zero zero x none lt is = ap Some (sym is)
set_at-empty low m zero (suc k) x none lt is = absurd (omega arith)
set_at-empty low m (suc r) k x none lt is = absurd (omega arith)

-- with the least element in front a set stands where the rest did
place-with : (low m r k : ℕ) (x : List ℕ) → slice_get (sets_from (low + 1) m r) k ≡ Some x → slice_get (sets_from low (suc m) (suc r)) k ≡ Some (low ∷ x)
unfolding sets_from
place-with low m r k x is =
    place-append_left (after_front low (sets_from (low + 1) m r)) (sets_from (low + 1) m (suc r)) k (low ∷ x)
    (slice_get-map (λ y. low ∷ y) (sets_from (low + 1) m r) k ∙ ap (option_map (λ y. low ∷ y)) is)

-- the sets without the least element stand after those with it
place-without : (low m r k : ℕ) (x : List ℕ) → slice_get (sets_from (low + 1) m (suc r)) k ≡ Some x → slice_get (sets_from low (suc m) (suc r)) (choose m r + k) ≡ Some x
unfolding sets_from
place-without low m r k x is =
    let before : length (after_front low (sets_from (low + 1) m r)) ≡ choose m r = length-map (sets_from (low + 1) m r) (λ y. low ∷ y) ∙ length-sets_from (low + 1) m r in
    subst (λ c. slice_get (sets_from low (suc m) (suc r)) (c + k) ≡ Some x) before
    (place-append_right (after_front low (sets_from (low + 1) m r)) (sets_from (low + 1) m (suc r)) k ∙ is)

-- a set that has no smaller element than low, and low, begins with it
pub record Begins (low n : ℕ) (x : List ℕ) : Type 0 where
  pub rest : List ℕ
  pub is : x ≡ low ∷ rest
  pub taken : without_element low x ≡ rest
  pub from : IsFrom (low + 1) n rest

-- no element is taken from a set without it
without-none : (e : ℕ) (x : List ℕ) → All (λ k. e + 1 ≤ k) x → without_element e x ≡ x
without-none e [] above = refl
without-none e (y ∷ ys) above =
    let differs : nat_eq y e ≡ false = ne_eqb y e (let h = all_head (λ k. e + 1 ≤ k) y ys above in omega arith) in
    ap (λ b. cond (not b) (y ∷ without_element e ys) (without_element e ys)) differs ∙ ap (λ w. y ∷ w) (without-none e ys (all_tail (λ k. e + 1 ≤ k) y ys above))

-- a set with low whose elements begin there
pub begins : (low n : ℕ) (x : List ℕ) → IsFrom low n x → Contains x low → Begins low n x
begins low n [] from inside = absurd (let h = inside.1 in omega arith)
begins low n (e ∷ es) from inside =
    let tail = from_tail low n e es from in
    let same : low ≡ e = head (member_cases e es low inside) tail.from (from_head low n e es from).0 in
    record {
      rest = es;
      is = ap (λ k. k ∷ es) (sym same);
      taken = subst (λ k. without_element k (e ∷ es) ≡ es) (sym same)
          (ap (λ b. cond (not b) (e ∷ without_element e es) (without_element e es)) (eq-eqb e e refl) ∙ without-none e es tail.from);
      from = subst (λ k. IsFrom (k + 1) n es) (sym same) tail;
    }
  where
    head : (e ≡ low) ⊎ Contains es low → All (λ k. e + 1 ≤ k) es → low ≤ e → low ≡ e
    head (inl is) above le = sym is
    head (inr later) above le = let h = above later.0 low later.1 in let is = later.2 in absurd (omega arith)

-- so what is left without low are greater elements
pub begins_rest : (low n : ℕ) (x y : List ℕ) → IsFrom low n x → Contains x low → y ≡ without_element low x → IsFrom (low + 1) n y
begins_rest low n x y from inside is = let b = begins low n x from inside in subst (IsFrom (low + 1) n) (sym (is ∙ b.taken)) b.from

-- without low the elements are greater
pub begins_above : (low n : ℕ) (x : List ℕ) → IsFrom low n x → (Contains x low → ⊥) → IsFrom (low + 1) n x
begins_above low n x from outside = record {
  increasing = from.increasing;
  within = from.within;
  from = λ k d lt.
      let le = from.from k d lt in
      let other : get_or x k d ≢ low = λ is. outside (subst (Contains x) is (Contains-get_or x k d lt)) in
      omega arith;
}

-- the elements above low
one_less : (low n : ℕ) → low < n → n - low ≡ suc (n - (low + 1))
one_less low n lt = omega arith

-- a set that is not empty has room for its elements
pub some_room : (low n : ℕ) (x : List ℕ) → IsFrom low n x → length x ≢ 0 → low < n
some_room low n [] from some = absurd (some refl)
some_room low n (e ∷ es) from some = let h = from_head low n e es from in omega arith

-- so has a size for which there is a set
pub some_left : (low n r k : ℕ) → k < choose (n - low) r → r ≢ 0 → low < n
some_left low n r k lt some = elim (cases_lt low n) [
  | inl less ↦ less
  | inr full ↦ absurd (let none = choose-none (n - low) r (omega arith) in omega arith)
]

-- the place of a set with low is that of the rest
pub place_of-with : (low n k : ℕ) (x y : List ℕ) → low < n → IsFrom low n x → Contains x low → y ≡ without_element low x → slice_get (sets_from (low + 1) (n - (low + 1)) (length y)) k ≡ Some y → slice_get (sets_from low (n - low) (length x)) k ≡ Some x
place_of-with low n k x y lt from inside is found =
    let b = begins low n x from inside in
    let rest : slice_get (sets_from (low + 1) (n - (low + 1)) (length b.rest)) k ≡ Some b.rest =
    subst (λ z. slice_get (sets_from (low + 1) (n - (low + 1)) (length z)) k ≡ Some z) (is ∙ b.taken) found in
    rw (one_less low n lt) (subst (λ y. slice_get (sets_from low (suc (n - (low + 1))) (length y)) k ≡ Some y) (sym b.is) (place-with low (n - (low + 1)) (length b.rest) k b.rest rest))

-- the place of a set without low is its place among those without low, after those with low
pub place_of-without : (low n k c : ℕ) (x : List ℕ) → low < n → length x ≢ 0 → c ≡ choose (n - (low + 1)) (length x - 1) → slice_get (sets_from (low + 1) (n - (low + 1)) (length x)) k ≡ Some x → slice_get (sets_from low (n - low) (length x)) (c + k) ≡ Some x
place_of-without low n k c [] lt some is found = absurd (some refl)
place_of-without low n k c (e ∷ es) lt some is found =
    let size : length (e ∷ es) - 1 ≡ length es = omega arith in
    rw (one_less low n lt, is ∙ ap (choose (n - (low + 1))) size) (place-without low (n - (low + 1)) (length es) k (e ∷ es) found)

-- a place in the list of all sets is less than their number
pub place-lt : (low m r k : ℕ) (x : List ℕ) → slice_get (sets_from low m r) k ≡ Some x → k < choose m r
place-lt low m r k x is = let lt = slice_get_within (sets_from low m r) k x is in let size = length-sets_from low m r in omega arith

-- the place of a set without low fits
pub place_of-small : (low n k c r : ℕ) (x : List ℕ) → n ≤ 32 → low < n → r ≢ 0 → c ≡ choose (n - (low + 1)) (r - 1) → slice_get (sets_from (low + 1) (n - (low + 1)) r) k ≡ Some x → c + k < 2 ^ 32
place_of-small low n k c r x le lt some is found =
    let small = choose-small (n - low) r (omega arith) in
    let parts = choose-parts (n - low) r (omega arith) (omega arith) in
    let less = place-lt (low + 1) (n - (low + 1)) r k x found in
    let same : n - low - 1 ≡ n - (low + 1) = omega arith in
    let one = ap (λ m. choose m (r - 1)) same in
    let two = ap (λ m. choose m r) same in
    omega arith

-- the set at a place among those with low
pub set_at-with : (low n r k : ℕ) (x y : List ℕ) → low < n → r ≢ 0 → slice_get (sets_from (low + 1) (n - (low + 1)) (r - 1)) k ≡ Some x → y ≡ with_element low x → slice_get (sets_from low (n - low) r) k ≡ Some y
set_at-with low n zero k x y lt some found is = absurd (some refl)
set_at-with low n (suc r) k x y lt some found is =
    let size : suc r - 1 ≡ r = omega arith in
    let set = member_is_set (low + 1) (n - (low + 1)) (suc r - 1) x (place_member (sets_from (low + 1) (n - (low + 1)) (suc r - 1)) k x found) in
    rw (one_less low n lt, is, with_front low x set.0.from) (place-with low (n - (low + 1)) r k x (subst (λ j. slice_get (sets_from (low + 1) (n - (low + 1)) j) k ≡ Some x) size found))

-- the set at a place after them
pub set_at-without : (low n r k c : ℕ) (x : List ℕ) → low < n → r ≢ 0 → c ≡ choose (n - (low + 1)) (r - 1) → c ≤ k → slice_get (sets_from (low + 1) (n - (low + 1)) r) (k - c) ≡ Some x → slice_get (sets_from low (n - low) r) k ≡ Some x
set_at-without low n zero k c x lt some is le found = absurd (some refl)
set_at-without low n (suc r) k c x lt some is le found =
    let size : suc r - 1 ≡ r = omega arith in
    let there : k ≡ choose (n - (low + 1)) r + (k - c) = (let e = is ∙ ap (choose (n - (low + 1))) size in omega arith) in
    rw (one_less low n lt) (subst (λ j. slice_get (sets_from low (suc (n - (low + 1))) (suc r)) j ≡ Some x) (sym there) (place-without low (n - (low + 1)) r (k - c) x found))

-- after the sets with low there are the others
pub place-rest : (low n r k c : ℕ) → low < n → r ≢ 0 → c ≡ choose (n - (low + 1)) (r - 1) → c ≤ k → k < choose (n - low) r → k - c < choose (n - (low + 1)) r
place-rest low n r k c lt some is le less =
    let parts = choose-parts (n - low) r (omega arith) (omega arith) in
    let same : n - low - 1 ≡ n - (low + 1) = omega arith in
    let one = ap (λ m. choose m (r - 1)) same in
    let two = ap (λ m. choose m r) same in
    omega arith

-- the place among the sets of all elements
pub place_of-all : (n k : ℕ) (x : List ℕ) → slice_get (sets_from 0 (n - 0) (length x)) k ≡ Some x → IsPlaceOf n x k
place_of-all n k x found = record {
  all = sets_from 0 n (length x);
  listed = all_sets n (length x);
  here = subst (λ m. slice_get (sets_from 0 m (length x)) k ≡ Some x) (let e : n - 0 ≡ n = omega arith in e) found;
}

-- what stands in the list of the sets of one size has this size
pub place-size : (n r k : ℕ) (x : List ℕ) → slice_get (sets_from 0 (n - 0) r) k ≡ Some x → length x ≡ r
place-size n r k x found = let is = member_is_set 0 (n - 0) r x (place_member (sets_from 0 (n - 0) r) k x found) in is.1

-- it is a set of some of the elements
pub place-set : (n r k : ℕ) (x : List ℕ) → slice_get (sets_from 0 (n - 0) r) k ≡ Some x → IsSet n x
place-set n r k x found =
    let listed = subst (λ m. slice_get (sets_from 0 m r) k ≡ Some x) (let e : n - 0 ≡ n = omega arith in e) found in
    let is = ((all_sets n r).exactly x).0 (place_member (sets_from 0 n r) k x listed) in
    is.set

-- and its place there is its place among all sets of its size
pub place_of-size : (n r k : ℕ) (x : List ℕ) → slice_get (sets_from 0 (n - 0) r) k ≡ Some x → IsPlaceOf n x k
place_of-size n r k x found = place_of-all n k x (subst (λ j. slice_get (sets_from 0 (n - 0) j) k ≡ Some x) (sym (place-size n r k x found)) found)
