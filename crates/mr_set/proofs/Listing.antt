-- The list of all sets of one size: its members, its order and its length.
use Rattle.std.proofs.Common.{◌≡◌, ℕ, zero, suc, ◌+◌, List, [], ◌∷◌, length, map, refl, sym, ap, subst, ◌∙◌, inl, inr, arith, length-append}
use Rattle.std.specs.Prelude.{Contains}
use Rattle.std.specs.List.{AllByRecursion}
use Rattle.std.specs.List.Sorted.{IsStrictlySortedBy}
use Rattle.std.proofs.lemmas.Bool.{cases_eq}
use Rattle.std.proofs.lemmas.Cmp.{nat_list_cmp_total}
use Rattle.std.proofs.lemmas.List.{length-map}
use Rattle.std.proofs.lemmas.List.Elements.{Contains-append_left, Contains-append_right, Contains-append_cases}
use Rattle.mr_set.specs.Subsets.{IsBefore, choose, list_cmp}
use Rattle.mr_set.specs.Private.Enumeration.{IsFrom, sets_from}
use Rattle.mr_set.specs.Places.{IsAllSets}
use Rattle.mr_set.proofs.Lexicographic.{before_same, before_less, from_head, from_tail, from_cons, from_none, from_set, set_from}
use Rattle.mr_set.proofs.Ordered.{member_first, member_later, member_cases, member_none, sorted_join, same_members}

-- each set with one more element in front
abbrev pub after_front : ℕ → List (List ℕ) → List (List ℕ)
after_front e sets = map (λ x. e ∷ x) sets

-- a set is among those with e in front if its rest is among the sets
pub member_front : (e : ℕ) (sets : List (List ℕ)) (x : List ℕ) → Contains sets x → Contains (after_front e sets) (e ∷ x)
member_front e [] x inside = absurd (member_none x inside)
member_front e (y ∷ sets) x inside = elim (member_cases y sets x inside) [
  | inl same ↦ subst (λ z. Contains (after_front e (y ∷ sets)) (e ∷ z)) same (member_first (e ∷ y) (after_front e sets))
  | inr later ↦ member_later (e ∷ y) (after_front e sets) (e ∷ x) (member_front e sets x later)
]

-- and only then
pub front_member : (e : ℕ) (sets : List (List ℕ)) (x : List ℕ) → Contains (after_front e sets) x → (y : List ℕ) × (x ≡ e ∷ y) × Contains sets y
front_member e [] x inside = absurd (member_none x inside)
front_member e (y ∷ sets) x inside = elim (member_cases (e ∷ y) (after_front e sets) x inside) [
  | inl same ↦ (y, sym same, member_first y sets)
  | inr later ↦ let rest = front_member e sets x later in (rest.0, rest.1, member_later y sets rest.0 rest.2)
]

-- one element more in front keeps the order
front-sorted : (e : ℕ) (sets : List (List ℕ)) → IsStrictlySortedBy list_cmp sets → IsStrictlySortedBy list_cmp (after_front e sets)
unfolding IsStrictlySortedBy
front-sorted e [] sorted = tt
front-sorted e (x ∷ sets) sorted = (each sets sorted.0, front-sorted e sets sorted.1)
  where
    each : (sets : List (List ℕ)) → AllByRecursion (λ y. IsBefore x y) sets → AllByRecursion (λ y. IsBefore (e ∷ x) y) (after_front e sets)
    each [] all = tt
    each (y ∷ sets) all = (before_same e x y all.0, each sets all.1)

-- a set of elements above low is one of elements from low on
lower : (low n : ℕ) (x : List ℕ) → IsFrom (low + 1) n x → IsFrom low n x
lower low n x is = record { increasing = is.increasing; within = is.within; from = λ k d lt. let b = is.from k d lt in omega arith }

-- the members are sets of that size of elements from low on
pub member_is_set : (low m r : ℕ) (x : List ℕ) → Contains (sets_from low m r) x → IsFrom low (low + m) x × (length x ≡ r)
unfolding sets_from
member_is_set low m zero x inside = elim (member_cases [] [] x inside) [
  | inl same ↦ subst (λ z. IsFrom low (low + m) z × (length z ≡ 0)) same (from_none low (low + m), refl)
  | inr later ↦ absurd (member_none x later)
]
member_is_set low zero (suc r) x inside = absurd (member_none x inside)
member_is_set low (suc m) (suc r) x inside =
    let same : low + 1 + m ≡ low + suc m = omega arith in
    elim (Contains-append_cases (after_front low (sets_from (low + 1) m r)) (sets_from (low + 1) m (suc r)) x inside) [
      | inl with ↦
          let front = front_member low (sets_from (low + 1) m r) x with in
          let rest = member_is_set (low + 1) m r front.0 front.2 in
          subst (λ z. IsFrom low (low + suc m) z × (length z ≡ suc r)) (sym front.1)
          (from_cons low (low + suc m) low front.0 (omega arith) (omega arith) (subst (λ k. IsFrom (low + 1) k front.0) same rest.0), ap suc rest.1)
      | inr without ↦
          let rest = member_is_set (low + 1) m (suc r) x without in
          (lower low (low + suc m) x (subst (λ k. IsFrom (low + 1) k x) same rest.0), rest.1)
    ]

-- each such set is a member
pub set_is_member : (low m r : ℕ) (x : List ℕ) → IsFrom low (low + m) x → length x ≡ r → Contains (sets_from low m r) x
unfolding sets_from
set_is_member low m zero [] is size = member_first [] []
set_is_member low m zero (e ∷ es) is size = absurd (omega arith)
set_is_member low zero (suc r) [] is size = absurd (omega arith)
set_is_member low zero (suc r) (e ∷ es) is size = let h = from_head low (low + 0) e es is in absurd (omega arith)
set_is_member low (suc m) (suc r) [] is size = absurd (omega arith)
set_is_member low (suc m) (suc r) (e ∷ es) is size =
    let same : low + suc m ≡ low + 1 + m = omega arith in
    let h = from_head low (low + suc m) e es is in
    let rest = subst (λ k. IsFrom (e + 1) k es) same (from_tail low (low + suc m) e es is) in
    elim (cases_eq e low) [
      | inl here ↦
          Contains-append_left (after_front low (sets_from (low + 1) m r)) (sets_from (low + 1) m (suc r)) (e ∷ es)
          (subst (λ k. Contains (after_front low (sets_from (low + 1) m r)) (k ∷ es)) (sym here)
          (member_front low (sets_from (low + 1) m r) es (set_is_member (low + 1) m r es (subst (λ k. IsFrom (k + 1) (low + 1 + m) es) here rest) (omega arith))))
      | inr above ↦
          Contains-append_right (after_front low (sets_from (low + 1) m r)) (sets_from (low + 1) m (suc r)) (e ∷ es)
          (set_is_member (low + 1) m (suc r) (e ∷ es) (from_cons (low + 1) (low + 1 + m) e es (omega arith) (omega arith) rest) size)
    ]

-- they stand in order
pub sets_from-sorted : (low m r : ℕ) → IsStrictlySortedBy list_cmp (sets_from low m r)
unfolding sets_from IsStrictlySortedBy
sets_from-sorted low m zero = (tt, tt)
sets_from-sorted low zero (suc r) = tt
sets_from-sorted low (suc m) (suc r) =
    sorted_join list_cmp (after_front low (sets_from (low + 1) m r)) (sets_from (low + 1) m (suc r))
    (front-sorted low (sets_from (low + 1) m r) (sets_from-sorted (low + 1) m r))
    (sets_from-sorted (low + 1) m (suc r))
    (λ x y with without.
    let front = front_member low (sets_from (low + 1) m r) x with in
    let other = member_is_set (low + 1) m (suc r) y without in
    subst (λ z. IsBefore z y) (sym front.1) (above y front.0 other.0 other.1))
  where
    above : (y x : List ℕ) → IsFrom (low + 1) (low + 1 + m) y → length y ≡ suc r → IsBefore (low ∷ x) y
    above [] x is size = absurd (omega arith)
    above (f ∷ fs) x is size = let h = from_head (low + 1) (low + 1 + m) f fs is in before_less low f x fs (omega arith)

-- there are as many as Pascal's triangle says
pub length-sets_from : (low m r : ℕ) → length (sets_from low m r) ≡ choose m r
unfolding sets_from
length-sets_from low m zero = refl
length-sets_from low zero (suc r) = refl
length-sets_from low (suc m) (suc r) =
    length-append (after_front low (sets_from (low + 1) m r)) (sets_from (low + 1) m (suc r))
    ∙ (let front = length-map (sets_from (low + 1) m r) (λ x. low ∷ x) in
    let with = length-sets_from (low + 1) m r in
    let without = length-sets_from (low + 1) m (suc r) in
    omega arith)

-- the sets of all elements
pub all_sets : (n r : ℕ) → IsAllSets n r (sets_from 0 n r)
all_sets n r = record {
  increasing = sets_from-sorted 0 n r;
  exactly = λ x. (
    λ inside. let is = member_is_set 0 n r x inside in set_from n r 0 x (subst (λ k. IsFrom 0 k x) from_zero is.0) is.1,
    λ is. set_is_member 0 n r x (subst (λ k. IsFrom 0 k x) (sym from_zero) (from_set n r x is)) is.size,
  );
}
  where
    from_zero : 0 + n ≡ n
    from_zero = omega arith

-- there is one such list
pub all_sets-same : (n r : ℕ) (one two : List (List ℕ)) → IsAllSets n r one → IsAllSets n r two → one ≡ two
all_sets-same n r one two first second =
    same_members nat_list_cmp_total one two first.increasing second.increasing (λ x. (
      λ inside. (second.exactly x).1 ((first.exactly x).0 inside),
      λ inside. (first.exactly x).1 ((second.exactly x).0 inside),
    ))
