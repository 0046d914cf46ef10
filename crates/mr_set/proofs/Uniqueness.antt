-- One list of all sets, one place, one set at a place, one first basis.
use Rattle.std.proofs.Common.{◌≡◌, ℕ, zero, suc, ◌+◌, List, length, get_or, Some, refl, sym, ap, subst, ◌∙◌, inl, inr, arith}
use Rattle.std.specs.List.{slice_get}
use Rattle.std.specs.Ordering.{ordering_reverse}
use Rattle.std.specs.declared.cmp.Ordering.{Ordering}
use Rattle.std.specs.declared.cmp.Ordering.TheVariants.{Less, Equal, Greater}
use Rattle.std.proofs.lemmas.Bool.{cases_lt}
use Rattle.std.proofs.lemmas.Cmp.{nat_list_cmp_total}
use Rattle.std.proofs.lemmas.Map.Lookups.{exact_bytes}
use Rattle.std.proofs.lemmas.Option.{same_Some, slice_get_within, slice_get-get_or}
use Rattle.mr_set.specs.Subsets.{IsSetOf, IsBefore, IsFirst, IsNext, choose, list_cmp}
use Rattle.mr_set.specs.Private.Enumeration.{sets_from}
use Rattle.mr_set.specs.Places.{IsAllSets, IsPlaceOf}
use Rattle.mr_set.specs.Matroid.{Presentation, IsFirstBasis}
use Rattle.mr_set.proofs.Lexicographic.{irreflexive}
use Rattle.mr_set.proofs.Ordered.{member_place, place_member, later_is_greater, not_both_ways}
use Rattle.mr_set.proofs.Listing.{all_sets, all_sets-same, length-sets_from}

-- two sets of which none comes before the other are equal
pub same-from_unordered : (x y : List ℕ) → (IsBefore x y → ⊥) → (IsBefore y x → ⊥) → x ≡ y
same-from_unordered x y not_less not_greater = by (list_cmp x y) refl
  where
    by : (o : Ordering) → list_cmp x y ≡ o → x ≡ y
    by Less is = absurd (not_less is)
    by Equal is = exact_bytes x y is
    by Greater is = absurd (not_greater (nat_list_cmp_total.antisymm y x ∙ ap ordering_reverse is))

-- an element stands at one place of a list in order
one_place : (n r : ℕ) (all : List (List ℕ)) (x : List ℕ) (j k : ℕ) → IsAllSets n r all → slice_get all j ≡ Some x → slice_get all k ≡ Some x → j ≡ k
one_place n r all x j k listed here there = elim (cases_lt j k) [
  | inl less ↦ absurd (irreflexive x (later_is_greater list_cmp all j k x x listed.increasing here there less))
  | inr le ↦ elim (cases_lt k j) [
    | inl more ↦ absurd (irreflexive x (later_is_greater list_cmp all k j x x listed.increasing there here more))
    | inr ge ↦ omega arith
  ]
]

-- a set stands at one place
pub set-one_place : (n : ℕ) (x : List ℕ) (j k : ℕ) → IsPlaceOf n x j → IsPlaceOf n x k → j ≡ k
set-one_place n x j k one two =
    let same : two.all ≡ one.all = all_sets-same n (length x) two.all one.all two.listed one.listed in
    one_place n (length x) one.all x j k one.listed one.here (subst (λ all. slice_get all k ≡ Some x) same two.here)

-- a place has one set of each size
pub place-one_set : (n : ℕ) (x y : List ℕ) (k : ℕ) → length x ≡ length y → IsPlaceOf n x k → IsPlaceOf n y k → x ≡ y
place-one_set n x y k size one two =
    let same : two.all ≡ one.all = all_sets-same n (length x) two.all one.all (subst (λ r. IsAllSets n r two.all) (sym size) two.listed) one.listed in
    same_Some x y (sym one.here ∙ subst (λ all. slice_get all k ≡ Some y) same two.here)

-- every size has its list
pub sets-listed : (n r : ℕ) → (all : List (List ℕ)) × IsAllSets n r all
sets-listed n r = (sets_from 0 n r, all_sets n r)

-- and its number of sets
pub sets-counted : (n r : ℕ) (all : List (List ℕ)) → IsAllSets n r all → length all ≡ choose n r
sets-counted n r all listed = ap length (all_sets-same n r all (sets_from 0 n r) listed (all_sets n r)) ∙ length-sets_from 0 n r

-- the first set of its size stands at place 0
pub first-place : (n r : ℕ) (x : List ℕ) → IsFirst n r x → IsPlaceOf n x 0
first-place n r x first =
    let listed : IsAllSets n (length x) (sets_from 0 n (length x)) = all_sets n (length x) in
    let is : IsSetOf n (length x) x = subst (λ j. IsSetOf n j x) (sym first.subset.size) first.subset in
    let found = member_place (sets_from 0 n (length x)) x ((listed.exactly x).1 is) in
    record { all = sets_from 0 n (length x); listed = listed; here = at found.0 found.1 }
  where
    at : (k : ℕ) → slice_get (sets_from 0 n (length x)) k ≡ Some x → slice_get (sets_from 0 n (length x)) 0 ≡ Some x
    at zero here = here
    at (suc k) here =
        let all = sets_from 0 n (length x) in
        let listed : IsAllSets n (length x) (sets_from 0 n (length x)) = all_sets n (length x) in
        let within = slice_get_within (sets_from 0 n (length x)) (suc k) x here in
        let there = slice_get-get_or (sets_from 0 n (length x)) 0 x (omega arith) in
        let z : List ℕ = get_or (sets_from 0 n (length x)) 0 x in
        let is : IsSetOf n (length x) z = (listed.exactly z).0 (place_member (sets_from 0 n (length x)) 0 z there) in
        absurd (first.least z (subst (λ j. IsSetOf n j z) first.subset.size is) (later_is_greater list_cmp (sets_from 0 n (length x)) 0 (suc k) z x listed.increasing there here (omega arith)))

-- the next set stands at the next place
pub next-place : (n : ℕ) (x y : List ℕ) (k : ℕ) → IsPlaceOf n x k → IsNext n x y → IsPlaceOf n y (k + 1)
next-place n x y k place next =
    let found = member_place place.all y ((place.listed.exactly y).1 next.subset) in
    record {
      all = place.all;
      listed = subst (λ r. IsAllSets n r place.all) (sym next.subset.size) place.listed;
      here = subst (λ j. slice_get place.all j ≡ Some y) (is_next found.0 found.1) found.1;
    }
  where
    is_next : (j : ℕ) → slice_get place.all j ≡ Some y → j ≡ k + 1
    is_next j there = elim (cases_lt k j) [
      | inr le ↦ absurd (elim (cases_lt j k) [
        | inl less ↦ not_both_ways nat_list_cmp_total x y next.after (later_is_greater list_cmp place.all j k y x place.listed.increasing there place.here less)
        | inr ge ↦
            let here : slice_get place.all j ≡ Some x = (let same : k ≡ j = omega arith in subst (λ i. slice_get place.all i ≡ Some x) same place.here) in
            irreflexive x (subst (IsBefore x) (same_Some y x (sym there ∙ here)) next.after)
      ])
      | inl more ↦ elim (cases_lt (k + 1) j) [
        | inl between ↦
            let within = slice_get_within place.all j y there in
            let z : List ℕ = get_or place.all (k + 1) x in
            let middle = slice_get-get_or place.all (k + 1) x (omega arith) in
            let is : IsSetOf n (length x) z = (place.listed.exactly z).0 (place_member place.all (k + 1) z middle) in
            absurd (next.none_between z is
            (later_is_greater list_cmp place.all k (k + 1) x z place.listed.increasing place.here middle (omega arith))
            (later_is_greater list_cmp place.all (k + 1) j z y place.listed.increasing middle there between))
        | inr exact ↦ omega arith
      ]
    ]

-- a matroid has one first basis
pub first_basis-same : (m : Presentation) (b c : List ℕ) → IsFirstBasis m b → IsFirstBasis m c → b ≡ c
first_basis-same m b c one two = same-from_unordered b c (two.least b one.basis) (one.least c two.basis)
