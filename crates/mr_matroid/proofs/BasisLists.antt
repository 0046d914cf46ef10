-- Lists of all bases in order.
use Rattle.std.proofs.Common.{◌≡◌, ℕ, ◌+◌, List, [], ◌∷◌, ◌++◌, length, get_or, Option, Some, None, refl, sym, ap, subst, ◌∙◌, inl, inr, arith, ◌&&◌}
use Rattle.std.specs.Prelude.{◌<◌, Contains, MatchOption}
use Rattle.std.specs.List.{slice_get}
use Rattle.std.specs.List.Sorted.{IsStrictlySortedBy}
use Rattle.std.proofs.lemmas.Bool.{cases_lt, and_parts}
use Rattle.std.proofs.lemmas.Cmp.{nat_list_cmp_total}
use Rattle.std.proofs.lemmas.List.{get_or_default}
use Rattle.std.proofs.lemmas.List.Elements.{Contains-get_or, Contains-push, Contains-push_cases, Contains-append_left}
use Rattle.std.proofs.lemmas.Option.{slice_get-get_or}
use Rattle.mr_set.specs.Elements.{meet, is_element}
use Rattle.mr_set.specs.Subsets.{IsSetOf, IsBefore, IsFirst, IsNext, IsLast, list_cmp}
use Rattle.mr_set.specs.Matroid.{Presentation, IsBasis, IsFirstBasis}
use Rattle.mr_set.proofs.Members.{is_element-filter, is_element-from_Contains, Contains-from_element}
use Rattle.mr_set.proofs.Ordered.{sorted_join, later_is_greater, not_both_ways, not_before_itself, member_none}
use Rattle.mr_matroid.specs.Exchange.{HasNoBasis, IsFirstFailure}
use Rattle.mr_matroid.specs.Private.Exchange.{IsFirstSecond}
use Rattle.mr_matroid.specs.Table.{AreApart, IsFirstMissing}
use Rattle.mr_matroid.specs.Private.Table.{AreBases, IsFirstApart}
use Rattle.mr_matroid.specs.Private.Search.{NoneFrom}
use Rattle.mr_matroid.proofs.Walk.{Seen, seen_first, seen_next, seen_last, next_set}

-- the bases before s, in order
pub record AreBasesBefore (m : Presentation) (s : List ℕ) (bases : List (List ℕ)) : Type 0 where
  pub set : IsSetOf m.elements m.rank s
  pub increasing : IsStrictlySortedBy list_cmp bases
  pub members : (z : List ℕ) → Contains bases z → IsBasis m z × IsBefore z s
  pub seen : Seen m.elements m.rank s (λ z. IsBasis m z → Contains bases z)

-- before the first set there is none
pub none_before : (m : Presentation) (s : List ℕ) → IsFirst m.elements m.rank s → AreBasesBefore m s []
unfolding IsStrictlySortedBy
none_before m s first = record {
  set = first.subset;
  increasing = tt;
  members = λ z inside. absurd (member_none z inside);
  seen = seen_first m.elements m.rank s (λ z. IsBasis m z → Contains [] z) first;
}

-- a greater set at the end
sorted_push : (bases : List (List ℕ)) (s : List ℕ) → IsStrictlySortedBy list_cmp bases → ((z : List ℕ) → Contains bases z → IsBefore z s) → IsStrictlySortedBy list_cmp (bases ++ s ∷ [])
unfolding IsStrictlySortedBy
sorted_push bases s increasing before =
    sorted_join list_cmp bases (s ∷ []) increasing (tt, tt) (λ x y here there. elim (Contains-push_cases [] s y there) [
      | inl none ↦ absurd (member_none y none)
      | inr same ↦ subst (IsBefore x) same (before x here)
    ])

-- the next set after a basis
pub one_basis_more : (m : Presentation) (s t : List ℕ) (bases : List (List ℕ)) → IsBasis m s → IsNext m.elements s t → AreBasesBefore m s bases → AreBasesBefore m t (bases ++ s ∷ [])
one_basis_more m s t bases basis next are = record {
  set = next_set m.elements m.rank s t are.set next;
  increasing = sorted_push bases s are.increasing (λ z inside. (are.members z inside).1);
  members = λ z inside. elim (Contains-push_cases bases s z inside) [
    | inl old ↦ ((are.members z old).0, nat_list_cmp_total.trans z s t (are.members z old).1 next.after)
    | inr same ↦ (subst (IsBasis m) same basis, subst (λ w. IsBefore w t) same next.after)
  ];
  seen = seen_next m.elements m.rank s t (λ z. IsBasis m z → Contains (bases ++ s ∷ []) z) are.set next
      (λ z is before basis. Contains-append_left bases (s ∷ []) z (are.seen z is before basis)) (λ _. Contains-push bases s);
}

-- the next set after a set that is listed
pub no_basis_more : (m : Presentation) (s t : List ℕ) (bases : List (List ℕ)) → ¬ (IsBasis m s) → IsNext m.elements s t → AreBasesBefore m s bases → AreBasesBefore m t bases
no_basis_more m s t bases none next are = record {
  set = next_set m.elements m.rank s t are.set next;
  increasing = are.increasing;
  members = λ z inside. ((are.members z inside).0, nat_list_cmp_total.trans z s t (are.members z inside).1 next.after);
  seen = seen_next m.elements m.rank s t (λ z. IsBasis m z → Contains bases z) are.set next are.seen (λ basis. absurd (none basis));
}

-- after the last set they are all
pub all_with_last : (m : Presentation) (s : List ℕ) (bases : List (List ℕ)) → IsBasis m s → IsLast m.elements s → AreBasesBefore m s bases → AreBases m (bases ++ s ∷ [])
all_with_last m s bases basis last are = record {
  increasing = sorted_push bases s are.increasing (λ z inside. (are.members z inside).1);
  exactly = λ z. (
    λ inside. elim (Contains-push_cases bases s z inside) [ inl old ↦ (are.members z old).0 | inr same ↦ subst (IsBasis m) same basis ],
    λ is. seen_last m.elements m.rank s (λ w. IsBasis m w → Contains (bases ++ s ∷ []) w) are.set last
        (λ w of before one. Contains-append_left bases (s ∷ []) w (are.seen w of before one)) (λ _. Contains-push bases s) z is.0 is,
  );
}

-- also where the last set is listed
pub all_without_last : (m : Presentation) (s : List ℕ) (bases : List (List ℕ)) → ¬ (IsBasis m s) → IsLast m.elements s → AreBasesBefore m s bases → AreBases m bases
all_without_last m s bases none last are = record {
  increasing = are.increasing;
  exactly = λ z. (
    λ inside. (are.members z inside).0,
    λ is. seen_last m.elements m.rank s (λ w. IsBasis m w → Contains bases w) are.set last are.seen (λ basis. absurd (none basis)) z is.0 is,
  );
}

-- each set in the list is a basis
pub basis_at : (m : Presentation) (bases : List (List ℕ)) (k : ℕ) (d : List ℕ) → AreBases m bases → k < length bases → IsBasis m (get_or bases k d)
basis_at m bases k d are lt = (are.exactly (get_or bases k d)).0 (Contains-get_or bases k d lt)

-- what holds of each set in the list holds of each basis
pub each_basis : (m : Presentation) (bases : List (List ℕ)) (P : List ℕ → Type 0) → AreBases m bases → ((k : ℕ) (d : List ℕ) → k < length bases → P (get_or bases k d)) → (b : List ℕ) → IsBasis m b → P b
each_basis m bases P are each b is =
    let found : Contains bases b = (are.exactly b).1 is in
    subst P found.2 (each found.0 b found.1)

-- a set before another of the list stands at a smaller place
place_before : (bases : List (List ℕ)) (j k : ℕ) (x y : List ℕ) → IsStrictlySortedBy list_cmp bases → slice_get bases j ≡ Some x → slice_get bases k ≡ Some y → IsBefore x y → j < k
place_before bases j k x y increasing here there before = elim (cases_lt j k) [
  | inl less ↦ less
  | inr le ↦ absurd (elim (cases_lt k j) [
    | inl more ↦ not_both_ways nat_list_cmp_total x y before (later_is_greater list_cmp bases k j y x increasing there here more)
    | inr ge ↦
        let same : k ≡ j = omega arith in
        let equal : Some y ≡ Some x = sym there ∙ ap (slice_get bases) same ∙ here in
        not_before_itself nat_list_cmp_total x (let twin : y ≡ x = cc in subst (IsBefore x) twin before)
  ])
]

-- what holds of each set at a smaller place holds of each basis before
pub each_before : (m : Presentation) (bases : List (List ℕ)) (P : List ℕ → Type 0) (i : ℕ) (s : List ℕ) → AreBases m bases → i < length bases → get_or bases i s ≡ s → ((k : ℕ) (d : List ℕ) → k < i → P (get_or bases k d)) → (b : List ℕ) → IsBasis m b → IsBefore b s → P b
each_before m bases P i s are lt here each b is before =
    let found : Contains bases b = (are.exactly b).1 is in
    let one = slice_get-get_or bases found.0 b found.1 ∙ ap Some found.2 in
    let two = slice_get-get_or bases i s lt ∙ ap Some here in
    subst P found.2 (each found.0 b (place_before bases found.0 i b s are.increasing one two before))

-- the first of the list is the first basis
pub first_basis_at : (m : Presentation) (bases : List (List ℕ)) (b : List ℕ) → AreBases m bases → 0 < length bases → get_or bases 0 b ≡ b → IsFirstBasis m b
first_basis_at m bases b are some here = record {
  basis = subst (IsBasis m) here (basis_at m bases 0 b are some);
  least = λ x is before. each_before m bases (λ _. ⊥) 0 b are some here (λ k d lt. absurd (omega arith)) x is before;
}

-- an empty list has no basis
pub no_basis_at : (m : Presentation) (bases : List (List ℕ)) → AreBases m bases → length bases ≡ 0 → HasNoBasis m
no_basis_at m bases are none x is = let found : Contains bases x = (are.exactly x).1 is in let lt = found.1 in omega arith

-- the first of the list without an element of f is the first basis without one
pub missing_from_apart : (m : Presentation) (bases : List (List ℕ)) (f b : List ℕ) → AreBases m bases → IsFirstApart bases f b → IsFirstMissing m f b
missing_from_apart m bases f b are found = record {
  basis = subst (IsBasis m) found.here (basis_at m bases found.place b are found.within);
  apart = found.apart;
  least = λ c is apart before. each_before m bases (λ z. ¬ (AreApart z f)) found.place b are found.within found.here found.first c is before apart;
}

-- no exchange from a set that is before b1 fails
pub none_before_from : (m : Presentation) (bases : List (List ℕ)) (i : ℕ) (s : List ℕ) → AreBases m bases → i < length bases → get_or bases i s ≡ s → ((k : ℕ) (d : List ℕ) → k < i → NoneFrom m (get_or bases k d)) → (z : List ℕ) → IsBefore z s → NoneFrom m z
none_before_from m bases i s are lt here each z before c x fails = each_before m bases (NoneFrom m) i s are lt here each z fails.first before c x fails

-- the first failure begins at the first basis from which an exchange fails
pub failure_from_second : (m : Presentation) (b1 b2 : List ℕ) (x : ℕ) → ((z : List ℕ) → IsBefore z b1 → NoneFrom m z) → IsFirstSecond m b1 b2 x → IsFirstFailure m b1 b2 x
failure_from_second m b1 b2 x before found = record {
  fails = found.fails;
  first = λ c1 c2 y fails earlier. before c1 earlier c2 y fails;
  second = found.second;
  element = found.element;
}

-- sets with an empty meet have no common element
pub apart_from_meet : (x y : List ℕ) → length (meet x y) ≡ 0 → AreApart x y
apart_from_meet x y none e here there =
    let inside : Contains (meet x y) e =
    Contains-from_element (meet x y) e (is_element-filter (is_element y) x e ∙ ap (λ t. t && is_element x e) (is_element-from_Contains y e there) ∙ is_element-from_Contains x e here) in
    let lt = inside.1 in
    omega arith

-- so the sizes tell
pub meet_from_apart : (x y : List ℕ) → AreApart x y → length (meet x y) ≡ 0
meet_from_apart x y apart = elim (cases_lt 0 (length (meet x y))) [
  | inl some ↦
      let e = get_or (meet x y) 0 0 in
      let inside = is_element-from_Contains (meet x y) e (Contains-get_or (meet x y) 0 0 some) in
      let parts = and_parts (is_element y e) (is_element x e) (sym (is_element-filter (is_element y) x e) ∙ inside) in
      absurd (apart e (Contains-from_element x e parts.1) (Contains-from_element y e parts.0))
  | inr none ↦ omega arith
]

-- one set more of a list
pub each_more : (sets : List (List ℕ)) (P : List ℕ → Type 0) (i : ℕ) (s : List ℕ) → i < length sets → s ≡ get_or sets i s → ((k : ℕ) (d : List ℕ) → k < i → P (get_or sets k d)) → P s → (k : ℕ) (d : List ℕ) → k < i + 1 → P (get_or sets k d)
each_more sets P i s lt is each here k d less = elim (cases_lt k i) [
  | inl before ↦ each k d before
  | inr le ↦
      let same : i ≡ k = omega arith in
      subst (λ j. P (get_or sets j d)) same (subst P (is ∙ get_or_default sets i s d lt) here)
]

-- the first without an element of f of all bases
pub missing_from_first : (m : Presentation) (bases : List (List ℕ)) (f : List ℕ) (found : Option (List ℕ)) → AreBases m bases → MatchOption found ((s : List ℕ) → Contains bases s → ¬ (AreApart s f)) (IsFirstApart bases f) → MatchOption found ((b : List ℕ) → IsBasis m b → ¬ (AreApart b f)) (IsFirstMissing m f)
missing_from_first m bases f None are none = λ b basis. none b ((are.exactly b).1 basis)
missing_from_first m bases f (Some b) are found = missing_from_apart m bases f b are found

-- what stands first of all bases
pub first_of_list : (m : Presentation) (bases : List (List ℕ)) → AreBases m bases → MatchOption (slice_get bases 0) (HasNoBasis m) (IsFirstBasis m)
first_of_list m [] are = no_basis_at m [] are refl
first_of_list m (b ∷ more) are = first_basis_at m (b ∷ more) b are (omega arith) refl
