-- The first second basis with which an exchange fails, and the least element that fails with it.
use Rattle.std.proofs.Common.{◌≡◌, ℕ, ◌+◌, List, Option, Some, None, sym, subst, inl, inr, arith}
use Rattle.std.specs.Prelude.{MatchOption}
use Rattle.std.proofs.lemmas.Bool.{cases_lt}
use Rattle.std.proofs.lemmas.Cmp.{nat_list_cmp_total}
use Rattle.mr_set.specs.Subsets.{IsBefore}
use Rattle.mr_set.specs.Matroid.{Presentation, IsBasis, FailsExchange}
use Rattle.mr_matroid.specs.Private.Exchange.{IsFirstSecond}
use Rattle.mr_matroid.specs.Private.Search.{NoneFrom, NoneAt, IsFirstFrom, IsBest, IsBestBelow}
use Rattle.mr_matroid.proofs.Failures.{element_small}
use Rattle.mr_matroid.proofs.Walk.{compare}

-- where x doesn't fail the best stays
pub best_kept : (m : Presentation) (b1 : List ℕ) (x : ℕ) (best : Option (List ℕ × ℕ)) → IsBestBelow m b1 x best → NoneAt m b1 x → IsBestBelow m b1 (x + 1) best
best_kept m b1 x None old none = λ y lt c fails. elim (cases_lt y x) [
  | inl less ↦ old y less c fails
  | inr le ↦ let same : y ≡ x = omega arith in none c (subst (FailsExchange m b1 c) same fails)
]
best_kept m b1 x (Some p) old none = record {
  fails = old.fails;
  below = let below = old.below in omega arith;
  second = λ c y lt fails. elim (cases_lt y x) [
    | inl less ↦ old.second c y less fails
    | inr le ↦ let same : y ≡ x = omega arith in absurd (none c (subst (FailsExchange m b1 c) same fails))
  ];
  element = λ y lt fails. elim (cases_lt y x) [
    | inl less ↦ old.element y less fails
    | inr le ↦ let below = old.below in omega arith
  ];
}

-- the first that is found
pub best_first : (m : Presentation) (b1 : List ℕ) (x : ℕ) (b2 : List ℕ) → IsBestBelow m b1 x None → IsFirstFrom m b1 x b2 → IsBest m b1 (x + 1) b2 x
best_first m b1 x b2 old found = record {
  fails = found.fails;
  below = omega arith;
  second = λ c y lt fails. elim (cases_lt y x) [
    | inl less ↦ absurd (old y less c fails)
    | inr le ↦ let same : y ≡ x = omega arith in found.least c (subst (FailsExchange m b1 c) same fails)
  ];
  element = λ y lt fails. elim (cases_lt y x) [ inl less ↦ absurd (old y less b2 fails) | inr le ↦ le ];
}

-- an earlier one takes the place of the best
pub best_earlier : (m : Presentation) (b1 : List ℕ) (x : ℕ) (b2 : List ℕ) (p : List ℕ × ℕ) → IsBestBelow m b1 x (Some p) → IsFirstFrom m b1 x b2 → IsBefore b2 p.0 → IsBest m b1 (x + 1) b2 x
best_earlier m b1 x b2 p old found earlier = record {
  fails = found.fails;
  below = omega arith;
  second = λ c y lt fails. elim (cases_lt y x) [
    | inl less ↦ λ before. old.second c y less fails (nat_list_cmp_total.trans c b2 p.0 before earlier)
    | inr le ↦ let same : y ≡ x = omega arith in found.least c (subst (FailsExchange m b1 c) same fails)
  ];
  element = λ y lt fails. elim (cases_lt y x) [ inl less ↦ absurd (old.second b2 y less fails earlier) | inr le ↦ le ];
}

-- one that isn't earlier doesn't
pub best_later : (m : Presentation) (b1 : List ℕ) (x : ℕ) (b2 : List ℕ) (p : List ℕ × ℕ) → IsBestBelow m b1 x (Some p) → IsFirstFrom m b1 x b2 → ¬ (IsBefore b2 p.0) → IsBest m b1 (x + 1) p.0 p.1
best_later m b1 x b2 p old found later = record {
  fails = old.fails;
  below = let below = old.below in omega arith;
  second = λ c y lt fails. elim (cases_lt y x) [
    | inl less ↦ old.second c y less fails
    | inr le ↦ let same : y ≡ x = omega arith in λ before. found.least c (subst (FailsExchange m b1 c) same fails) (elim (compare b2 p.0) [
      | inl earlier ↦ absurd (later earlier)
      | inr other ↦ elim other [ inl equal ↦ subst (IsBefore c) (sym equal) before | inr after ↦ nat_list_cmp_total.trans c p.0 b2 before after ]
    ])
  ];
  element = λ y lt fails. elim (cases_lt y x) [
    | inl less ↦ old.element y less fails
    | inr le ↦ let below = old.below in omega arith
  ];
}

-- the best of all elements is the first second basis
pub first_second_from_best : (m : Presentation) (b1 : List ℕ) (best : Option (List ℕ × ℕ)) → IsBasis m b1 → IsBestBelow m b1 m.elements best → MatchOption best (NoneFrom m b1) (λ p. IsFirstSecond m b1 p.0 p.1)
first_second_from_best m b1 None first none = λ c x fails. none x (element_small m.elements b1 x first.0.set fails.inside) c fails
first_second_from_best m b1 (Some p) first found = record {
  fails = found.fails;
  second = λ c y fails. found.second c y (element_small m.elements b1 y first.0.set fails.inside) fails;
  element = λ y fails. found.element y (element_small m.elements b1 y first.0.set fails.inside) fails;
}
