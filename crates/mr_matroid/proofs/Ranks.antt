-- The rank of a set by the elements that it shares with bases.
use Rattle.std.proofs.Common.{◌≡◌, ℕ, ◌≤◌, List, [], ◌∷◌, length, refl, sym, ap, subst, ◌∙◌, arith, inl, inr, ◌⊎◌, Bool, true, false, ◌&&◌, ◌||◌}
use Rattle.std.specs.Prelude.{◌<◌, Contains, max, nat_eq}
use Rattle.std.proofs.lemmas.Bool.{cases_lt, cases_eq}
use Rattle.std.proofs.lemmas.Bool.Decides.{nat_tests}
use Rattle.std.specs.List.Sorted.{IsStrictlySortedBy}
use Rattle.std.specs.Ordering.{nat_cmp}
use Rattle.std.proofs.lemmas.List.Kept.{IsStrictlySortedBy-filter}
use Rattle.std.proofs.lemmas.List.Elements.{Contains-get_or}
use Rattle.mr_set.specs.Elements.{IsSet, is_element, meet}
use Rattle.mr_set.specs.Subsets.{IsSetOf}
use Rattle.mr_set.specs.Matroid.{Presentation, IsBasis, IsMatroid, IsRank}
use Rattle.mr_set.proofs.Members.{IsBelowAll, is_element-filter, is_element-from_Contains, Contains-from_element, not_element_below, itself, above_first}
use Rattle.mr_set.proofs.Sorted.{sorted_parts}
use Rattle.mr_matroid.specs.Private.Shared.{IsMostShared}
use Rattle.mr_matroid.proofs.Failures.{element_small}

-- some basis shares so many with x, or the number is 0
abbrev pub Reached : Presentation → List ℕ → ℕ → Type 0
Reached m x most = (most ≡ 0) ⊎ ((b : List ℕ) × IsBasis m b × (length (meet x b) ≡ most))

-- one basis more
pub reached_more : (m : Presentation) (x b : List ℕ) (most : ℕ) → IsBasis m b → Reached m x most → Reached m x (max (length (meet x b)) most)
reached_more m x b most basis before = elim (cases_lt most (length (meet x b))) [
  | inl more ↦ inr (b, basis, (let e : length (meet x b) ≡ max (length (meet x b)) most = omega arith in e))
  | inr less ↦ subst (Reached m x) (let e : most ≡ max (length (meet x b)) most = omega arith in e) before
]

-- a set is no smaller than its subsets
pub subset_length : (y z : List ℕ) → IsStrictlySortedBy nat_cmp y → IsStrictlySortedBy nat_cmp z → ((e : ℕ) → is_element y e ≡ true → is_element z e ≡ true) → length y ≤ length z
subset_length [] z p q sub = omega arith
subset_length (a ∷ ys) [] p q sub = let h = sub a (itself a ys) in absurd cc
subset_length (a ∷ ys) (c ∷ zs) p q sub =
    let pp = sorted_parts a ys p in
    let qq = sorted_parts c zs q in
    elim (cases_lt a c) [
      | inl lt ↦ let h = sub a (itself a ys) in let no_more = above_first a c zs lt qq.0 in absurd cc
      | inr le ↦ elim (cases_eq a c) [
        | inl same ↦
            let rest = subset_length ys zs pp.1 qq.1 (λ e inside. tail_only a c e ys zs same pp.0 inside (sub e (grow a e ys inside))) in
            omega arith
        | inr other ↦
            let rest = subset_length (a ∷ ys) zs p qq.1 (λ e inside. later a c e ys zs (omega arith) pp.0 inside (sub e inside)) in
            omega arith
      ]
    ]
  where
    grow : (a e : ℕ) (ys : List ℕ) → is_element ys e ≡ true → is_element (a ∷ ys) e ≡ true
    grow a e ys inside = ap (λ b. nat_eq e a || b) inside ∙ or_true (nat_eq e a)
      where
        or_true : (b : Bool) → (b || true) ≡ true
        or_true true = refl
        or_true false = refl

    tail_only : (a c e : ℕ) (ys zs : List ℕ) → a ≡ c → IsBelowAll a ys → is_element ys e ≡ true → is_element (c ∷ zs) e ≡ true → is_element zs e ≡ true
    tail_only a c e ys zs same below inside whole = elim (cases_lt a e) [
      | inl lt ↦ let differs : nat_eq e c ≡ false = grind (arith, nat_tests) in sym (ap (λ b. b || is_element zs e) differs) ∙ whole
      | inr le ↦ let out = not_element_below a e ys le below in absurd cc
    ]

    later : (a c e : ℕ) (ys zs : List ℕ) → c < a → IsBelowAll a ys → is_element (a ∷ ys) e ≡ true → is_element (c ∷ zs) e ≡ true → is_element zs e ≡ true
    later a c e ys zs lt below inside whole = elim (cases_lt e a) [
      | inl less ↦ let out = above_first e a ys less below in absurd cc
      | inr le ↦ let differs : nat_eq e c ≡ false = grind (arith, nat_tests) in sym (ap (λ b. b || is_element zs e) differs) ∙ whole
    ]

-- both tests answer yes
both : (p q : Bool) → p ≡ true → q ≡ true → (p && q) ≡ true
both true q h g = g
both false q h g = cc

-- the first of them does
left : (p q : Bool) → (p && q) ≡ true → p ≡ true
left true q h = refl
left false q h = cc

-- the second of them does
right : (p q : Bool) → (p && q) ≡ true → q ≡ true
right true q h = h
right false q h = cc

-- the elements that x shares with a basis are independent
shared_within : (x b : List ℕ) (e : ℕ) → Contains (meet x b) e → Contains x e × Contains b e
shared_within x b e inside =
    let test = sym (is_element-filter (is_element b) x e) ∙ is_element-from_Contains (meet x b) e inside in
    (Contains-from_element x e (right (is_element b e) (is_element x e) test), Contains-from_element b e (left (is_element b e) (is_element x e) test))

-- what x shares with a basis is a set
shared_set : (n k : ℕ) (x b : List ℕ) → IsSet n x → length (meet x b) ≡ k → IsSetOf n k (meet x b)
shared_set n k x b set size = record {
  set = record {
    increasing = IsStrictlySortedBy-filter nat_cmp (is_element b) x set.increasing;
    elements = λ i d lt. element_small n x _ set (shared_within x b _ (Contains-get_or (meet x b) i d lt)).0;
  };
  size = size;
}

-- the greatest number of elements that x shares with a basis is its rank
pub rank_is : (m : Presentation) (x : List ℕ) (most : ℕ) → IsMatroid m → IsSet m.elements x → IsMostShared m x most → IsRank m x most
rank_is m x most matroid set shared =
    let best : (b : List ℕ) × IsBasis m b × (length (meet x b) ≡ most) = elim shared.reached [
      | inl none ↦ let b = matroid.basis in let h = shared.bound b.0 b.1 in (b.0, b.1, omega arith)
      | inr found ↦ found
    ] in
    record {
      reached = (meet x best.0, shared_set m.elements most x best.0 set best.2, λ e inside. (shared_within x best.0 e inside).0, (best.0, best.1, λ e inside. (shared_within x best.0 e inside).1));
      greatest = λ y is sub independent.
          let b = independent in
          let h = shared.bound b.0 b.1 in
          let less = subset_length y (meet x b.0) is.increasing (IsStrictlySortedBy-filter nat_cmp (is_element b.0) x set.increasing) (λ e inside.
          let there = Contains-from_element y e inside in
          is_element-filter (is_element b.0) x e ∙ both (is_element b.0 e) (is_element x e) (is_element-from_Contains b.0 e (b.2 e there)) (is_element-from_Contains x e (sub e there))) in
          omega arith;
    }
