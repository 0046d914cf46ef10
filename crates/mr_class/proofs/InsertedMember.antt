-- Lists in order with one member more.
use Rattle.std.proofs.Common.{◌≡◌, ◌⊎◌, List, [], ◌∷◌, get_or, sym, subst, inl, inr, ⊎_elim}
use Rattle.std.specs.Prelude.{Contains}
use Rattle.std.specs.List.{AllByRecursion}
use Rattle.std.specs.List.Sorted.{IsStrictlySortedBy}
use Rattle.std.specs.Cmp.{IsTotalOrder}
use Rattle.std.specs.declared.cmp.Ordering.{Ordering}
use Rattle.std.specs.declared.cmp.Ordering.TheVariants.{Less}
use Rattle.std.proofs.lemmas.List.Elements.{Contains-get_or, recursion_from_All}
use Rattle.mr_set.proofs.Ordered.{member_first, member_later, member_cases, member_none, first_before}

-- a list in order that has x and the members of ys, and no other
pub record IsWith {X : Type 0} (cmp : X → X → Ordering) (x : X) (ys zs : List X) : Type 0 where
  pub increasing : IsStrictlySortedBy cmp zs
  pub new : Contains zs x
  pub old : (y : X) → Contains ys y → Contains zs y
  pub only : (z : X) → Contains zs z → (x ≡ z) ⊎ Contains ys z

-- x is y, or one of them comes before the other
abbrev pub IsCompared : {X : Type 0} → (X → X → Ordering) → X → X → Type 0
IsCompared cmp x y = (x ≡ y) ⊎ ((cmp x y ≡ Less) ⊎ (cmp y x ≡ Less))

-- what holds of each member holds of all
all_members : {X : Type 0} (P : X → Type 0) (xs : List X) → ((x : X) → Contains xs x → P x) → AllByRecursion P xs
all_members P xs each = recursion_from_All P xs (λ k d lt. each (get_or xs k d) (Contains-get_or xs k d lt))

-- x before all of a list
put_first : {X : Type 0} {cmp : X → X → Ordering} → IsTotalOrder cmp → (x y : X) (ys : List X) → IsStrictlySortedBy cmp (y ∷ ys) → cmp x y ≡ Less → (zs : List X) × IsWith cmp x (y ∷ ys) zs
unfolding IsStrictlySortedBy
put_first {X} {cmp} total x y ys sorted before = (
  x ∷ y ∷ ys,
  record {
    increasing = (
      all_members (λ z. cmp x z ≡ Less) (y ∷ ys) (λ z inside. ⊎_elim
          (λ (is : y ≡ z). subst (λ w. cmp x w ≡ Less) is before)
          (λ (rest : Contains ys z). total.trans x y z before (first_before cmp y ys z sorted rest))
          (member_cases y ys z inside)),
      sorted,
    );
    new = member_first x (y ∷ ys);
    old = λ z inside. member_later x (y ∷ ys) z inside;
    only = λ z inside. member_cases x (y ∷ ys) z inside;
  },
)

-- x after the first of a list, which has x among the rest
put_later : {X : Type 0} {cmp : X → X → Ordering} → (x y : X) (ys : List X) → IsStrictlySortedBy cmp (y ∷ ys) → (rest : (zs : List X) × IsWith cmp x ys zs) → cmp y x ≡ Less → (zs : List X) × IsWith cmp x (y ∷ ys) zs
unfolding IsStrictlySortedBy
put_later {X} {cmp} x y ys sorted rest after = (
  y ∷ rest.0,
  record {
    increasing = (
      all_members (λ z. cmp y z ≡ Less) rest.0 (λ z inside. ⊎_elim
          (λ (is : x ≡ z). subst (λ w. cmp y w ≡ Less) is after)
          (λ (old : Contains ys z). first_before cmp y ys z sorted old)
          (rest.1.only z inside)),
      rest.1.increasing,
    );
    new = member_later y rest.0 x rest.1.new;
    old = λ z inside. ⊎_elim
        (λ (is : y ≡ z). subst (Contains (y ∷ rest.0)) is (member_first y rest.0))
        (λ (old : Contains ys z). member_later y rest.0 z (rest.1.old z old))
        (member_cases y ys z inside);
    only = λ z inside. ⊎_elim
        (λ (is : y ≡ z). inr (subst (Contains (y ∷ ys)) is (member_first y ys)))
        (λ (among : Contains rest.0 z). ⊎_elim (λ (is : x ≡ z). inl is) (λ (old : Contains ys z). inr (member_later y ys z old)) (rest.1.only z among))
        (member_cases y rest.0 z inside);
  },
)

-- a list in order that has one member more
pub with_member : {X : Type 0} {cmp : X → X → Ordering} → IsTotalOrder cmp → (x : X) (ys : List X) → IsStrictlySortedBy cmp ys → ((y : X) → Contains ys y → IsCompared cmp x y) → (zs : List X) × IsWith cmp x ys zs
unfolding IsStrictlySortedBy
with_member total x [] sorted compared = (x ∷ [], record { increasing = (tt, tt); new = member_first x []; old = λ y inside. absurd (member_none y inside); only = λ z inside. member_cases x [] z inside })
with_member {X} {cmp} total x (y ∷ ys) sorted compared = ⊎_elim
    (λ (same : x ≡ y). (y ∷ ys, record { increasing = sorted; new = subst (Contains (y ∷ ys)) (sym same) (member_first y ys); old = λ z inside. inside; only = λ z inside. inr inside }))
    (λ (other : (cmp x y ≡ Less) ⊎ (cmp y x ≡ Less)). ⊎_elim
    (λ (before : cmp x y ≡ Less). put_first total x y ys sorted before)
    (λ (after : cmp y x ≡ Less). put_later x y ys sorted (with_member total x ys sorted.1 (λ z inside. compared z (member_later y ys z inside))) after)
    other)
    (compared y (member_first y ys))
