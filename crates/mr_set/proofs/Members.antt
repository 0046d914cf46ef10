-- Sets by the test for an element. Two sets with the same elements are equal.
use Rattle.std.proofs.Common.{◌≡◌, ℕ, zero, suc, ◌<◌, ◌≤◌, Bool, true, false, not, cond, ◌&&◌, ◌||◌, List, [], ◌∷◌, ◌++◌, refl, sym, ap, ◌∙◌, subst, inl, inr, arith}
use Rattle.std.specs.Prelude.{◌==◌, nat_eq, nat_lt, filter, Contains}
use Rattle.std.specs.List.{AllByRecursion}
use Rattle.std.specs.List.Sorted.{IsStrictlySortedBy}
use Rattle.std.specs.Ordering.{nat_cmp}
use Rattle.std.specs.Cmp.{nat_eq_equiv}
use Rattle.std.specs.declared.cmp.Ordering.TheVariants.{Less, Equal, Greater}
use Rattle.std.proofs.lemmas.Bool.Decides.{nat_tests, Decides-eqb, Decides-ltb}
use Rattle.std.proofs.lemmas.Bool.{cases_lt, cases_eq}
use Rattle.std.proofs.lemmas.List.Folds.{list_any-append}
use Rattle.std.proofs.lemmas.Map.Views.{any-filter_same, Contains-from_any, list_any-from_Contains}
use Rattle.mr_set.specs.Elements.{is_element, numbers_below, with_element, without_element, union}

-- numbers that pass the test of equality are equal
pub same_numbers : (x y : ℕ) → nat_eq x y ≡ true → x ≡ y
same_numbers x y = (Decides-eqb x y).0

-- the numbers below n
pub is_element-numbers_below : (n e : ℕ) → is_element (numbers_below n) e ≡ nat_lt e n
is_element-numbers_below zero e = grind (arith, nat_tests)
is_element-numbers_below (suc n) e =
    list_any-append (nat_eq e) (numbers_below n) (n ∷ [])
    ∙ ap (λ b. b || (nat_eq e n || false)) (is_element-numbers_below n e)
    ∙ last e n
  where
    last : (e n : ℕ) → (nat_lt e n || (nat_eq e n || false)) ≡ nat_lt e (suc n)
    last e n = grind (arith, nat_tests)

-- the elements that pass a test
pub is_element-filter : (p : ℕ → Bool) (xs : List ℕ) (e : ℕ) → is_element (filter p xs) e ≡ (p e && is_element xs e)
is_element-filter p xs e = any-filter_same (nat_eq e) p (p e) (λ k same. ap p (sym (same_numbers e k same))) xs

-- e is below each of the list
abbrev pub IsBelowAll : ℕ → List ℕ → Type 0
IsBelowAll x ys = AllByRecursion (λ y. nat_cmp x y ≡ Less) ys

-- the comparison as an order
pub less_from_cmp : (x y : ℕ) → nat_cmp x y ≡ Less → x < y
less_from_cmp x y h = elim (nat_lt x y) as (λ b. nat_lt x y ≡ b → cond b Less (cond (x == y) Equal Greater) ≡ Less → x < y) [
  | true ↦ λ e _. (Decides-ltb x y).0 e
  | false ↦ λ e g. elim (x == y) as (λ b. cond b Equal Greater ≡ Less → x < y) [ true ↦ λ g. cc | false ↦ λ g. cc ] g
] refl h

-- the order as a comparison
pub cmp_from_less : (x y : ℕ) → x < y → nat_cmp x y ≡ Less
cmp_from_less x y h = ap (λ b. cond b Less (cond (x == y) Equal Greater)) ((Decides-ltb x y).1 h)

-- a number that is no greater than a bound of the list
pub not_element_below : (x e : ℕ) (ys : List ℕ) → e ≤ x → IsBelowAll x ys → is_element ys e ≡ false
not_element_below x e [] le all = refl
not_element_below x e (y ∷ ys) le all =
    let lt : x < y = less_from_cmp x y all.0 in
    let rest = not_element_below x e ys le all.1 in
    let other : nat_eq e y ≡ false = grind (arith, nat_tests) in
    ap (λ b. b || is_element ys e) other ∙ rest

-- the first element
pub itself : (e : ℕ) (xs : List ℕ) → is_element (e ∷ xs) e ≡ true
itself e xs = ap (λ b. b || is_element xs e) ((Decides-eqb e e).1 refl)

-- a set whose first element is above x doesn't hold x
pub above_first : (x y : ℕ) (ys : List ℕ) → x < y → IsBelowAll y ys → is_element (y ∷ ys) x ≡ false
above_first x y ys lt all =
    let other : nat_eq x y ≡ false = grind (arith, nat_tests) in
    ap (λ b. b || is_element ys x) other ∙ not_element_below y x ys (omega arith) all

-- the first of a set is at most the first of another that has it
first_at_most : (x y : ℕ) (xs ys : List ℕ) → IsBelowAll y ys → is_element (x ∷ xs) x ≡ is_element (y ∷ ys) x → y ≤ x
first_at_most x y xs ys all same = elim (cases_lt x y) [
  | inl lt ↦ let no = above_first x y ys lt all in let yes = itself x xs in absurd cc
  | inr le ↦ le
]

-- the other elements
later : (x e : ℕ) (xs ys : List ℕ) → IsBelowAll x xs → IsBelowAll x ys → is_element (x ∷ xs) e ≡ is_element (x ∷ ys) e → is_element xs e ≡ is_element ys e
later x e xs ys p q same = elim (cases_eq e x) [
  | inl is ↦ not_element_below x e xs (omega arith) p ∙ sym (not_element_below x e ys (omega arith) q)
  | inr differs ↦ let other : nat_eq e x ≡ false = grind (arith, nat_tests) in
      sym (ap (λ b. b || is_element xs e) other) ∙ same ∙ ap (λ b. b || is_element ys e) other
]

-- two sets with the same elements are equal
pub same_sets : (xs ys : List ℕ) → IsStrictlySortedBy nat_cmp xs → IsStrictlySortedBy nat_cmp ys → ((e : ℕ) → is_element xs e ≡ is_element ys e) → xs ≡ ys
unfolding IsStrictlySortedBy
same_sets [] [] p q same = refl
same_sets [] (y ∷ ys) p q same = let h = same y in let i = itself y ys in cc
same_sets (x ∷ xs) [] p q same = let h = same x in let i = itself x xs in cc
same_sets (x ∷ xs) (y ∷ ys) p q same =
    let low = first_at_most y x ys xs p.0 (sym (same y)) in
    let high = first_at_most x y xs ys q.0 (same x) in
    let is : x ≡ y = omega arith in
    let q0 : IsBelowAll x ys = subst (λ z. IsBelowAll z ys) (sym is) q.0 in
    let each : (e : ℕ) → is_element xs e ≡ is_element ys e =
    λ e. later x e xs ys p.0 q0 (same e ∙ ap (λ z. is_element (z ∷ ys) e) (sym is)) in
    let rest : xs ≡ ys = same_sets xs ys p.1 q.1 each in
    cc

-- which elements the operations leave
with_first : (x e k : ℕ) (xs : List ℕ) → is_element (with_element e xs) k ≡ (nat_eq k e || is_element xs k) → is_element (with_element e (x ∷ xs)) k ≡ (nat_eq k e || (nat_eq k x || is_element xs k))
with_first x e k xs rest =
    elim (nat_lt x e) as (λ b. is_element (cond b (x ∷ with_element e xs) (cond (nat_eq x e) (x ∷ xs) (e ∷ x ∷ xs))) k ≡ (nat_eq k e || (nat_eq k x || is_element xs k))) [
      | true ↦ ap (λ b. nat_eq k x || b) rest ∙ or_swap (nat_eq k x) (nat_eq k e) (is_element xs k)
      | false ↦ elim (nat_eq x e) as (λ b. nat_eq x e ≡ b → is_element (cond b (x ∷ xs) (e ∷ x ∷ xs)) k ≡ (nat_eq k e || (nat_eq k x || is_element xs k))) [
        | true ↦ λ same. or_twice (nat_eq k x) (is_element xs k) ∙ ap (λ z. nat_eq k z || (nat_eq k x || is_element xs k)) (same_numbers x e same)
        | false ↦ λ _. refl
      ] refl
    ]
  where
    or_swap : (a b c : Bool) → (a || (b || c)) ≡ (b || (a || c))
    or_swap true true c = refl
    or_swap true false c = refl
    or_swap false b c = refl

    or_twice : (a c : Bool) → (a || c) ≡ (a || (a || c))
    or_twice true c = refl
    or_twice false c = refl

-- one more element
pub is_element-with : (e k : ℕ) (x : List ℕ) → is_element (with_element e x) k ≡ (nat_eq k e || is_element x k)
is_element-with e k [] = refl
is_element-with e k (x ∷ xs) = with_first x e k xs (is_element-with e k xs)

-- one element less
pub is_element-without : (e k : ℕ) (x : List ℕ) → is_element (without_element e x) k ≡ (not (nat_eq k e) && is_element x k)
is_element-without e k x = is_element-filter (λ j. not (nat_eq j e)) x k

-- the elements of either set
pub is_element-union : (x y : List ℕ) (k : ℕ) → is_element (union x y) k ≡ (is_element x k || is_element y k)
is_element-union x [] k = or-false (is_element x k)
  where
    or-false : (a : Bool) → a ≡ (a || false)
    or-false true = refl
    or-false false = refl
is_element-union x (y ∷ ys) k =
    is_element-union (with_element y x) ys k ∙ ap (λ b. b || is_element ys k) (is_element-with y k x) ∙ shift (nat_eq k y) (is_element x k) (is_element ys k)
  where
    shift : (a b c : Bool) → ((a || b) || c) ≡ (b || (a || c))
    shift true true c = refl
    shift true false c = refl
    shift false true c = refl
    shift false false c = refl

-- the operations keep the order
below_push : (x n : ℕ) (ys : List ℕ) → x < n → IsBelowAll x ys → IsBelowAll x (ys ++ n ∷ [])
below_push x n [] lt all = (cmp_from_less x n lt, tt)
below_push x n (y ∷ ys) lt all = (all.0, below_push x n ys lt all.1)

-- a greater number at the end
sorted_push : (n : ℕ) (xs : List ℕ) → AllByRecursion (λ x. x < n) xs → IsStrictlySortedBy nat_cmp xs → IsStrictlySortedBy nat_cmp (xs ++ n ∷ [])
unfolding IsStrictlySortedBy
sorted_push n [] small sorted = (tt, tt)
sorted_push n (x ∷ xs) small sorted = (below_push x n xs small.0 sorted.0, sorted_push n xs small.1 sorted.1)

-- it raises the bound
small_push : (n m : ℕ) (xs : List ℕ) → n < m → AllByRecursion (λ x. x < n) xs → AllByRecursion (λ x. x < m) (xs ++ n ∷ [])
small_push n m [] lt all = (lt, tt)
small_push n m (x ∷ xs) lt all = (let h = all.0 in omega arith, small_push n m xs lt all.1)

-- they are below n
numbers_below-small : (n : ℕ) → AllByRecursion (λ x. x < n) (numbers_below n)
numbers_below-small zero = tt
numbers_below-small (suc n) = small_push n (suc n) (numbers_below n) (omega arith) (numbers_below-small n)

-- they stand in order
pub numbers_below-sorted : (n : ℕ) → IsStrictlySortedBy nat_cmp (numbers_below n)
unfolding IsStrictlySortedBy
numbers_below-sorted zero = tt
numbers_below-sorted (suc n) = sorted_push n (numbers_below n) (numbers_below-small n) (numbers_below-sorted n)

-- a smaller bound
below_later : (x y : ℕ) (ys : List ℕ) → x < y → IsBelowAll y ys → IsBelowAll x ys
below_later x y [] lt all = tt
below_later x y (z ∷ ys) lt all = (cmp_from_less x z (let h = less_from_cmp y z all.0 in omega arith), below_later x y ys lt all.1)

-- a bound of one more element
below_with : (x e : ℕ) (ys : List ℕ) → x < e → IsBelowAll x ys → IsBelowAll x (with_element e ys)
below_with x e [] lt all = (cmp_from_less x e lt, tt)
below_with x e (y ∷ ys) lt all =
    elim (nat_lt y e) as (λ b. IsBelowAll x (cond b (y ∷ with_element e ys) (cond (nat_eq y e) (y ∷ ys) (e ∷ y ∷ ys)))) [
      | true ↦ (all.0, below_with x e ys lt all.1)
      | false ↦ elim (nat_eq y e) as (λ b. IsBelowAll x (cond b (y ∷ ys) (e ∷ y ∷ ys))) [ true ↦ all | false ↦ (cmp_from_less x e lt, all) ]
    ]

-- one more element keeps the order
pub with_element-sorted : (e : ℕ) (xs : List ℕ) → IsStrictlySortedBy nat_cmp xs → IsStrictlySortedBy nat_cmp (with_element e xs)
unfolding IsStrictlySortedBy
with_element-sorted e [] sorted = (tt, tt)
with_element-sorted e (x ∷ xs) sorted =
    elim (nat_lt x e) as (λ b. nat_lt x e ≡ b → IsStrictlySortedBy nat_cmp (cond b (x ∷ with_element e xs) (cond (nat_eq x e) (x ∷ xs) (e ∷ x ∷ xs)))) [
      | true ↦ λ lt. (below_with x e xs ((Decides-ltb x e).0 lt) sorted.0, with_element-sorted e xs sorted.1)
      | false ↦ λ ge. elim (nat_eq x e) as (λ b. nat_eq x e ≡ b → IsStrictlySortedBy nat_cmp (cond b (x ∷ xs) (e ∷ x ∷ xs))) [
        | true ↦ λ _. sorted
        | false ↦ λ other. let lt : e < x = grind (arith, nat_tests) in ((cmp_from_less e x lt, below_later e x xs lt sorted.0), sorted)
      ] refl
    ] refl

-- so does a union
pub union-sorted : (x y : List ℕ) → IsStrictlySortedBy nat_cmp x → IsStrictlySortedBy nat_cmp (union x y)
union-sorted x [] sorted = sorted
union-sorted x (y ∷ ys) sorted = union-sorted (with_element y x) ys (with_element-sorted y x sorted)

-- membership as a fact and as a test
pub Contains-from_element : (xs : List ℕ) (e : ℕ) → is_element xs e ≡ true → Contains xs e
Contains-from_element xs e h = Contains-from_any {eq = nat_eq} same_numbers e xs h

-- and the other way round
pub is_element-from_Contains : (xs : List ℕ) (e : ℕ) → Contains xs e → is_element xs e ≡ true
is_element-from_Contains xs e h = list_any-from_Contains nat_eq_equiv e xs h
