-- Lists in strictly increasing order: places, joins, and when two of them are equal.
use Rattle.std.proofs.Common.{◌≡◌, ◌↔◌, ℕ, zero, suc, ◌-◌, ◌≤◌, ◌⊎◌, List, [], ◌∷◌, ◌++◌, length, get_or, Some, refl, sym, ap, subst, ◌∙◌, inl, inr, arith}
use Rattle.std.specs.Prelude.{◌<◌, Contains}
use Rattle.std.specs.List.{AllByRecursion, slice_get}
use Rattle.std.specs.List.Sorted.{IsStrictlySortedBy}
use Rattle.std.specs.Cmp.{IsTotalOrder}
use Rattle.std.specs.declared.cmp.Ordering.{Ordering}
use Rattle.std.specs.declared.cmp.Ordering.TheVariants.{Less}
use Rattle.std.proofs.lemmas.Cmp.{tied_itself}
use Rattle.std.proofs.lemmas.List.Elements.{Contains-get_or, recursion_from_All}
use Rattle.std.proofs.lemmas.Map.Keys.{sorted_tail}
use Rattle.std.proofs.lemmas.Map.Views.{All-after_first}
use Rattle.std.proofs.lemmas.Option.{none-some, same_Some, slice_get_within, slice_get-get_or, get_or_from_slice_get}

-- the first element is a member
pub member_first : {X : Type 0} (x : X) (xs : List X) → Contains (x ∷ xs) x
member_first x xs = (0, omega arith, refl)

-- a member of the rest is a member
pub member_later : {X : Type 0} (y : X) (xs : List X) (x : X) → Contains xs x → Contains (y ∷ xs) x
member_later y xs x inside = (suc inside.0, (let lt = inside.1 in omega arith), inside.2)

-- a member is the first element or one of the rest
pub member_cases : {X : Type 0} (y : X) (ys : List X) (x : X) → Contains (y ∷ ys) x → (y ≡ x) ⊎ Contains ys x
member_cases {X} y ys x inside = at inside.0 inside.1 inside.2
  where
    at : (k : ℕ) → k < length (y ∷ ys) → get_or (y ∷ ys) k x ≡ x → (y ≡ x) ⊎ Contains ys x
    at zero lt is = inl is
    at (suc k) lt is = inr (k, omega arith, is)

-- nothing is a member of the empty list
pub member_none : {X : Type 0} (x : X) → Contains [] x → ⊥
member_none x inside = let lt = inside.1 in omega arith

-- a member stands at some place
pub member_place : {X : Type 0} (xs : List X) (x : X) → Contains xs x → (k : ℕ) × (slice_get xs k ≡ Some x)
member_place xs x inside = (inside.0, slice_get-get_or xs inside.0 x inside.1 ∙ ap Some inside.2)

-- what stands at a place is a member
pub place_member : {X : Type 0} (xs : List X) (k : ℕ) (x : X) → slice_get xs k ≡ Some x → Contains xs x
place_member xs k x is = (k, slice_get_within xs k x is, get_or_from_slice_get xs k x x is)

-- the first element comes before each of the rest
pub first_before : {X : Type 0} (cmp : X → X → Ordering) (y : X) (ys : List X) (x : X) → IsStrictlySortedBy cmp (y ∷ ys) → Contains ys x → cmp y x ≡ Less
first_before cmp y ys x sorted inside =
    let after = All-after_first cmp y ys sorted inside.0 x inside.1 in
    subst (λ z. cmp y z ≡ Less) inside.2 after

-- what stands at a later place comes later in the order
pub later_is_greater : {X : Type 0} (cmp : X → X → Ordering) (xs : List X) (i j : ℕ) (x y : X) → IsStrictlySortedBy cmp xs → slice_get xs i ≡ Some x → slice_get xs j ≡ Some y → i < j → cmp x y ≡ Less
later_is_greater cmp [] i j x y sorted here there lt = absurd (none-some x here)
later_is_greater cmp (z ∷ zs) zero zero x y sorted here there lt = absurd (omega arith)
later_is_greater cmp (z ∷ zs) zero (suc j) x y sorted here there lt = subst (λ w. cmp w y ≡ Less) (same_Some z x here) (first_before cmp z zs y sorted (place_member zs j y there))
later_is_greater cmp (z ∷ zs) (suc i) zero x y sorted here there lt = absurd (omega arith)
later_is_greater cmp (z ∷ zs) (suc i) (suc j) x y sorted here there lt = later_is_greater cmp zs i j x y (sorted_tail cmp z zs sorted) here there (omega arith)

-- all of one list and each member of another
all_join : {X : Type 0} (P : X → Type 0) (xs ys : List X) → AllByRecursion P xs → ((y : X) → Contains ys y → P y) → AllByRecursion P (xs ++ ys)
all_join P [] ys all each = recursion_from_All P ys (λ k d lt. each (get_or ys k d) (Contains-get_or ys k d lt))
all_join P (x ∷ xs) ys all each = (all.0, all_join P xs ys all.1 each)

-- a list in order, and after it one whose members all come later
pub sorted_join : {X : Type 0} (cmp : X → X → Ordering) (xs ys : List X) → IsStrictlySortedBy cmp xs → IsStrictlySortedBy cmp ys → ((x y : X) → Contains xs x → Contains ys y → cmp x y ≡ Less) → IsStrictlySortedBy cmp (xs ++ ys)
unfolding IsStrictlySortedBy
sorted_join cmp [] ys first second before = second
sorted_join cmp (x ∷ xs) ys first second before = (
  all_join (λ y. cmp x y ≡ Less) xs ys first.0 (λ y inside. before x y (member_first x xs) inside),
  sorted_join cmp xs ys first.1 second (λ z y here there. before z y (member_later x xs z here) there),
)

-- in a total order nothing comes before itself
pub not_before_itself : {X : Type 0} {cmp : X → X → Ordering} → IsTotalOrder cmp → (x : X) → cmp x x ≡ Less → ⊥
not_before_itself total x less = let same = tied_itself total x in cc

-- nor do two come before each other
pub not_both_ways : {X : Type 0} {cmp : X → X → Ordering} → IsTotalOrder cmp → (x y : X) → cmp x y ≡ Less → cmp y x ≡ Less → ⊥
not_both_ways {X} {cmp} total x y one two = not_before_itself total x (total.trans x y x one two)

-- a member that comes after the first element is one of the rest
pub member_after : {X : Type 0} {cmp : X → X → Ordering} → IsTotalOrder cmp → (y : X) (ys : List X) (x : X) → cmp y x ≡ Less → Contains (y ∷ ys) x → Contains ys x
member_after {X} {cmp} total y ys x less inside = elim (member_cases y ys x inside) [
  | inl same ↦ absurd (not_before_itself total x (subst (λ z. cmp z x ≡ Less) same less))
  | inr later ↦ later
]

-- two lists in order with the same members are equal
pub same_members : {X : Type 0} {cmp : X → X → Ordering} → IsTotalOrder cmp → (xs ys : List X) → IsStrictlySortedBy cmp xs → IsStrictlySortedBy cmp ys → ((x : X) → Contains xs x ↔ Contains ys x) → xs ≡ ys
same_members total [] [] first second same = refl
same_members total [] (y ∷ ys) first second same = absurd (member_none y ((same y).1 (member_first y ys)))
same_members total (x ∷ xs) [] first second same = absurd (member_none x ((same x).0 (member_first x xs)))
same_members {X} {cmp} total (x ∷ xs) (y ∷ ys) first second same =
    let is : x ≡ y = heads (member_cases y ys x ((same x).0 (member_first x xs))) (member_cases x xs y ((same y).1 (member_first y ys))) in
    let rest : xs ≡ ys = same_members total xs ys (sorted_tail cmp x xs first) (sorted_tail cmp y ys second) (λ z. (
      λ inside. member_after total y ys z (subst (λ w. cmp w z ≡ Less) is (first_before cmp x xs z first inside)) ((same z).0 (member_later x xs z inside)),
      λ inside. member_after total x xs z (subst (λ w. cmp w z ≡ Less) (sym is) (first_before cmp y ys z second inside)) ((same z).1 (member_later y ys z inside)),
    )) in
    cc
  where
    heads : (y ≡ x) ⊎ Contains ys x → (x ≡ y) ⊎ Contains xs y → x ≡ y
    heads (inl is) other = sym is
    heads (inr later) (inl is) = is
    heads (inr later) (inr again) = absurd (not_both_ways total x y (first_before cmp x xs y first again) (first_before cmp y ys x second later))

-- a list in order of members of another is no longer than it
pub length-le_from_members : {X : Type 0} {cmp : X → X → Ordering} → IsTotalOrder cmp → (ys xs : List X) → IsStrictlySortedBy cmp xs → IsStrictlySortedBy cmp ys → ((x : X) → Contains xs x → Contains ys x) → length xs ≤ length ys
length-le_from_members total ys [] first second within = omega arith
length-le_from_members total [] (x ∷ xs) first second within = absurd (member_none x (within x (member_first x xs)))
length-le_from_members {X} {cmp} total (y ∷ ys) (x ∷ xs) first second within = elim (member_cases y ys x (within x (member_first x xs))) [
  | inl same ↦
      let rest = length-le_from_members total ys xs (sorted_tail cmp x xs first) (sorted_tail cmp y ys second) (λ z inside.
      member_after total y ys z (subst (λ w. cmp w z ≡ Less) (sym same) (first_before cmp x xs z first inside)) (within z (member_later x xs z inside))) in
      omega arith
  | inr later ↦
      let less = first_before cmp y ys x second later in
      let rest = length-le_from_members total ys (x ∷ xs) first (sorted_tail cmp y ys second) (λ z inside.
      member_after total y ys z (elim (member_cases x xs z inside) [
        | inl is ↦ subst (λ w. cmp y w ≡ Less) is less
        | inr more ↦ total.trans y x z less (first_before cmp x xs z first more)
      ]) (within z inside)) in
      omega arith
]

-- each of the first n members comes before the next
abbrev pub RisesTo : {X : Type 0} → (X → X → Ordering) → List X → ℕ → Type 0
RisesTo {X} cmp xs n = (k : ℕ) (d : X) → suc k < n → cmp (get_or xs k d) (get_or xs (suc k) d) ≡ Less

-- what comes before the first of some members that come after y comes before all of them
all_after : {X : Type 0} {cmp : X → X → Ordering} → IsTotalOrder cmp → (x y : X) (ys : List X) → cmp x y ≡ Less → AllByRecursion (λ z. cmp y z ≡ Less) ys → AllByRecursion (λ z. cmp x z ≡ Less) ys
all_after total x y [] before after = tt
all_after total x y (z ∷ zs) before after = (total.trans x y z before after.0, all_after total x y zs before after.1)

-- where each member comes before the next the list is in order
pub sorted-from_rising : {X : Type 0} {cmp : X → X → Ordering} → IsTotalOrder cmp → (xs : List X) → RisesTo cmp xs (length xs) → IsStrictlySortedBy cmp xs
unfolding IsStrictlySortedBy
sorted-from_rising total [] rises = tt
sorted-from_rising total (x ∷ []) rises = (tt, tt)
sorted-from_rising total (x ∷ y ∷ ys) rises =
    let rest = sorted-from_rising total (y ∷ ys) (λ k d lt. rises (suc k) d (omega arith)) in
    let first = rises 0 x (omega arith) in
    ((first, all_after total x y ys first rest.0), rest)

-- in a list in order the member that is read at a place comes before the one at the next
pub rising-at : {X : Type 0} (cmp : X → X → Ordering) (xs : List X) (i : ℕ) (x y : X) → IsStrictlySortedBy cmp xs → 1 ≤ i → i < length xs → x ≡ get_or xs (i - 1) x → y ≡ get_or xs i y → cmp x y ≡ Less
rising-at cmp xs i x y sorted some lt is next = later_is_greater cmp xs (i - 1) i x y sorted (slice_get-get_or xs (i - 1) x (omega arith) ∙ ap Some (sym is)) (slice_get-get_or xs i y lt ∙ ap Some (sym next)) (omega arith)
