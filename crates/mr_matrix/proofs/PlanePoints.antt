-- The points of the four planes, computed.
use Rattle.std.proofs.Common.{◌≡◌, ◌⊎◌, ℕ, zero, suc, ◌<◌, ◌≤◌, Bool, true, false, not, ◌&&◌, ◌||◌, List, [], ◌∷◌, refl, sym, ap, subst, ◌∙◌, ⊎_elim, inl, inr, arith}
use Rattle.std.specs.Prelude.{All, Contains, nat_eq, nat_lt, slice_index}
use Rattle.std.specs.List.{AllByRecursion, list_any}
use Rattle.std.specs.List.Sorted.{IsStrictlySortedBy}
use Rattle.std.specs.Cmp.Lexicographic.{pointwise, same_text}
use Rattle.std.specs.declared.cmp.Ordering.{Ordering}
use Rattle.std.specs.declared.cmp.Ordering.TheVariants.{Less, Equal, Greater}
use Rattle.std.proofs.lemmas.Bool.{cases_eq, cases_Bool, and_parts}
use Rattle.std.proofs.lemmas.Bool.Decides.{Decides-eqb, Decides-ltb}
use Rattle.std.proofs.lemmas.Cmp.{nat_list_cmp_total}
use Rattle.std.proofs.lemmas.Map.Views.{Contains-from_any}
use Rattle.mr_field.specs.Gf.{Gf, gf2, gf3, gf4, gf5, gf7, gf8, gf9, order}
use Rattle.mr_set.specs.Subsets.{list_cmp}
use Rattle.mr_set.proofs.Ordered.{member_cases, member_none}
use Rattle.mr_linear.specs.Matrix.{Grid, IsGrid, height, listed}
use Rattle.mr_matrix.specs.Block.{grid_with}
use Rattle.mr_matrix.specs.Plane.{columns, IsPoint, IsPlane}
use Rattle.mr_matrix.specs.Private.Points.{coordinate, point_count}

-- the test passes for each number below n
unfoldable pub all_below : ℕ → (ℕ → Bool) → Bool
all_below zero p = true
all_below (suc n) p = all_below n p && p n

-- so it passes for one of them
pub at_below : (n : ℕ) (p : ℕ → Bool) → all_below n p ≡ true → (k : ℕ) → k < n → p k ≡ true
unfolding all_below
at_below zero p all k l = absurd (omega arith)
at_below (suc n) p all k l = ⊎_elim (λ (same : k ≡ n). ap p same ∙ (and_parts (all_below n p) (p n) all).1) (λ other. at_below n p (and_parts (all_below n p) (p n) all).0 k (omega arith)) (cases_eq k n)

-- a comparison that answers less
is_less : Ordering → Bool
is_less Less = true
is_less Equal = false
is_less Greater = false

-- then it did
less_from : (o : Ordering) → is_less o ≡ true → o ≡ Less
unfolding is_less
less_from Less h = refl
less_from Equal h = cc
less_from Greater h = cc

-- each list comes before the next
is_chain : List (List ℕ) → Bool
is_chain [] = true
is_chain (x ∷ []) = true
is_chain (x ∷ y ∷ ys) = is_less (list_cmp x y) && is_chain (y ∷ ys)

-- what comes before the first of lists in order comes before all
before_all : (x y : List ℕ) (ys : List (List ℕ)) → list_cmp x y ≡ Less → AllByRecursion (λ z. list_cmp y z ≡ Less) ys → AllByRecursion (λ z. list_cmp x z ≡ Less) ys
before_all x y [] less all = tt
before_all x y (z ∷ zs) less all = (nat_list_cmp_total.trans x y z less all.0, before_all x y zs less all.1)

-- so they are in order
chain_sorted : (xs : List (List ℕ)) → is_chain xs ≡ true → IsStrictlySortedBy list_cmp xs
unfolding is_chain IsStrictlySortedBy
chain_sorted [] h = tt
chain_sorted (x ∷ []) h = (tt, tt)
chain_sorted (x ∷ y ∷ ys) h =
    let parts = and_parts (is_less (list_cmp x y)) (is_chain (y ∷ ys)) h in
    let less = less_from (list_cmp x y) parts.0 in
    let rest = chain_sorted (y ∷ ys) parts.1 in
    ((less, before_all x y ys less rest.0), rest)

-- the test of a point
is_point : ℕ → ℕ → ℕ → ℕ → Bool
is_point q x y z = (nat_lt x q && (nat_lt y q && nat_lt z q)) && (nat_eq x 1 || (nat_eq x 0 && (nat_eq y 1 || (nat_eq y 0 && nat_eq z 1))))

-- all are points
are_points : ℕ → List (List ℕ) → Bool
are_points q [] = true
are_points q ([] ∷ vs) = false
are_points q ((x ∷ []) ∷ vs) = false
are_points q ((x ∷ y ∷ []) ∷ vs) = false
are_points q ((x ∷ y ∷ z ∷ []) ∷ vs) = is_point q x y z && are_points q vs
are_points q ((x ∷ y ∷ z ∷ w ∷ ws) ∷ vs) = false

-- each point is listed
has_points : ℕ → List (List ℕ) → Bool
has_points q vs = all_below q (λ x. all_below q (λ y. all_below q (λ z. not (is_point q x y z) || list_any (pointwise nat_eq (x ∷ y ∷ z ∷ [])) vs)))

-- a point by its test
point_from : (f : Gf) (x y z : ℕ) → is_point (order f) x y z ≡ true → IsPoint f (x ∷ y ∷ z ∷ [])
unfolding is_point
point_from f x y z h =
    let parts = and_parts (nat_lt x q && (nat_lt y q && nat_lt z q)) (nat_eq x 1 || (nat_eq x 0 && (nat_eq y 1 || (nat_eq y 0 && nat_eq z 1)))) h in
    let low = and_parts (nat_lt x q) (nat_lt y q && nat_lt z q) parts.0 in
    let lower = and_parts (nat_lt y q) (nat_lt z q) low.1 in
    record {
      size = refl;
      elements = small ((Decides-ltb x q).0 low.0) ((Decides-ltb y q).0 lower.0) ((Decides-ltb z q).0 lower.1);
      leading = lead (cases_Bool (nat_eq x 1)) (cases_Bool (nat_eq y 1)) parts.1;
    }
  where
    q : ℕ
    q = order f

    small : x < order f → y < order f → z < order f → All (λ e. e < order f) (x ∷ y ∷ z ∷ [])
    small a b c zero d l = a
    small a b c (suc zero) d l = b
    small a b c (suc (suc zero)) d l = c
    small a b c (suc (suc (suc k))) d l = absurd (omega arith)

    Leading : Type 0
    Leading = (k : ℕ) × (slice_index (x ∷ y ∷ z ∷ []) k ≡ 1) × ((i : ℕ) → i < k → slice_index (x ∷ y ∷ z ∷ []) i ≡ 0)

    second : (p r : Bool) → p ≡ false → (p || r) ≡ true → r ≡ true
    second true r g e = cc
    second false r g e = e

    before_one : x ≡ 0 → (i : ℕ) → i < 1 → slice_index (x ∷ y ∷ z ∷ []) i ≡ 0
    before_one a zero l = a
    before_one a (suc i) l = absurd (omega arith)

    before_two : x ≡ 0 → y ≡ 0 → (i : ℕ) → i < 2 → slice_index (x ∷ y ∷ z ∷ []) i ≡ 0
    before_two a b zero l = a
    before_two a b (suc zero) l = b
    before_two a b (suc (suc i)) l = absurd (omega arith)

    lead : (nat_eq x 1 ≡ true) ⊎ (nat_eq x 1 ≡ false) → (nat_eq y 1 ≡ true) ⊎ (nat_eq y 1 ≡ false) → (nat_eq x 1 || (nat_eq x 0 && (nat_eq y 1 || (nat_eq y 0 && nat_eq z 1)))) ≡ true
        → (k : ℕ) × (slice_index (x ∷ y ∷ z ∷ []) k ≡ 1) × ((i : ℕ) → i < k → slice_index (x ∷ y ∷ z ∷ []) i ≡ 0)
    lead (inl one) other g = (0, (Decides-eqb x 1).0 one, λ i l. absurd (omega arith))
    lead (inr out) (inl one) g =
        let rest = and_parts (nat_eq x 0) (nat_eq y 1 || (nat_eq y 0 && nat_eq z 1)) (second (nat_eq x 1) (nat_eq x 0 && (nat_eq y 1 || (nat_eq y 0 && nat_eq z 1))) out g) in
        (1, (Decides-eqb y 1).0 one, before_one ((Decides-eqb x 0).0 rest.0))
    lead (inr out) (inr none) g =
        let rest = and_parts (nat_eq x 0) (nat_eq y 1 || (nat_eq y 0 && nat_eq z 1)) (second (nat_eq x 1) (nat_eq x 0 && (nat_eq y 1 || (nat_eq y 0 && nat_eq z 1))) out g) in
        let last = and_parts (nat_eq y 0) (nat_eq z 1) (second (nat_eq y 1) (nat_eq y 0 && nat_eq z 1) none rest.1) in
        (2, (Decides-eqb z 1).0 last.1, before_two ((Decides-eqb x 0).0 rest.0) ((Decides-eqb y 0).0 last.0))

-- the listed points are points
listed_point : (f : Gf) (vs : List (List ℕ)) → are_points (order f) vs ≡ true → (v : List ℕ) → Contains vs v → IsPoint f v
unfolding are_points
listed_point f [] h v inside = absurd (member_none v inside)
listed_point f ([] ∷ vs) h v inside = cc
listed_point f ((x ∷ []) ∷ vs) h v inside = cc
listed_point f ((x ∷ y ∷ []) ∷ vs) h v inside = cc
listed_point f ((x ∷ y ∷ z ∷ w ∷ ws) ∷ vs) h v inside = cc
listed_point f ((x ∷ y ∷ z ∷ []) ∷ vs) h v inside =
    let parts = and_parts (is_point (order f) x y z) (are_points (order f) vs) h in
    ⊎_elim (λ (same : (x ∷ y ∷ z ∷ []) ≡ v). subst (IsPoint f) same (point_from f x y z parts.0)) (λ (later : Contains vs v). listed_point f vs parts.1 v later) (member_cases (x ∷ y ∷ z ∷ []) vs v inside)

-- the test passes for a point
point_test : (f : Gf) (x y z : ℕ) → IsPoint f (x ∷ y ∷ z ∷ []) → is_point (order f) x y z ≡ true
unfolding is_point
point_test f x y z is = both (nat_lt x (order f) && (nat_lt y (order f) && nat_lt z (order f))) (nat_eq x 1 || (nat_eq x 0 && (nat_eq y 1 || (nat_eq y 0 && nat_eq z 1))))
    (both (nat_lt x (order f)) (nat_lt y (order f) && nat_lt z (order f)) ((Decides-ltb x (order f)).1 (is.elements 0 0 (omega arith))) (both (nat_lt y (order f)) (nat_lt z (order f)) ((Decides-ltb y (order f)).1 (is.elements 1 0 (omega arith))) ((Decides-ltb z (order f)).1 (is.elements 2 0 (omega arith)))))
    (lead is.leading.0 is.leading.1 is.leading.2)
  where
    both : (p r : Bool) → p ≡ true → r ≡ true → (p && r) ≡ true
    both true r g e = e
    both false r g e = cc

    left : (p r : Bool) → p ≡ true → (p || r) ≡ true
    left true r g = refl
    left false r g = cc

    right : (p r : Bool) → r ≡ true → (p || r) ≡ true
    right true r g = refl
    right false r g = g

    lead : (k : ℕ) → slice_index (x ∷ y ∷ z ∷ []) k ≡ 1 → ((i : ℕ) → i < k → slice_index (x ∷ y ∷ z ∷ []) i ≡ 0) → (nat_eq x 1 || (nat_eq x 0 && (nat_eq y 1 || (nat_eq y 0 && nat_eq z 1)))) ≡ true
    lead zero one before = left (nat_eq x 1) (nat_eq x 0 && (nat_eq y 1 || (nat_eq y 0 && nat_eq z 1))) ((Decides-eqb x 1).1 one)
    lead (suc zero) one before = right (nat_eq x 1) (nat_eq x 0 && (nat_eq y 1 || (nat_eq y 0 && nat_eq z 1)))
        (both (nat_eq x 0) (nat_eq y 1 || (nat_eq y 0 && nat_eq z 1)) ((Decides-eqb x 0).1 (before 0 (omega arith))) (left (nat_eq y 1) (nat_eq y 0 && nat_eq z 1) ((Decides-eqb y 1).1 one)))
    lead (suc (suc zero)) one before = right (nat_eq x 1) (nat_eq x 0 && (nat_eq y 1 || (nat_eq y 0 && nat_eq z 1)))
        (both (nat_eq x 0) (nat_eq y 1 || (nat_eq y 0 && nat_eq z 1)) ((Decides-eqb x 0).1 (before 0 (omega arith)))
        (right (nat_eq y 1) (nat_eq y 0 && nat_eq z 1) (both (nat_eq y 0) (nat_eq z 1) ((Decides-eqb y 0).1 (before 1 (omega arith))) ((Decides-eqb z 1).1 one))))
    lead (suc (suc (suc k))) one before = absurd (omega arith)

-- each point is listed
point_listed : (f : Gf) (vs : List (List ℕ)) → has_points (order f) vs ≡ true → (v : List ℕ) → IsPoint f v → Contains vs v
unfolding has_points
point_listed f vs h [] is = absurd (let size = is.size in omega arith)
point_listed f vs h (x ∷ []) is = absurd (let size = is.size in omega arith)
point_listed f vs h (x ∷ y ∷ []) is = absurd (let size = is.size in omega arith)
point_listed f vs h (x ∷ y ∷ z ∷ w ∷ ws) is = absurd (let size = is.size in omega arith)
point_listed f vs h (x ∷ y ∷ z ∷ []) is =
    let q = order f in
    let at_x = at_below q (λ a. all_below q (λ b. all_below q (λ c. not (is_point q a b c) || list_any (pointwise nat_eq (a ∷ b ∷ c ∷ [])) vs))) h x (is.elements 0 0 (omega arith)) in
    let at_y = at_below q (λ b. all_below q (λ c. not (is_point q x b c) || list_any (pointwise nat_eq (x ∷ b ∷ c ∷ [])) vs)) at_x y (is.elements 1 0 (omega arith)) in
    let at_z = at_below q (λ c. not (is_point q x y c) || list_any (pointwise nat_eq (x ∷ y ∷ c ∷ [])) vs) at_y z (is.elements 2 0 (omega arith)) in
    Contains-from_any {eq = pointwise nat_eq} (λ u v e. same_text u v (sym e)) (x ∷ y ∷ z ∷ []) vs (found (is_point q x y z) (list_any (pointwise nat_eq (x ∷ y ∷ z ∷ [])) vs) (point_test f x y z is) at_z)
  where
    found : (p r : Bool) → p ≡ true → (not p || r) ≡ true → r ≡ true
    found true r g e = e
    found false r g e = cc

-- the matrix whose rows are the coordinates
abbrev pub plane : Gf → Grid
plane f = grid_with f (point_count (order f)) (listed 0 (point_count (order f)) (coordinate (order f) 0) ∷ listed 0 (point_count (order f)) (coordinate (order f) 1) ∷ listed 0 (point_count (order f)) (coordinate (order f) 2) ∷ [])

-- a matrix of three rows whose columns pass the tests is the plane
plane_from : (f : Gf) (a : Grid) → IsGrid a → a.field ≡ f → height a ≡ 3 → is_chain (columns a) ≡ true → are_points (order f) (columns a) ≡ true → has_points (order f) (columns a) ≡ true → IsPlane f a
plane_from f a grid field rows chain points all = record {
  grid = grid;
  field = field;
  rows = rows;
  increasing = chain_sorted (columns a) chain;
  exactly = λ v. (listed_point f (columns a) points v, point_listed f (columns a) all v);
}

-- the four planes
pub plane_is : (f : Gf) → order f ≤ 5 → IsGrid (plane f) → IsPlane f (plane f)
unfolding is_chain is_less are_points has_points all_below is_point listed
plane_is gf2 le grid = plane_from gf2 (plane gf2) grid refl refl refl refl refl
plane_is gf3 le grid = plane_from gf3 (plane gf3) grid refl refl refl refl refl
plane_is gf4 le grid = plane_from gf4 (plane gf4) grid refl refl refl refl refl
plane_is gf5 le grid = plane_from gf5 (plane gf5) grid refl refl refl refl refl
plane_is gf7 le grid = absurd (omega arith)
plane_is gf8 le grid = absurd (omega arith)
plane_is gf9 le grid = absurd (omega arith)
