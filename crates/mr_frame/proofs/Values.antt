-- The values of one free position for which a set fails.
use Rattle.std.proofs.Common.{ℕ, ◌+◌, ◌*◌, ◌≡◌, ◌≢◌, ◌↔◌, ◌<◌, Bool, true, false, not, eqb, ◌&&◌, List, length, get_or, set, refl, sym, ap, subst, ◌∙◌, ⊎_elim, arith, eq-eqb, ne_eqb, IsTrue, get_or-set_same, get_or-set_other}
use Rattle.std.specs.Prelude.{Contains, Some, slice_get, nat_eq, nat_lt}
use Rattle.std.proofs.lemmas.Bool.{cases_eq, cases_Bool, both_ways, and_parts, not-true, lt-ltb, ltb-true}
use Rattle.mr_field.specs.Gf.{Gf, order}
use Rattle.mr_set.specs.Elements.{is_element, minus, meet, without_element, numbers_below}
use Rattle.mr_set.specs.Subsets.{IsSetOf}
use Rattle.mr_set.specs.Matroid.{IsBasis}
use Rattle.mr_set.proofs.Members.{is_element-filter, is_element-without, is_element-numbers_below, Contains-from_element, is_element-from_Contains}
use Rattle.mr_set.specs.declared.TheConstants.{ELEMENTS}
use Rattle.mr_graph.specs.declared.edge.Edge.{Edge}
use Rattle.mr_linear.specs.Columns.{Entries, Dependent}
use Rattle.mr_linear.specs.Elimination.{with_value}
use Rattle.mr_linear.specs.Matrix.{Grid, entry}
use Rattle.mr_linear.proofs.Grids.{entry-lt}
use Rattle.mr_frame.specs.Frame.{Framed, IsFrame, IsExchange}
use Rattle.mr_frame.specs.Private.Kept.{IsKept}
use Rattle.mr_frame.specs.Test.{IsCell, IsAssignmentOf, IsFilledBy, Needs, IsDecided, SetFails, IsVerdict}
use Rattle.mr_frame.specs.Private.Filling.{AreRows, HasValue, value_in, verdict_of}
use Rattle.mr_frame.specs.declared.cell.Cell.{Cell}
use Rattle.mr_frame.specs.declared.cell.Cell.TheVariants.{Zero, One, Free}
use Rattle.mr_frame.proofs.Entries.{filled_grid}
use Rattle.mr_frame.proofs.Parts.{settled}
use Rattle.mr_frame.proofs.Needed.{needs_at}
use Rattle.mr_frame.proofs.Outside.{HasEdge-slice_get}
use Rattle.mr_frame.proofs.Uniqueness.{place_exchange}
use Rattle.mr_set.proofs.Tests.{element-lt}
use Rattle.std.proofs.lemmas.List.Elements.{Contains-get_or}

-- the elements of both sets, or of the first alone
in_meet : (x y : List ℕ) (v : ℕ) → is_element (meet x y) v ≡ (is_element y v && is_element x v)
in_meet x y v = is_element-filter (is_element y) x v

-- the elements of the first alone
pub in_minus : (x y : List ℕ) (v : ℕ) → is_element (minus x y) v ≡ (not (is_element y v) && is_element x v)
in_minus x y v = is_element-filter (λ e. not (is_element y e)) x v

-- what is in the first set and not in the other
pub member_minus : (x y : List ℕ) (e : ℕ) → Contains x e → (Contains y e → ⊥) → Contains (minus x y) e
member_minus x y e has out = ⊎_elim
    (λ (t : is_element y e ≡ true). absurd (out (Contains-from_element y e t)))
    (λ (o : is_element y e ≡ false). Contains-from_element (minus x y) e (in_minus x y e ∙ rw (o, is_element-from_Contains x e has)))
    (cases_Bool (is_element y e))

-- and nothing else
pub minus_member : (x y : List ℕ) (e : ℕ) → Contains (minus x y) e → Contains x e × (Contains y e → ⊥)
minus_member x y e h =
    let t : (not (is_element y e) ≡ true) × (is_element x e ≡ true) = and_parts (not (is_element y e)) (is_element x e) (sym (in_minus x y e) ∙ is_element-from_Contains (minus x y) e h) in
    (Contains-from_element x e t.1, λ inside. both_ways (is_element y e) (not-true (is_element y e) t.0) (is_element-from_Contains y e inside))

-- the numbers below q but 0
pub all_but_zero : (q v : ℕ) (all : List ℕ) → all ≡ without_element 0 (numbers_below q) → (is_element all v ≡ true) ↔ ((0 < v) × (v < q))
all_but_zero q v all is = (
  (λ t.
      let k : (not (nat_eq v 0) ≡ true) × (nat_lt v q ≡ true) = and_parts (not (nat_eq v 0)) (nat_lt v q) (sym (read v) ∙ t) in
      (positive v k.0, ltb-true v q k.1)),
  (λ h. read v ∙ rw (ne_eqb v 0 (omega (arith, h.0)), lt-ltb v q h.1)),
)
  where
    read : (e : ℕ) → is_element all e ≡ (not (nat_eq e 0) && nat_lt e q)
    read e = ap (λ (ys : List ℕ). is_element ys e) is ∙ is_element-without 0 e (numbers_below q) ∙ ap (λ b. not (nat_eq e 0) && b) (is_element-numbers_below q e)

    positive : (e : ℕ) → not (nat_eq e 0) ≡ true → 0 < e
    positive e t = ⊎_elim
        (λ (z : e ≡ 0). absurd (both_ways (not (nat_eq e 0)) (rw z refl) t))
        (λ (o : e ≢ 0). omega arith)
        (cases_eq e 0)

-- those in a set
pub values_in : (q v : ℕ) (all values result : List ℕ) → all ≡ without_element 0 (numbers_below q) → result ≡ meet all values → Contains result v ↔ ((0 < v) × (v < q) × (IsTrue true ↔ Contains values v))
values_in q v all values result are is = (
  (λ h.
      let t : (is_element values v ≡ true) × (is_element all v ≡ true) = and_parts (is_element values v) (is_element all v) (sym (in_meet all values v) ∙ ap (λ (ys : List ℕ). is_element ys v) (sym is) ∙ is_element-from_Contains result v h) in
      let k = (all_but_zero q v all are).0 t.1 in
      (k.0, k.1, ((λ _. Contains-from_element values v t.0), (λ _. refl)))),
  (λ h.
      let t : is_element all v ≡ true = (all_but_zero q v all are).1 (h.0, h.1) in
      let s : is_element values v ≡ true = is_element-from_Contains values v (h.2.0 refl) in
      Contains-from_element result v (ap (λ (ys : List ℕ). is_element ys v) is ∙ in_meet all values v ∙ rw (t, s))),
)

-- those outside of it
pub values_out : (q v : ℕ) (all values result : List ℕ) → all ≡ without_element 0 (numbers_below q) → result ≡ minus all values → Contains result v ↔ ((0 < v) × (v < q) × (IsTrue false ↔ Contains values v))
values_out q v all values result are is = (
  (λ h.
      let t : (not (is_element values v) ≡ true) × (is_element all v ≡ true) = and_parts (not (is_element values v)) (is_element all v) (sym (in_minus all values v) ∙ ap (λ (ys : List ℕ). is_element ys v) (sym is) ∙ is_element-from_Contains result v h) in
      let k = (all_but_zero q v all are).0 t.1 in
      (k.0, k.1, ((λ no. absurd (let e = no in cc)), (λ has. absurd (both_ways (is_element values v) (not-true (is_element values v) t.0) (is_element-from_Contains values v has)))))),
  (λ h.
      let t : is_element all v ≡ true = (all_but_zero q v all are).1 (h.0, h.1) in
      ⊎_elim
      (λ (has : is_element values v ≡ true). absurd (let e = h.2.1 (Contains-from_element values v has) in cc))
      (λ (out : is_element values v ≡ false). Contains-from_element result v (ap (λ (ys : List ℕ). is_element ys v) is ∙ in_minus all values v ∙ rw (t, out)))
      (cases_Bool (is_element values v))),
)

module _ (f : Framed) (cells : List Cell) (tests : List (List (List ℕ))) (kept : IsKept f cells tests) (a x rows : List ℕ) (w : Entries) (p v : ℕ) (place : Edge) (here : slice_get f.places p ≡ Some place)
    (within : p < length a) (assigned : IsAssignmentOf f a) (set_of : IsSetOf f.matroid.elements f.matroid.rank x) (needs : Needs f x p) (others : (q : ℕ) → Needs f x q → q ≢ p → get_or a q 0 ≢ 0)
    (are : AreRows f.basis x rows) (edge : IsExchange f.matroid f.basis place.row place.col) (inside : p < length f.places)
    (values : (i e : ℕ) → i < f.matroid.rank → e < f.matroid.elements → Contains rows i → Contains (minus x f.basis) e → HasValue f a i e (w i e)) where
  -- the assignment with the value
  abbrev more : List ℕ
  more = set a p v

  -- the value is there
  there : get_or more p 0 ≡ v
  there = get_or-set_same a p v 0 within

  -- another cell's value is as it was
  other_value : (i e : ℕ) → ((i ≡ place.row) × (e ≡ place.col) → ⊥) → HasValue f a i e (w i e) → HasValue f more i e (w i e)
  other_value i e apart h = by_cell h.cell h.is h.value
    where
      by_cell : (c : Cell) → IsCell f i e c → w i e ≡ value_in a c → HasValue f more i e (w i e)
      by_cell Zero is value = record { cell = Zero; is = is; value = value }
      by_cell One is value = record { cell = One; is = is; value = value }
      by_cell (Free q) is value = record { cell = Free q; is = is; value = value ∙ sym (get_or-set_other a p q v 0 (λ (same : q ≡ p). apart (at_place (sym (subst (λ (k : ℕ). slice_get f.places k ≡ Some (record { row = i; col = e })) same is) ∙ here)))) }
        where
          at_place : Some (record { row = i; col = e }) ≡ Some place → (i ≡ place.row) × (e ≡ place.col)
          at_place s = (cc, cc)

  -- the part's values with v at the position
  new_values : (i e : ℕ) → i < f.matroid.rank → e < f.matroid.elements → Contains rows i → Contains (minus x f.basis) e → HasValue f more i e (with_value w place.row place.col v i e)
  new_values i e row col in_rows in_cols = ⊎_elim
      (λ (s : i ≡ place.row). ⊎_elim
      (λ (t : e ≡ place.col). subst (HasValue f more i e) (sym (rw (s, t, eq-eqb place.row place.row refl, eq-eqb place.col place.col refl)))
      (record { cell = Free p; is = subst (λ (r : ℕ). slice_get f.places p ≡ Some (record { row = r; col = e })) (sym s) (subst (λ (k : ℕ). slice_get f.places p ≡ Some (record { row = place.row; col = k })) (sym t) here); value = sym there }))
      (λ (t : e ≢ place.col). subst (HasValue f more i e) (sym (rw (ne_eqb e place.col t, and_false (eqb i place.row)))) (other_value i e (λ k. t k.1) (values i e row col in_rows in_cols)))
      (cases_eq e place.col))
      (λ (s : i ≢ place.row). subst (HasValue f more i e) (sym (rw (ne_eqb i place.row s))) (other_value i e (λ k. s k.0) (values i e row col in_rows in_cols)))
      (cases_eq i place.row)
    where
      and_false : (b : Bool) → (b && false) ≡ false
      and_false true = refl
      and_false false = refl

  -- it is an assignment
  new_assigned : v < order f.field → IsAssignmentOf f more
  new_assigned small q some = ⊎_elim
      (λ (s : q ≡ p). (omega arith, subst (λ (k : ℕ). get_or more k 0 < order f.field) (sym s) (subst (λ (y : ℕ). y < order f.field) (sym there) small)))
      (λ (o : q ≢ p).
      let same : get_or more q 0 ≡ get_or a q 0 = get_or-set_other a p q v 0 o in
      let k = assigned q (λ z. some (same ∙ z)) in
      (k.0, subst (λ (y : ℕ). y < order f.field) (sym same) k.1))
      (cases_eq q p)

  -- under which the part is filled
  new_decided : 0 < v → IsDecided f more x
  new_decided positive q need = ⊎_elim
      (λ (s : q ≡ p). λ z. let e : v ≡ 0 = sym there ∙ subst (λ (k : ℕ). get_or more k 0 ≡ 0) s z in absurd (omega arith))
      (λ (o : q ≢ p). λ z. others q need o (sym (get_or-set_other a p q v 0 o) ∙ z))
      (cases_eq q p)

  -- the part has dependent columns
  abbrev PartDepends : Type 0
  PartDepends = Dependent f.field f.matroid.rank (is_element rows) f.matroid.elements (with_value w place.row place.col v) (is_element (minus x f.basis))

  -- what the test would answer
  verdict_at : 0 < v → v < order f.field → (basis independent : Bool) → IsTrue basis ↔ IsBasis f.matroid x → IsTrue independent ↔ (PartDepends → ⊥) → IsVerdict f more x (verdict_of basis independent)
  verdict_at positive small basis independent is tells =
      settled f kept.frame more x rows (with_value w place.row place.col v) set_of are new_values g.0 g.1 (new_decided positive) basis independent is tells
    where
      g : (g : Grid) × IsFilledBy f more g
      g = filled_grid f kept.frame more (new_assigned small) (λ i e. get_or cells (i * ELEMENTS + e) Zero) (λ i e row col. kept.cells_are i e row (let limit = kept.frame.limits.elements in omega arith))

  -- by that answer
  fails_from : (basis t : Bool) → IsVerdict f more x (verdict_of basis (not t)) → SetFails f more x ↔ (IsTrue basis ↔ (t ≡ true))
  fails_from true true is = ((λ _. ((λ _. refl), (λ _. refl))), (λ _. is))
  fails_from true false is = ((λ s. absurd (is.1 s)), (λ h. absurd (let e = h.0 refl in cc)))
  fails_from false true is = ((λ s. absurd (is.1 s)), (λ h. absurd (let e = h.1 refl in cc)))
  fails_from false false is = ((λ _. ((λ e. absurd (let k = e in cc)), (λ e. absurd (let k = e in cc)))), (λ _. is))

  -- a set that fails has a value there
  bounds : SetFails f more x → (0 < v) × (v < order f.field)
  bounds s = (
    (let ne : v ≢ 0 = λ z. s.decided p needs (there ∙ z) in omega arith),
    subst (λ (y : ℕ). y < order f.field) (s.filled.free p place here ∙ there)
        (subst (λ (k : Gf). entry s.matrix place.row place.col < order k) s.filled.field
        (entry-lt s.matrix s.filled.fits.grid place.row place.col (let r = s.filled.fits.rows in let l = edge.row in omega arith) (let n = s.filled.fits.cols in let l = edge.element in omega arith))),
  )

  -- the values for which the set fails
  pub fails_where : (basis : Bool) (dependent : List ℕ) → IsTrue basis ↔ IsBasis f.matroid x → Contains dependent v ↔ ((v < order f.field) × PartDepends) →
      ((0 < v) × (v < order f.field) × (IsTrue basis ↔ Contains dependent v)) ↔ SetFails f more x
  fails_where basis dependent is tells = (
    (λ h. (by_test h.0 h.1).1 ((λ b. is_element-from_Contains dependent v (h.2.0 b)), (λ t. h.2.1 (Contains-from_element dependent v t)))),
    (λ s.
        let b = bounds s in
        let k = (by_test b.0 b.1).0 s in
        (b.0, b.1, ((λ y. Contains-from_element dependent v (k.0 y)), (λ c. k.1 (is_element-from_Contains dependent v c))))),
  )
    where
      by_test : 0 < v → v < order f.field → SetFails f more x ↔ (IsTrue basis ↔ (is_element dependent v ≡ true))
      by_test positive small = fails_from basis (is_element dependent v) (verdict_at positive small basis (not (is_element dependent v)) is (
        (λ no d. both_ways (is_element dependent v) (not-true (is_element dependent v) no) (is_element-from_Contains dependent v (tells.1 (small, d)))),
        (λ never. no_true (is_element dependent v) (λ t. never (tells.0 (Contains-from_element dependent v t)).1)),
      ))
        where
          no_true : (b : Bool) → (b ≡ true → ⊥) → not b ≡ true
          no_true true h = absurd (h refl)
          no_true false h = refl

-- the column of a free position in the part of a set is one of the part, and its row's element of the basis is none
pub open_place : (f : Framed) (frame : IsFrame f) (x columns : List ℕ) (p : ℕ) (place : Edge) → slice_get f.places p ≡ Some place → Needs f x p → columns ≡ minus x f.basis →
    IsExchange f.matroid f.basis place.row place.col × Contains columns place.col × (Contains columns (get_or f.basis place.row 0) → ⊥) × (get_or f.basis place.row 0 < f.matroid.elements)
open_place f frame x columns p place here needs same =
    let edge : IsExchange f.matroid f.basis place.row place.col = place_exchange f frame place.row place.col (HasEdge-slice_get f.places p place here) in
    let has = (needs_at f x p place here).0 needs in
    let outside : is_element f.basis place.col ≡ false = no_element f.basis place.col edge.outside in
    let member : Contains f.basis (get_or f.basis place.row 0) = Contains-get_or f.basis place.row 0 (let size = frame.basis.basis.0.size in let row = edge.row in omega arith) in (
      edge,
      Contains-from_element columns place.col (ap (λ (ys : List ℕ). is_element ys place.col) same ∙ in_minus x f.basis place.col ∙ rw (outside, is_element-from_Contains x place.col has.0)),
      (λ h.
          let t : (not (is_element f.basis (get_or f.basis place.row 0)) ≡ true) × (is_element x (get_or f.basis place.row 0) ≡ true) =
          and_parts (not (is_element f.basis (get_or f.basis place.row 0))) (is_element x (get_or f.basis place.row 0))
          (sym (in_minus x f.basis (get_or f.basis place.row 0)) ∙ ap (λ (ys : List ℕ). is_element ys (get_or f.basis place.row 0)) (sym same) ∙ is_element-from_Contains columns (get_or f.basis place.row 0) h) in
          both_ways (is_element f.basis (get_or f.basis place.row 0)) (not-true (is_element f.basis (get_or f.basis place.row 0)) t.0) (is_element-from_Contains f.basis (get_or f.basis place.row 0) member)),
      element-lt f.matroid.elements f.basis frame.basis.basis.0.set (get_or f.basis place.row 0) (is_element-from_Contains f.basis (get_or f.basis place.row 0) member),
    )
  where
    no_element : (ys : List ℕ) (e : ℕ) → (Contains ys e → ⊥) → is_element ys e ≡ false
    no_element ys e never = ⊎_elim
        (λ (t : is_element ys e ≡ true). absurd (never (Contains-from_element ys e t)))
        (λ (o : is_element ys e ≡ false). o)
        (cases_Bool (is_element ys e))

-- so the place lies in the matrix, and its column is one of the part
pub place_inside : (f : Framed) (frame : IsFrame f) (x columns : List ℕ) (p : ℕ) (place : Edge) (r n : ℕ) → slice_get f.places p ≡ Some place → Needs f x p → columns ≡ minus x f.basis →
    r ≡ f.matroid.rank → n ≡ f.matroid.elements → (place.row < r) × (place.col < n) × Contains columns place.col
place_inside f frame x columns p place r n here needs same rank count =
    let at = open_place f frame x columns p place here needs same in
    (rw rank at.0.row, rw count at.0.element, at.1)

-- its row is one of the part
pub row_inside : (f : Framed) (frame : IsFrame f) (x rows : List ℕ) (p : ℕ) (place : Edge) → slice_get f.places p ≡ Some place → Needs f x p → AreRows f.basis x rows → Contains rows place.row
row_inside f frame x rows p place here needs are =
    let edge : IsExchange f.matroid f.basis place.row place.col = place_exchange f frame place.row place.col (HasEdge-slice_get f.places p place here) in
    (are place.row).1 ((let size = frame.basis.basis.0.size in let row = edge.row in omega arith), ((needs_at f x p place here).0 needs).1)

-- and the basis's element of the row is a column of the matrix outside of the part
pub spare_outside : (f : Framed) (frame : IsFrame f) (x columns : List ℕ) (p : ℕ) (place : Edge) (spare n : ℕ) → slice_get f.places p ≡ Some place → Needs f x p → columns ≡ minus x f.basis →
    spare ≡ get_or f.basis place.row 0 → n ≡ f.matroid.elements → (spare < n) × ¬ (Contains columns spare)
spare_outside f frame x columns p place spare n here needs same is count =
    let at = open_place f frame x columns p place here needs same in
    (rw (is, count) at.3, λ h. at.2 (subst (Contains columns) is h))

-- the values for which columns are dependent
abbrev AreDependentAt : List ℕ → List ℕ → Entries → Edge → Gf → ℕ → ℕ → List ℕ → Type 0
AreDependentAt rows dependent w place k r n columns = (v : ℕ) → Contains dependent v ↔ ((v < order k) × Dependent k r (is_element rows) n (with_value w place.row place.col v) (is_element columns))

-- the values for which the set fails
pub failing : (f : Framed) (cells : List Cell) (tests : List (List (List ℕ))) (a x rows columns : List ℕ) (w : Entries) (p : ℕ) (place : Edge) → IsKept f cells tests → slice_get f.places p ≡ Some place →
    p < length a → IsAssignmentOf f a → IsSetOf f.matroid.elements f.matroid.rank x → Needs f x p → ((q : ℕ) → Needs f x q → q ≢ p → get_or a q 0 ≢ 0) →
    AreRows f.basis x rows → p < length f.places → columns ≡ minus x f.basis →
    ((i e : ℕ) → i < f.matroid.rank → e < f.matroid.elements → Contains rows i → Contains columns e → HasValue f a i e (w i e)) →
    (k : Gf) (r n : ℕ) → k ≡ f.field → r ≡ f.matroid.rank → n ≡ f.matroid.elements → (dependent : List ℕ) →
    ((v : ℕ) → Contains dependent v ↔ ((v < order k) × Dependent k r (is_element rows) n (with_value w place.row place.col v) (is_element columns))) →
    (basis : Bool) (result : List ℕ) → IsTrue basis ↔ IsBasis f.matroid x → ((v : ℕ) → Contains result v ↔ ((0 < v) × (v < order k) × (IsTrue basis ↔ Contains dependent v))) →
    (v : ℕ) → Contains result v ↔ SetFails f (set a p v) x
failing f cells tests a x rows columns w p place kept here within assigned set_of needs others are inside same values k r n field rank count dependent tells basis result is answers v =
    let edge = (open_place f kept.frame x columns p place here needs same).0 in
    let tells' : AreDependentAt rows dependent w place f.field f.matroid.rank f.matroid.elements (minus x f.basis) =
    subst (λ (j : Gf). AreDependentAt rows dependent w place j f.matroid.rank f.matroid.elements (minus x f.basis)) field
    (subst (λ (j : ℕ). AreDependentAt rows dependent w place k j f.matroid.elements (minus x f.basis)) rank
    (subst (λ (j : ℕ). AreDependentAt rows dependent w place k r j (minus x f.basis)) count
    (subst (λ (ys : List ℕ). AreDependentAt rows dependent w place k r n ys) same tells))) in
    let answer : Contains result v ↔ ((0 < v) × (v < order f.field) × (IsTrue basis ↔ Contains dependent v)) =
    subst (λ (j : Gf). Contains result v ↔ ((0 < v) × (v < order j) × (IsTrue basis ↔ Contains dependent v))) field (answers v) in
    let last : ((0 < v) × (v < order f.field) × (IsTrue basis ↔ Contains dependent v)) ↔ SetFails f (set a p v) x =
    fails_where f cells tests kept a x rows w p v place here within assigned set_of needs others are edge inside
    (λ i e row col in_rows in_cols. values i e row col in_rows (subst (λ (ys : List ℕ). Contains ys e) (sym same) in_cols)) basis dependent is (tells' v) in
    ((λ h. last.0 (answer.0 h)), (λ s. answer.1 (last.1 s)))
