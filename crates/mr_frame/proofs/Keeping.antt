-- What the parts that a frame keeps tell of its value.
use Rattle.std.proofs.Common.{ℕ, ◌+◌, ◌*◌, ◌≡◌, ◌≢◌, ◌⊎◌, ◌↔◌, Bool, true, false, List, [], length, get_or, refl, sym, subst, ◌∙◌, ⊎_elim, inl, inr, arith, ne_eqb, eq-eqb, eqb, ◌||◌}
use Rattle.std.specs.Prelude.{◌<◌, Contains, Some, slice_get}
use Rattle.std.specs.List.Sorted.{IsStrictlySortedBy}
use Rattle.std.proofs.lemmas.Bool.{cases_eq}
use Rattle.std.proofs.lemmas.List.{get_or_default}
use Rattle.std.proofs.lemmas.Option.{slice_get-get_or}
use Rattle.mr_set.specs.declared.TheConstants.{ELEMENTS}
use Rattle.mr_set.specs.Elements.{is_element, with_element}
use Rattle.mr_set.specs.Subsets.{IsSetOf, list_cmp}
use Rattle.mr_set.proofs.Members.{is_element-with, is_element-from_Contains, Contains-from_element}
use Rattle.mr_graph.specs.declared.edge.Edge.{Edge}
use Rattle.mr_graph.proofs.Edges.{HasEdge-get_or}
use Rattle.mr_frame.specs.Frame.{Framed, IsExchange}
use Rattle.mr_frame.specs.Test.{IsCell, Needs}
use Rattle.mr_frame.specs.Private.Building.{AreSets, HasAndNot}
use Rattle.mr_frame.specs.Private.Filling.{AreRows}
use Rattle.mr_frame.specs.Private.Kept.{IsKept, AreDueParts}
use Rattle.mr_frame.specs.declared.cell.Cell.{Cell}
use Rattle.mr_frame.specs.declared.cell.Cell.TheVariants.{Zero}
use Rattle.mr_frame.specs.declared.part.Part.{Part}
use Rattle.mr_frame.proofs.Needed.{needs_at}
use Rattle.mr_frame.proofs.Uniqueness.{place_exchange}

-- what is kept of a value is kept of what a clause calls it
pub kept_now : {f g : Framed} {cells : List Cell} {tests : List (List (List ℕ))} → f ≡ g → IsKept f cells tests → IsKept g cells tests
kept_now {cells = cells} {tests = tests} same kept = subst (λ (h : Framed). IsKept h cells tests) same kept

-- so is what is kept of the sets of the last positions
pub due_now : {f g : Framed} {tests : List (List (List ℕ))} {parts : List (List Part)} → f ≡ g → AreDueParts f tests parts → AreDueParts g tests parts
due_now {tests = tests} {parts = parts} same are = subst (λ (h : Framed). AreDueParts h tests parts) same are

module _ (f : Framed) (cells : List Cell) (tests : List (List (List ℕ))) (kept : IsKept f cells tests) where
  -- the cell that is read is the one there
  pub read_cell : (i e : ℕ) (c : Cell) → i < f.matroid.rank → e < ELEMENTS → c ≡ get_or cells (i * ELEMENTS + e) c → IsCell f i e c
  read_cell i e c row col read =
      let within : i * ELEMENTS + e < length cells = let count = kept.cell_count in omega arith in
      subst (IsCell f i e) (sym (read ∙ get_or_default cells (i * ELEMENTS + e) c Zero within)) (kept.cells_are i e row col)

  -- a free position is an edge
  pub place_at : (p : ℕ) (d : Edge) → p < length f.places → IsExchange f.matroid f.basis (get_or f.places p d).row (get_or f.places p d).col
  place_at p d within = place_exchange f kept.frame _ _ (HasEdge-get_or f.places p d within)

  -- its row and column are small
  pub place_small : (p : ℕ) (d : Edge) → p < length f.places → ((get_or f.places p d).row < ELEMENTS) × ((get_or f.places p d).col < ELEMENTS)
  place_small p d within =
      let edge = place_at p d within in
      let limit = kept.frame.limits.elements in
      let flat = kept.frame.matroid.presentation.rank in
      let row = edge.row in
      let col = edge.element in
      (omega arith, omega arith)

  -- the list that is read has the sets that need the position
  pub read_tests : (p : ℕ) (sets : List (List ℕ)) → p < length f.places → sets ≡ get_or tests p sets →
      IsStrictlySortedBy list_cmp sets × ((x : List ℕ) → Contains sets x ↔ (IsSetOf f.matroid.elements f.matroid.rank x × Needs f x p))
  read_tests p sets within read = (
    are.increasing,
    λ x. (
      (λ inside. let has = (are.exactly x).0 inside in (has.0, (needs_at f x p place here).1 has.1)),
      (λ h. (are.exactly x).1 (h.0, (needs_at f x p place here).0 h.1)),
    ),
  )
    where
      place : Edge
      place = get_or f.places p (record { row = 0; col = 0 })

      here : slice_get f.places p ≡ Some place
      here = slice_get-get_or f.places p (record { row = 0; col = 0 }) within

      are : AreSets f.matroid.elements f.matroid.rank (HasAndNot place.col (get_or f.basis place.row 0)) sets
      are = subst (AreSets f.matroid.elements f.matroid.rank (HasAndNot place.col (get_or f.basis place.row 0)))
          (sym (read ∙ get_or_default tests p sets [] (let count = kept.test_count in omega arith))) (kept.tests_are p place here)

-- the first rows, those whose elements of b lie outside of x
abbrev pub AreRowsBelow : List ℕ → List ℕ → List ℕ → ℕ → Type 0
AreRowsBelow b x rows n = (i : ℕ) → Contains rows i ↔ ((i < n) × ¬ (Contains x (get_or b i 0)))

-- a row that isn't taken
pub rows_same : (b x rows : List ℕ) (n : ℕ) → AreRowsBelow b x rows n → Contains x (get_or b n 0) → AreRowsBelow b x rows (n + 1)
rows_same b x rows n are inside i = (
  (λ h. let was = (are i).0 h in (let lt = was.0 in omega arith, was.1)),
  (λ h. ⊎_elim
      (λ (same : i ≡ n). absurd (h.1 (subst (λ (k : ℕ). Contains x (get_or b k 0)) (sym same) inside)))
      (λ (other : i ≢ n). (are i).1 (let lt = h.0 in omega arith, h.1))
      (cases_eq i n)),
)

-- an element of a set with one more
with_cases : (e k : ℕ) (rows : List ℕ) → Contains (with_element e rows) k → (k ≡ e) ⊎ Contains rows k
with_cases e k rows inside = ⊎_elim
    (λ (same : k ≡ e). inl same)
    (λ (other : k ≢ e). inr (Contains-from_element rows k (sym (rest other) ∙ is_element-from_Contains (with_element e rows) k inside)))
    (cases_eq k e)
  where
    rest : k ≢ e → is_element (with_element e rows) k ≡ is_element rows k
    rest other = is_element-with e k rows ∙ rw (ne_eqb k e other) refl

-- the old elements stay
with_old : (e k : ℕ) (rows : List ℕ) → Contains rows k → Contains (with_element e rows) k
with_old e k rows inside = Contains-from_element (with_element e rows) k (is_element-with e k rows ∙ either (eqb k e) (is_element rows k) (is_element-from_Contains rows k inside))
  where
    either : (p q : Bool) → q ≡ true → (p || q) ≡ true
    either true q is = refl
    either false q is = is

-- the new one is there
with_new : (e : ℕ) (rows : List ℕ) → Contains (with_element e rows) e
with_new e rows = Contains-from_element (with_element e rows) e (is_element-with e e rows ∙ rw (eq-eqb e e refl) refl)

-- a row that is taken
pub rows_more : (b x rows more : List ℕ) (n : ℕ) → AreRowsBelow b x rows n → (Contains x (get_or b n 0) → ⊥) → more ≡ with_element n rows → AreRowsBelow b x more (n + 1)
rows_more b x rows more n are outside made i = subst (λ (ys : List ℕ). Contains ys i ↔ ((i < n + 1) × ¬ (Contains x (get_or b i 0)))) (sym made) (
  (λ h. ⊎_elim
      (λ (same : i ≡ n). (omega arith, subst (λ (k : ℕ). Contains x (get_or b k 0) → ⊥) (sym same) outside))
      (λ (old : Contains rows i). let was = (are i).0 old in (let lt = was.0 in omega arith, was.1))
      (with_cases n i rows h)),
  (λ h. ⊎_elim
      (λ (same : i ≡ n). subst (Contains (with_element n rows)) (sym same) (with_new n rows))
      (λ (other : i ≢ n). with_old n i rows ((are i).1 (let lt = h.0 in omega arith, h.1)))
      (cases_eq i n)),
)

-- the part has the position just where its row is one of the rows and its column is in the set
pub needs_by_rows : (f : Framed) (x rows : List ℕ) (p : ℕ) (place : Edge) → AreRows f.basis x rows → place.row < length f.basis → slice_get f.places p ≡ Some place → Needs f x p ↔ (Contains rows place.row × Contains x place.col)
needs_by_rows f x rows p place are row is = (
  (λ needs. let has = (needs_at f x p place is).0 needs in ((are place.row).1 (row, has.1), has.0)),
  (λ h. (needs_at f x p place is).1 (h.1, ((are place.row).0 h.0).1)),
)

-- what the place of a free position tells
pub read_place : (f : Framed) (cells : List Cell) (tests : List (List (List ℕ))) (x rows : List ℕ) (xs : List Edge) (p : ℕ) → IsKept f cells tests → xs ≡ f.places → p < length f.places → AreRows f.basis x rows →
    let place = get_or xs p (record { row = 0; col = 0 }) in (place.row < ELEMENTS) × (place.col < ELEMENTS) × (Needs f x p ↔ (Contains rows place.row × Contains x place.col))
read_place f cells tests x rows xs p kept same within are = rw same (small.0, small.1, needs_by_rows f x rows p (get_or f.places p (record { row = 0; col = 0 })) are row (slice_get-get_or f.places p (record { row = 0; col = 0 }) within))
  where
    small : ((get_or f.places p (record { row = 0; col = 0 })).row < ELEMENTS) × ((get_or f.places p (record { row = 0; col = 0 })).col < ELEMENTS)
    small = place_small f cells tests kept p (record { row = 0; col = 0 }) within

    row : (get_or f.places p (record { row = 0; col = 0 })).row < length f.basis
    row = let lt = (place_at f cells tests kept p (record { row = 0; col = 0 }) within).row in let size = kept.frame.basis.basis.0.size in omega arith
