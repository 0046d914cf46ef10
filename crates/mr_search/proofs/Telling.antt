-- It is told of each assignment whether a set fails under it.
use Rattle.std.proofs.Common.{◌≡◌, ◌≢◌, ℕ, ◌<◌, ◌≤◌, ◌⊎◌, true, false, List, [], ◌∷◌, length, get_or, subst, ⊎_elim, inl, inr}
use Rattle.std.specs.Prelude.{Contains, Some, slice_get}
use Rattle.std.proofs.lemmas.Bool.{cases_eq, cases_Bool, both_ways}
use Rattle.std.proofs.lemmas.Option.{slice_get_within, slice_get-get_or}
use Rattle.mr_set.specs.Elements.{is_element, minus, numbers_below}
use Rattle.mr_set.specs.Subsets.{IsSetOf}
use Rattle.mr_set.specs.Places.{IsAllSets}
use Rattle.mr_set.specs.Matroid.{IsBasis}
use Rattle.mr_set.proofs.Members.{Contains-from_element, is_element-from_Contains}
use Rattle.mr_set.proofs.Ordered.{member_first, member_later, member_cases, member_none}
use Rattle.mr_set.proofs.Tests.{count}
use Rattle.mr_set.proofs.Uniqueness.{sets-listed}
use Rattle.mr_graph.specs.declared.edge.Edge.{Edge}
use Rattle.mr_linear.specs.Matrix.{Grid, height, entry, rows_outside, PartIsDependent, PartIsIndependent}
use Rattle.mr_linear.proofs.Pivots.{below_all}
use Rattle.mr_linear.proofs.Dependence.{OnlyZero, OnlyZero-independent, verdict}
use Rattle.mr_frame.specs.Frame.{Framed, IsFrame}
use Rattle.mr_frame.specs.Test.{IsAssignmentOf, IsFilledBy, IsDecided, Needs, SetFails}
use Rattle.mr_frame.proofs.Filled.{assignments_fill, listed_or_not}
use Rattle.mr_frame.proofs.Needed.{needs_at}
use Rattle.mr_frame.proofs.OneVerdict.{one_filled_matrix}

-- where a claim is told of each member of a list, one is as it says or none
pub found_or_none : {X : Type 0} (P : X → Type 0) (xs : List X) → ((x : X) → Contains xs x → P x ⊎ ¬ (P x)) → ((x : X) × Contains xs x × P x) ⊎ ((x : X) → Contains xs x → ¬ (P x))
found_or_none P [] told = inr (λ x inside. absurd (member_none x inside))
found_or_none {X} P (y ∷ ys) told = ⊎_elim
    (λ (holds : P y). inl (y, member_first y ys, holds))
    (λ (none : ¬ (P y)). ⊎_elim
    (λ (found : (x : X) × Contains ys x × P x). inl (found.0, member_later y ys found.0 found.1, found.2))
    (λ (no_more : (x : X) → Contains ys x → ¬ (P x)). inr (λ x inside. ⊎_elim
    (λ (is : y ≡ x). subst (λ z. ¬ (P z)) is none)
    (λ (later : Contains ys x). no_more x later)
    (member_cases y ys x inside)))
    (found_or_none P ys (λ x later. told x (member_later y ys x later))))
    (told y (member_first y ys))

-- a number is an element of a list or not
element_or_not : (xs : List ℕ) (e : ℕ) → Contains xs e ⊎ ¬ (Contains xs e)
element_or_not xs e = ⊎_elim
    (λ (inside : is_element xs e ≡ true). inl (Contains-from_element xs e inside))
    (λ (out : is_element xs e ≡ false). inr (λ has. both_ways (is_element xs e) out (is_element-from_Contains xs e has)))
    (cases_Bool (is_element xs e))

module _ (f : Framed) (a x : List ℕ) where
  -- the part of the set has this position, and it has no value
  abbrev IsOpenAt : ℕ → Type 0
  IsOpenAt p = Needs f x p × (get_or a p 0 ≡ 0)

  -- that is told of each position
  open_or_not : (p : ℕ) → p < length f.places → IsOpenAt p ⊎ ¬ (IsOpenAt p)
  open_or_not p lt =
      let none : Edge = record { row = 0; col = 0 } in
      let place : Edge = get_or f.places p none in
      let is : slice_get f.places p ≡ Some place = slice_get-get_or f.places p none lt in
      ⊎_elim
      (λ (row : Contains x (get_or f.basis place.row 0)). inr (λ at_open. ((needs_at f x p place is).0 at_open.0).1 row))
      (λ (no_row : ¬ (Contains x (get_or f.basis place.row 0))). ⊎_elim
      (λ (col : Contains x place.col). ⊎_elim
      (λ (free : get_or a p 0 ≡ 0). inl ((needs_at f x p place is).1 (col, no_row), free))
      (λ (value : get_or a p 0 ≢ 0). inr (λ at_open. value at_open.1))
      (cases_eq (get_or a p 0) 0))
      (λ (no_col : ¬ (Contains x place.col)). inr (λ at_open. no_col ((needs_at f x p place is).0 at_open.0).0))
      (element_or_not x place.col))
      (element_or_not x (get_or f.basis place.row 0))

  -- so each position of the part has a value, or one has none
  decided_or_not : IsDecided f a x ⊎ ¬ (IsDecided f a x)
  decided_or_not = ⊎_elim
      (λ (found : (p : ℕ) × Contains (numbers_below (length f.places)) p × IsOpenAt p). inr (λ decided. decided found.0 found.2.0 found.2.1))
      (λ (none : (p : ℕ) → Contains (numbers_below (length f.places)) p → ¬ (IsOpenAt p)). inl (λ p needs free. none p ((below_all (length f.places) p).1 (slice_get_within f.places p needs.place needs.is)) (needs, free)))
      (found_or_none IsOpenAt (numbers_below (length f.places)) (λ p inside. open_or_not p ((below_all (length f.places) p).0 inside)))

  module _ (g : Grid) (filled : IsFilledBy f a g) (set : IsSetOf f.matroid.elements f.matroid.rank x) (decided : IsDecided f a x) where
    -- the columns of the set's part are dependent or independent
    part_or_not : PartIsDependent g f.basis x ⊎ PartIsIndependent g f.basis x
    part_or_not = ⊎_elim
        (λ (dependent : PartIsDependent g f.basis x). inl dependent)
        (λ (only : OnlyZero g.field (height g) (rows_outside f.basis x) g.cols (entry g) (is_element (minus x f.basis)) × (count g.cols (is_element (minus x f.basis)) ≤ count (height g) (rows_outside f.basis x))).
        inr (OnlyZero-independent g.field (height g) (rows_outside f.basis x) g.cols (entry g) (is_element (minus x f.basis)) only.0))
        (verdict g.field (height g) (rows_outside f.basis x) g.cols (entry g) (is_element (minus x f.basis)))

    -- it fails by this matrix
    fails_by : ((¬ (IsBasis f.matroid x)) × PartIsIndependent g f.basis x) ⊎ (IsBasis f.matroid x × PartIsDependent g f.basis x) → SetFails f a x
    fails_by why = record { size = set; decided = decided; matrix = g; filled = filled; fails = why }

    -- and where it fails, then so
    fails_so : SetFails f a x → ((¬ (IsBasis f.matroid x)) × PartIsIndependent g f.basis x) ⊎ (IsBasis f.matroid x × PartIsDependent g f.basis x)
    fails_so fails = subst (λ (h : Grid). ((¬ (IsBasis f.matroid x)) × PartIsIndependent h f.basis x) ⊎ (IsBasis f.matroid x × PartIsDependent h f.basis x)) (one_filled_matrix f a fails.matrix g fails.filled filled) fails.fails

    -- a set whose part is decided fails or not
    settled : Contains f.matroid.nonbases x ⊎ ¬ (Contains f.matroid.nonbases x) → PartIsDependent g f.basis x ⊎ PartIsIndependent g f.basis x → SetFails f a x ⊎ ¬ (SetFails f a x)
    settled (inl listed) (inl dependent) = inr (λ fails. ⊎_elim
        (λ (p : (¬ (IsBasis f.matroid x)) × PartIsIndependent g f.basis x). p.1 dependent)
        (λ (p : IsBasis f.matroid x × PartIsDependent g f.basis x). p.0.1 listed)
        (fails_so fails))
    settled (inl listed) (inr independent) = inl (fails_by (inl ((λ basis. basis.1 listed), independent)))
    settled (inr out) (inl dependent) = inl (fails_by (inr ((set, out), dependent)))
    settled (inr out) (inr independent) = inr (λ fails. ⊎_elim
        (λ (p : (¬ (IsBasis f.matroid x)) × PartIsIndependent g f.basis x). p.0 (set, out))
        (λ (p : IsBasis f.matroid x × PartIsDependent g f.basis x). independent p.1)
        (fails_so fails))

module _ (f : Framed) (frame : IsFrame f) (a : List ℕ) (assigned : IsAssignmentOf f a) where
  -- a set fails or not
  fails_or_not : (x : List ℕ) → IsSetOf f.matroid.elements f.matroid.rank x → SetFails f a x ⊎ ¬ (SetFails f a x)
  fails_or_not x set =
      let g = assignments_fill f a frame assigned in
      ⊎_elim
      (λ (decided : IsDecided f a x). settled f a x g.0 g.1 set decided (listed_or_not f.matroid.nonbases x) (part_or_not f a x g.0 g.1 set decided))
      (λ (undecided : ¬ (IsDecided f a x)). inr (λ fails. undecided fails.decided))
      (decided_or_not f a x)

  -- so some set fails, or none
  pub some_fails_or_none : ((x : List ℕ) × SetFails f a x) ⊎ ((x : List ℕ) → ¬ (SetFails f a x))
  some_fails_or_none =
      let all = sets-listed f.matroid.elements f.matroid.rank in
      let sets : IsAllSets f.matroid.elements f.matroid.rank all.0 = all.1 in
      ⊎_elim
      (λ (found : (x : List ℕ) × Contains all.0 x × SetFails f a x). inl (found.0, found.2))
      (λ (none : (x : List ℕ) → Contains all.0 x → ¬ (SetFails f a x)). inr (λ x fails. none x ((sets.exactly x).1 fails.size) fails))
      (found_or_none (SetFails f a) all.0 (λ x inside. fails_or_not x ((sets.exactly x).0 inside)))
