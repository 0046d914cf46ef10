-- For each free position those sets whose part has no later one.
use Rattle.std.proofs.Common.{ℕ, Bool, true, false, not, if◌then◌else◌, ◌+◌, ◌≡◌, ◌≢◌, ◌↔◌, List, [], ◌∷◌, ◌++◌, length, get_or, take, refl, sym, ap, subst, ◌∙◌, ⊎_elim, arith, length-append}
use Rattle.std.specs.Prelude.{◌<◌, ◌≤◌, Contains, MatchBool}
use Rattle.std.specs.List.Sorted.{IsStrictlySortedBy}
use Rattle.std.proofs.lemmas.Bool.{cases_eq, cases_lt}
use Rattle.std.proofs.lemmas.List.{get_or_default, get_or_push, get_or_append_left}
use Rattle.mr_set.specs.Subsets.{IsSetOf, list_cmp}
use Rattle.mr_graph.specs.declared.edge.Edge.{Edge}
use Rattle.mr_frame.specs.Frame.{Framed}
use Rattle.mr_frame.specs.Test.{Needs, NeedsLast}
use Rattle.mr_frame.specs.Private.Building.{HasLater, AreLast}
use Rattle.mr_frame.specs.Private.Kept.{IsKept, AreDue}
use Rattle.mr_frame.specs.declared.cell.Cell.{Cell}
use Rattle.mr_frame.proofs.Chosen.{chosen_step}
use Rattle.mr_frame.proofs.Needed.{needs_at}
use Rattle.mr_frame.proofs.Keeping.{read_tests}

-- so many lists
pub record AreDueTo (places : List Edge) (b : List ℕ) (tests due : List (List (List ℕ))) (n : ℕ) : Type 0 where
  pub count : length due ≡ n
  pub are : (p : ℕ) → p < n → AreLast places b p (get_or tests p []) (get_or due p [])

module _ (places : List Edge) (b : List ℕ) (tests : List (List (List ℕ))) where
  -- no list so far
  pub due_none : AreDueTo places b tests [] 0
  due_none = record { count = refl; are = λ p lt. absurd (omega arith) }

  -- one list more
  pub due_more : (due : List (List (List ℕ))) (n : ℕ) (sets : List (List ℕ)) → AreDueTo places b tests due n → AreLast places b n (get_or tests n []) sets → AreDueTo places b tests (due ++ sets ∷ []) (n + 1)
  due_more due n sets are new = record {
    count = length-append due (sets ∷ []) ∙ ap (λ (k : ℕ). k + 1) are.count;
    are = λ p lt. ⊎_elim
        (λ (same : p ≡ n).
        subst (λ (j : ℕ). AreLast places b j (get_or tests j []) (get_or (due ++ sets ∷ []) j [])) (sym same)
        (subst (AreLast places b n (get_or tests n [])) (sym (get_or_push due sets [] n are.count)) new))
        (λ (other : p ≢ n).
        let within : p < n = omega arith in
        subst (AreLast places b p (get_or tests p [])) (sym (get_or_append_left due (sets ∷ []) [] p (let s = are.count in omega arith))) (are.are p within))
        (cases_eq p n);
  }

module _ (f : Framed) (cells : List Cell) (tests due : List (List (List ℕ))) (kept : IsKept f cells tests) (are : AreDue f tests due) where
  -- the list that is read has the sets whose last position it is
  pub read_due : (p : ℕ) (sets : List (List ℕ)) → p < length f.places → sets ≡ get_or due p sets →
      IsStrictlySortedBy list_cmp sets × ((x : List ℕ) → Contains sets x ↔ (IsSetOf f.matroid.elements f.matroid.rank x × NeedsLast f x p))
  read_due p sets within read = (
    last.increasing,
    λ x. (
      (λ inside.
          let has = (last.exactly x).0 inside in
          let was = (all.1 x).0 has.0 in (
            was.0,
            record {
              needs = was.1;
              last = λ q needs. ⊎_elim (λ (lt : p < q). absurd (has.1 (q, needs.place, lt, needs.is, (needs.col, needs.row)))) (λ (le : q ≤ p). le) (cases_lt p q);
            },
          )),
      (λ h. (last.exactly x).1 ((all.1 x).1 (h.0, h.1.needs), λ (q, e, lt, is, has). let le = h.1.last q ((needs_at f x q e is).1 has) in absurd (omega arith))),
    ),
  )
    where
      small : p < length tests
      small = let count = kept.test_count in omega arith

      all : IsStrictlySortedBy list_cmp (get_or tests p []) × ((x : List ℕ) → Contains (get_or tests p []) x ↔ (IsSetOf f.matroid.elements f.matroid.rank x × Needs f x p))
      all = read_tests f cells tests kept p (get_or tests p []) within (get_or_default tests p [] (get_or tests p []) small)

      last : AreLast f.places f.basis p (get_or tests p []) sets
      last = subst (AreLast f.places f.basis p (get_or tests p [])) (sym (read ∙ get_or_default due p sets [] (let count = are.count in omega arith))) (are.are p small)

-- one set is chosen or not, by a test of whether its part has a later place
pub last_step : (places : List Edge) (b : List ℕ) (p : ℕ) (sets chosen : List (List ℕ)) (i : ℕ) (x : List ℕ) (later : Bool) (after : List (List ℕ)) → i < length sets → AreLast places b p (take i sets) chosen → IsStrictlySortedBy list_cmp sets →
    x ≡ get_or sets i [] → MatchBool later (HasLater places b p x) (¬ (HasLater places b p x)) → after ≡ (if not later then chosen ++ x ∷ [] else chosen) → AreLast places b p (take (i + 1) sets) after
last_step places b p sets chosen i x true after within are sorted here has is = chosen_step (λ y. ¬ (HasLater places b p y)) sets chosen i x false after within are sorted here (λ none. none has) is
last_step places b p sets chosen i x false after within are sorted here none is = chosen_step (λ y. ¬ (HasLater places b p y)) sets chosen i x true after within are sorted here none is
