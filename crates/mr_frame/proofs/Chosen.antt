-- Those of the sets in a list that are as a property says, chosen one by one.
use Rattle.std.proofs.Common.{ℕ, Bool, true, false, if◌then◌else◌, ◌+◌, ◌≡◌, List, [], ◌∷◌, ◌++◌, length, get_or, take, sym, ap, subst, ◌∙◌, ⊎_elim, arith, length-take}
use Rattle.std.specs.Prelude.{◌<◌, Contains, MatchBool, Some}
use Rattle.std.specs.List.Sorted.{IsStrictlySortedBy}
use Rattle.std.proofs.lemmas.List.{take_more, get_or-take, get_or_default}
use Rattle.std.proofs.lemmas.List.Elements.{Contains-append_left, Contains-append_right, Contains-append_cases}
use Rattle.std.proofs.lemmas.Option.{slice_get-get_or}
use Rattle.mr_set.specs.Subsets.{IsBefore, list_cmp}
use Rattle.mr_set.specs.Places.{IsAllSets}
use Rattle.mr_set.proofs.Ordered.{member_none, later_is_greater, sorted_join}
use Rattle.mr_frame.specs.Private.Building.{AreSets, AreChosen}
use Rattle.mr_frame.proofs.SetsInOrder.{sorted_none, sorted_one, only}

module _ (P : List ℕ → Type 0) where
  -- of no sets none are chosen
  pub chosen_none : AreChosen P [] []
  chosen_none = record { increasing = sorted_none; exactly = λ x. ((λ has. absurd (member_none x has)), (λ h. absurd (member_none x h.0))) }

  module _ (sets chosen : List (List ℕ)) (i : ℕ) (within : i < length sets) (are : AreChosen P (take i sets) chosen) where
    -- the sets with one more
    more : take (i + 1) sets ≡ take i sets ++ get_or sets i [] ∷ []
    more = take_more sets i [] within

    -- a set that isn't chosen
    pub chosen_passed : (P (get_or sets i []) → ⊥) → AreChosen P (take (i + 1) sets) chosen
    chosen_passed never = subst (λ (xs : List (List ℕ)). AreChosen P xs chosen) (sym more) (record {
      increasing = are.increasing;
      exactly = λ x. (
        (λ has. let was = (are.exactly x).0 has in (Contains-append_left (take i sets) (get_or sets i [] ∷ []) x was.0, was.1)),
        (λ h. ⊎_elim
            (λ (old : Contains (take i sets) x). (are.exactly x).1 (old, h.1))
            (λ (new : Contains (get_or sets i [] ∷ []) x). absurd (never (subst P (only (get_or sets i []) x new) h.1)))
            (Contains-append_cases (take i sets) (get_or sets i [] ∷ []) x h.0)),
      );
    })

    -- a set that is
    pub chosen_taken : IsStrictlySortedBy list_cmp sets → P (get_or sets i []) → AreChosen P (take (i + 1) sets) (chosen ++ get_or sets i [] ∷ [])
    chosen_taken sorted is = subst (λ (xs : List (List ℕ)). AreChosen P xs (chosen ++ get_or sets i [] ∷ [])) (sym more) (record {
      increasing = sorted_join list_cmp chosen (get_or sets i [] ∷ []) are.increasing (sorted_one (get_or sets i [])) (λ x y here there.
          let (j, lt, at_j) = ((are.exactly x).0 here).0 in
          let count = length-take i sets in
          let low : j < i = omega arith in
          let at : get_or sets j [] ≡ x = get_or_default sets j [] x (omega arith) ∙ sym (get_or-take i sets j x low) ∙ at_j in
          subst (λ (z : List ℕ). IsBefore x z) (sym (only (get_or sets i []) y there))
          (later_is_greater list_cmp sets j i x (get_or sets i []) sorted (slice_get-get_or sets j [] (omega arith) ∙ ap Some at) (slice_get-get_or sets i [] within) low));
      exactly = λ x. (
        (λ has. ⊎_elim
            (λ (old : Contains chosen x). let was = (are.exactly x).0 old in (Contains-append_left (take i sets) (get_or sets i [] ∷ []) x was.0, was.1))
            (λ (new : Contains (get_or sets i [] ∷ []) x).
            let same : x ≡ get_or sets i [] = only (get_or sets i []) x new in
            (Contains-append_right (take i sets) (get_or sets i [] ∷ []) x new, subst P (sym same) is))
            (Contains-append_cases chosen (get_or sets i [] ∷ []) x has)),
        (λ h. ⊎_elim
            (λ (old : Contains (take i sets) x). Contains-append_left chosen (get_or sets i [] ∷ []) x ((are.exactly x).1 (old, h.1)))
            (λ (new : Contains (get_or sets i [] ∷ []) x). Contains-append_right chosen (get_or sets i [] ∷ []) x new)
            (Contains-append_cases (take i sets) (get_or sets i [] ∷ []) x h.0)),
      );
    })

-- one set is chosen or not
pub chosen_step : (P : List ℕ → Type 0) (sets chosen : List (List ℕ)) (i : ℕ) (x : List ℕ) (wanted : Bool) (after : List (List ℕ)) → i < length sets → AreChosen P (take i sets) chosen → IsStrictlySortedBy list_cmp sets →
    x ≡ get_or sets i [] → MatchBool wanted (P x) (¬ (P x)) → after ≡ (if wanted then chosen ++ x ∷ [] else chosen) → AreChosen P (take (i + 1) sets) after
chosen_step P sets chosen i x true after within are sorted here has is =
    subst (AreChosen P (take (i + 1) sets)) (sym (is ∙ ap (λ (y : List ℕ). chosen ++ y ∷ []) here)) (chosen_taken P sets chosen i within are sorted (subst P here has))
chosen_step P sets chosen i x false after within are sorted here never is =
    subst (AreChosen P (take (i + 1) sets)) (sym is) (chosen_passed P sets chosen i within are (λ has. never (subst P (sym here) has)))

-- those of all sets of a size
pub chosen_sets : (P : List ℕ → Type 0) (n r : ℕ) (sets chosen : List (List ℕ)) → IsAllSets n r sets → AreChosen P sets chosen → AreSets n r P chosen
chosen_sets P n r sets chosen all are = record {
  increasing = are.increasing;
  exactly = λ x. (
    (λ has. let was = (are.exactly x).0 has in ((all.exactly x).0 was.0, was.1)),
    (λ h. (are.exactly x).1 ((all.exactly x).1 h.0, h.1)),
  );
}
