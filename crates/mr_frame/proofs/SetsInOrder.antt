-- Sets of one size, gone through in order, of which some are taken.
use Rattle.std.proofs.Common.{ℕ, ◌≡◌, ◌⊎◌, List, [], ◌∷◌, ◌++◌, sym, subst, ⊎_elim, inl, inr}
use Rattle.std.specs.Prelude.{Contains}
use Rattle.std.specs.List.Sorted.{IsStrictlySortedBy}
use Rattle.std.proofs.lemmas.Cmp.{nat_list_cmp_total}
use Rattle.std.proofs.lemmas.List.Elements.{Contains-append_left, Contains-append_right, Contains-append_cases}
use Rattle.mr_set.specs.Subsets.{IsSetOf, IsBefore, IsFirst, IsNext, IsLast, list_cmp}
use Rattle.mr_set.proofs.Ordered.{member_first, member_cases, member_none, sorted_join}
use Rattle.mr_matroid.proofs.Walk.{compare}
use Rattle.mr_frame.specs.Private.Building.{AreSets, IsListedBefore, IsListedThrough}

-- no sets are in order
pub sorted_none : IsStrictlySortedBy list_cmp []
unfolding IsStrictlySortedBy
sorted_none = tt

-- so is one alone
pub sorted_one : (x : List ℕ) → IsStrictlySortedBy list_cmp (x ∷ [])
unfolding IsStrictlySortedBy
sorted_one x = (tt, tt)

-- the only member
pub only : (x y : List ℕ) → Contains (x ∷ []) y → y ≡ x
only x y inside = ⊎_elim (λ (p : x ≡ y). sym p) (λ (p : Contains [] y). absurd (member_none y p)) (member_cases x [] y inside)

module _ (n r : ℕ) (P : List ℕ → Type 0) where
  -- before the first set there is none
  pub before_first : (s : List ℕ) → IsFirst n r s → IsListedBefore n r P s []
  before_first s first = record {
    increasing = sorted_none;
    exactly = λ x. ((λ inside. absurd (member_none x inside)), (λ h. absurd (first.least x h.0 h.1.1)));
  }

  -- a set that is taken
  pub through_more : (s : List ℕ) (sets : List (List ℕ)) → IsListedBefore n r P s sets → IsSetOf n r s → P s → IsListedThrough n r P s (sets ++ s ∷ [])
  through_more s sets h set is = record {
    increasing = sorted_join list_cmp sets (s ∷ []) h.increasing (sorted_one s) (λ x y here there. subst (λ (z : List ℕ). IsBefore x z) (sym (only s y there)) ((h.exactly x).0 here).1.1);
    exactly = λ x. (
      (λ inside. ⊎_elim
          (λ (p : Contains sets x). let was = (h.exactly x).0 p in (was.0, (was.1.0, inl was.1.1)))
          (λ (p : Contains (s ∷ []) x). let same : x ≡ s = only s x p in (subst (IsSetOf n r) (sym same) set, (subst P (sym same) is, inr same)))
          (Contains-append_cases sets (s ∷ []) x inside)),
      (λ y. ⊎_elim
          (λ (p : IsBefore x s). Contains-append_left sets (s ∷ []) x ((h.exactly x).1 (y.0, (y.1.0, p))))
          (λ (p : x ≡ s). Contains-append_right sets (s ∷ []) x (subst (λ (z : List ℕ). Contains (s ∷ []) z) (sym p) (member_first s [])))
          y.1.1),
    );
  }

  -- the next set
  pub before_next : (s t : List ℕ) (sets : List (List ℕ)) → IsSetOf n r s → IsNext n s t → IsListedThrough n r P s sets → IsListedBefore n r P t sets
  before_next s t sets set next h = record {
    increasing = h.increasing;
    exactly = λ x. (
      (λ inside. let was = (h.exactly x).0 inside in (
        was.0,
        (
          was.1.0,
          ⊎_elim
              (λ (p : IsBefore x s). nat_list_cmp_total.trans x s t p next.after)
              (λ (p : x ≡ s). subst (λ (z : List ℕ). IsBefore z t) (sym p) next.after)
              was.1.1,
        ),
      )),
      (λ is. (h.exactly x).1 (
        is.0,
        (
          is.1.0,
          ⊎_elim
              (λ (p : IsBefore x s). inl p)
              (λ (q : (x ≡ s) ⊎ IsBefore s x). ⊎_elim
              (λ (p : x ≡ s). inr p)
              (λ (p : IsBefore s x). absurd (next.none_between x (subst (λ (k : ℕ). IsSetOf n k x) (sym set.size) is.0) p is.1.1)) q)
              (compare x s),
        ),
      )),
    );
  }

  -- after the last set all are there
  pub through_last : (s : List ℕ) (sets : List (List ℕ)) → IsSetOf n r s → IsLast n s → IsListedThrough n r P s sets → AreSets n r P sets
  through_last s sets set last h = record {
    increasing = h.increasing;
    exactly = λ x. (
      (λ inside. let was = (h.exactly x).0 inside in (was.0, was.1.0)),
      (λ is. (h.exactly x).1 (
        is.0,
        (
          is.1,
          ⊎_elim
              (λ (p : IsBefore x s). inl p)
              (λ (q : (x ≡ s) ⊎ IsBefore s x). ⊎_elim
              (λ (p : x ≡ s). inr p)
              (λ (p : IsBefore s x). absurd (last x (subst (λ (k : ℕ). IsSetOf n k x) (sym set.size) is.0) p)) q)
              (compare x s),
        ),
      )),
    );
  }
