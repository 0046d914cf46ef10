-- The tests' plain listing of all forms.
use Rattle.std.proofs.Common.{ℕ, ◌+◌, ◌<◌, ◌≤◌, ◌≡◌, ◌≢◌, ◌↔◌, List, [], ◌∷◌, ◌++◌, length, get_or, set, refl, sym, ap, subst, ◌∙◌, ⊎_elim, arith, get_or-set_other, get_or-set_same}
use Rattle.std.specs.Prelude.{Contains}
use Rattle.std.specs.List.Sorted.{IsStrictlySortedBy}
use Rattle.std.specs.declared.cmp.Ordering.TheVariants.{Less}
use Rattle.std.proofs.Math.ListN.{length-set}
use Rattle.std.proofs.lemmas.Bool.{cases_eq, cases_lt}
use Rattle.std.proofs.lemmas.List.{ext_get_or, length-replicate}
use Rattle.std.proofs.lemmas.List.Elements.{All-from_get_or, Contains-append_left, Contains-append_right, Contains-append_cases, Contains-push, Contains-push_cases}
use Rattle.mr_field.specs.Gf.{order}
use Rattle.mr_field.proofs.Lookups.{order-le}
use Rattle.mr_set.specs.Subsets.{list_cmp}
use Rattle.mr_set.proofs.Ordered.{member_none, sorted_join}
use Rattle.mr_assign.specs.declared.TheConstants.{POSITIONS, VALUES}
use Rattle.mr_assign.specs.Assign.{no_values}
use Rattle.mr_frame.specs.Frame.{Framed, IsFrame}
use Rattle.mr_frame.specs.Test.{IsAssignmentOf, SetFails}
use Rattle.mr_frame.specs.Completion.{IsCompletion}
use Rattle.mr_class.proofs.Reading.{few}
use Rattle.mr_auto.specs.Private.Trial.{IsStart, AreAll}
use Rattle.mr_assign.proofs.Maps.{get_or-no_values}
use Rattle.mr_class.proofs.InOrder.{less_at}

-- nothing is given at the start
pub start_none : (f : Framed) → IsStart f 0 no_values
start_none f = record { positions = length-replicate {A = ℕ} POSITIONS 0; given = λ k lt. absurd (omega arith); none = λ k le. get_or-no_values k }

-- a start is an assignment of the frame
pub start_assignment : (f : Framed) (p : ℕ) (a : List ℕ) → p ≤ length f.places → IsStart f p a → IsAssignmentOf f a
start_assignment f p a le h k some = ⊎_elim
    (λ (lt : k < p). ((omega arith), (h.given k lt).1))
    (λ (ge : p ≤ k). absurd (some (h.none k ge)))
    (cases_lt k p)

-- with one value more it is a start of one position more
pub start_more : (f : Framed) (p v : ℕ) (a : List ℕ) → IsStart f p a → p < POSITIONS → 0 < v → v < order f.field → IsStart f (p + 1) (set a p v)
start_more f p v a h lt low high = record {
  positions = length-set a p v ∙ h.positions;
  given = λ k less. ⊎_elim
      (λ (same : k ≡ p).
      let inside : p < length a = let e = h.positions in omega arith in
      let is : get_or (set a p v) k 0 ≡ v = ap (λ i. get_or (set a p v) i 0) same ∙ get_or-set_same a p v 0 inside in
      (subst (λ (x : ℕ). 0 < x) (sym is) low, subst (λ (x : ℕ). x < order f.field) (sym is) high))
      (λ (other : k ≢ p).
      let old = h.given k (omega arith) in
      let is : get_or (set a p v) k 0 ≡ get_or a k 0 = get_or-set_other a p k v 0 other in
      (subst (λ (x : ℕ). 0 < x) (sym is) old.0, subst (λ (x : ℕ). x < order f.field) (sym is) old.1))
      (cases_eq k p);
  none = λ k le. get_or-set_other a p k v 0 (λ (same : k ≡ p). absurd (omega arith)) ∙ h.none k (omega arith);
}

-- a start of all positions is its own only completion, where no set fails
module _ (f : Framed) (a : List ℕ) (start : IsStart f (length f.places) a) where
  completes_itself : ((x : List ℕ) → SetFails f a x → ⊥) → IsCompletion f a a
  completes_itself none = record {
    map = record {
      positions = start.positions;
      values = All-from_get_or (λ v. v ≤ VALUES) a 0 (λ k lt. ⊎_elim
          (λ (less : k < length f.places). (let high = (start.given k less).1 in let few_elements = order-le f.field in omega arith))
          (λ (ge : length f.places ≤ k). (let is = start.none k ge in omega arith))
          (cases_lt k (length f.places)));
    };
    assignment = start_assignment f (length f.places) a (omega arith) start;
    full = λ p lt is. (let low = (start.given p lt).0 in omega arith);
    contains = λ p some. refl;
    holds = none;
  }

  -- and it has no other
  only_itself : (c : List ℕ) → IsCompletion f a c → c ≡ a
  only_itself c h = ext_get_or 0 c a (h.map.positions ∙ sym start.positions) (λ k lt. ⊎_elim
      (λ (less : k < length f.places). h.contains k (λ is. (let low = (start.given k less).0 in omega arith)))
      (λ (ge : length f.places ≤ k). ⊎_elim
      (λ (none : get_or c k 0 ≡ 0). none ∙ sym (start.none k ge))
      (λ (some : get_or c k 0 ≢ 0). (let low = (h.assignment k some).0 in absurd (omega arith)))
      (cases_eq (get_or c k 0) 0))
      (cases_lt k (length f.places)))

  -- so it alone is listed where no set fails
  pub all_alone : ((x : List ℕ) → SetFails f a x → ⊥) → AreAll f a (a ∷ [])
  unfolding IsStrictlySortedBy
  all_alone none = record {
    increasing = (tt, tt);
    exactly = λ c. (
      (λ inside. ⊎_elim (λ (n : Contains [] c). absurd (member_none c n)) (λ (same : a ≡ c). subst (IsCompletion f a) same (completes_itself none)) (Contains-push_cases [] a c inside)),
      (λ h. subst (Contains (a ∷ [])) (sym (only_itself c h)) (Contains-push [] a)),
    );
  }

  -- and nothing where one fails
  pub all_none : (x : List ℕ) → SetFails f a x → AreAll f a []
  unfolding IsStrictlySortedBy
  all_none x fails = record {
    increasing = tt;
    exactly = λ c. (
      (λ inside. absurd (member_none c inside)),
      (λ h. absurd (h.holds x (subst (λ (b : List ℕ). SetFails f b x) (sym (only_itself c h)) fails))),
    );
  }

-- the completions of a with a value below v at position p
pub record AreAllBelow (f : Framed) (a : List ℕ) (p v : ℕ) (xs : List (List ℕ)) : Type 0 where
  pub increasing : IsStrictlySortedBy list_cmp xs
  pub exactly : (c : List ℕ) → Contains xs c ↔ (IsCompletion f a c × (get_or c p 0 < v))

module _ (f : Framed) (frame : IsFrame f) (p : ℕ) (a : List ℕ) (start : IsStart f p a) (place : p < length f.places) where
  -- none has a value below 1
  pub below_one : AreAllBelow f a p 1 []
  unfolding IsStrictlySortedBy
  below_one = record {
    increasing = tt;
    exactly = λ c. (
      (λ inside. absurd (member_none c inside)),
      (λ h. (let some = h.0.full p place in absurd (some (let lt = h.1 in omega arith)))),
    );
  }

  -- a completion of a with the value v at p is one of a
  weaker : (v : ℕ) → 0 < v → (c : List ℕ) → IsCompletion f (set a p v) c → IsCompletion f a c × (get_or c p 0 ≡ v)
  weaker v low c h =
      let limit = few f frame in
      let size = start.positions in
      let at : get_or (set a p v) p 0 ≡ v = get_or-set_same a p v 0 (omega arith) in (
        record {
          map = h.map;
          assignment = h.assignment;
          full = h.full;
          contains = λ k some.
              let other : k ≢ p = λ same. some (ap (λ i. get_or a i 0) same ∙ start.none p (omega arith)) in
              let is : get_or (set a p v) k 0 ≡ get_or a k 0 = get_or-set_other a p k v 0 other in
              h.contains k (λ none. some (sym is ∙ none)) ∙ is;
          holds = h.holds;
        },
        h.contains p (λ none. (let e : v ≡ 0 = sym at ∙ none in omega arith)) ∙ at,
      )

  -- and the other way round
  stronger : (v : ℕ) → (c : List ℕ) → IsCompletion f a c → get_or c p 0 ≡ v → IsCompletion f (set a p v) c
  stronger v c h is =
      let limit = few f frame in
      let size = start.positions in
      let at : get_or (set a p v) p 0 ≡ v = get_or-set_same a p v 0 (omega arith) in
      record {
        map = h.map;
        assignment = h.assignment;
        full = h.full;
        contains = λ k some. ⊎_elim
            (λ (same : k ≡ p). ap (λ i. get_or c i 0) same ∙ is ∙ sym at ∙ ap (λ i. get_or (set a p v) i 0) (sym same))
            (λ (other : k ≢ p).
            let old : get_or (set a p v) k 0 ≡ get_or a k 0 = get_or-set_other a p k v 0 other in
            h.contains k (λ none. some (old ∙ none)) ∙ sym old)
            (cases_eq k p);
        holds = h.holds;
      }

  -- completions with a smaller value there come first
  smaller_first : (c d : List ℕ) → IsCompletion f a c → IsCompletion f a d → get_or c p 0 < get_or d p 0 → list_cmp c d ≡ Less
  smaller_first c d hc hd lt =
      let limit = few f frame in
      let first = hc.map.positions in
      let second = hd.map.positions in
      less_at c d p (omega arith) (omega arith) (λ k less.
      let some : get_or a k 0 ≢ 0 = λ none. (let low = (start.given k less).0 in omega arith) in
      hc.contains k some ∙ sym (hd.contains k some)) lt

  -- those with the next value are appended
  pub below_more : (v : ℕ) (xs ys : List (List ℕ)) → 0 < v → AreAllBelow f a p v xs → AreAll f (set a p v) ys → AreAllBelow f a p (v + 1) (xs ++ ys)
  below_more v xs ys low here there = record {
    increasing = sorted_join list_cmp xs ys here.increasing there.increasing (λ c d first second.
        let hc = (here.exactly c).0 first in
        let hd = weaker v low d ((there.exactly d).0 second) in
        smaller_first c d hc.0 hd.0 (let lt = hc.1 in let is = hd.1 in omega arith));
    exactly = λ c. (
      (λ inside. ⊎_elim
          (λ (old : Contains xs c). (let h = (here.exactly c).0 old in (h.0, (let lt = h.1 in omega arith))))
          (λ (new : Contains ys c). (let h = weaker v low c ((there.exactly c).0 new) in (h.0, (let is = h.1 in omega arith))))
          (Contains-append_cases xs ys c inside)),
      (λ h. ⊎_elim
          (λ (lt : get_or c p 0 < v). Contains-append_left xs ys c ((here.exactly c).1 (h.0, lt)))
          (λ (ge : v ≤ get_or c p 0). Contains-append_right xs ys c ((there.exactly c).1 (stronger v c h.0 (let lt = h.1 in omega arith))))
          (cases_lt (get_or c p 0) v)),
    );
  }

  -- below the order are all
  pub below_all : (v : ℕ) (xs : List (List ℕ)) → order f.field ≤ v → AreAllBelow f a p v xs → AreAll f a xs
  below_all v xs le h = record {
    increasing = h.increasing;
    exactly = λ c. (
      (λ inside. ((h.exactly c).0 inside).0),
      (λ done. (h.exactly c).1 (done, (let lt = (done.assignment p (done.full p place)).1 in omega arith))),
    );
  }
