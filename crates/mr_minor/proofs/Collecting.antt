-- Sets that aren't bases, collected in order.
use Rattle.std.proofs.Common.{◌≡◌, ℕ, ◌<◌, ◌≤◌, List, [], ◌∷◌, ◌++◌, ◌↔◌, ◌⊎◌, Bool, true, false, sym, refl, subst, ⊎_elim, inl, inr}
use Rattle.std.specs.Prelude.{Contains, IsTrue, if◌then◌else◌}
use Rattle.std.specs.List.Sorted.{IsStrictlySortedBy}
use Rattle.std.proofs.lemmas.Cmp.{nat_list_cmp_total}
use Rattle.std.proofs.lemmas.List.Elements.{Contains-append_left, Contains-push, Contains-push_cases}
use Rattle.mr_set.specs.declared.TheConstants.{ELEMENTS}
use Rattle.mr_set.specs.Subsets.{IsSetOf, IsBefore, IsFirst, IsNext, IsLast, list_cmp}
use Rattle.mr_set.proofs.Ordered.{member_none, member_cases, sorted_join}
use Rattle.mr_set.specs.Private.Enumeration.{weight}
use Rattle.mr_matroid.proofs.Walk.{Seen, seen_first, seen_next, seen_last, next_set, next_falls}
use Rattle.mr_minor.specs.Private.Collected.{AreNonbases}

-- the sets before s that aren't as P says, in order
pub record Collected (n r : ℕ) (P : List ℕ → Type 0) (s : List ℕ) (sets : List (List ℕ)) : Type 0 where
  pub increasing : IsStrictlySortedBy list_cmp sets
  pub each : (x : List ℕ) → Contains sets x → IsSetOf n r x × IsBefore x s × ¬ (P x)
  pub seen : Seen n r s (λ x. Contains sets x ⊎ P x)

-- the sets up to s that aren't as P says, in order
pub record CollectedThrough (n r : ℕ) (P : List ℕ → Type 0) (s : List ℕ) (sets : List (List ℕ)) : Type 0 where
  pub increasing : IsStrictlySortedBy list_cmp sets
  pub each : (x : List ℕ) → Contains sets x → IsSetOf n r x × (IsBefore x s ⊎ (x ≡ s)) × ¬ (P x)
  pub seen : Seen n r s (λ x. Contains sets x ⊎ P x)
  pub here : Contains sets s ⊎ P s

-- before the first set there is none
pub collected-first : (n r : ℕ) (P : List ℕ → Type 0) (s : List ℕ) → IsFirst n r s → Collected n r P s []
unfolding IsStrictlySortedBy
collected-first n r P s first = record {
  increasing = tt;
  each = λ x inside. absurd (member_none x inside);
  seen = seen_first n r s (λ x. Contains [] x ⊎ P x) first;
}

-- one set is in order
pub sorted_one : (s : List ℕ) → IsStrictlySortedBy list_cmp (s ∷ [])
unfolding IsStrictlySortedBy
sorted_one s = (tt, tt)

-- a list in order, and a set that comes after all of it
sorted_push : (sets : List (List ℕ)) (s : List ℕ) → IsStrictlySortedBy list_cmp sets → ((x : List ℕ) → Contains sets x → IsBefore x s) → IsStrictlySortedBy list_cmp (sets ++ s ∷ [])
sorted_push sets s sorted before = sorted_join list_cmp sets (s ∷ []) sorted (sorted_one s) (λ x y here there. ⊎_elim
    (λ (e : s ≡ y). subst (IsBefore x) e (before x here))
    (λ (none : Contains [] y). absurd (member_none y none))
    (member_cases s [] y there))

-- one set more: it is kept where it isn't as P says
pub collected-step : (n r : ℕ) (P : List ℕ → Type 0) (s : List ℕ) (sets : List (List ℕ)) (b : Bool) → IsSetOf n r s → IsTrue b ↔ P s → Collected n r P s sets → CollectedThrough n r P s (if b then sets else (sets ++ s ∷ []))
collected-step n r P s sets true set is before = record {
  increasing = before.increasing;
  each = λ x inside. let h = before.each x inside in (h.0, inl h.1, h.2);
  seen = before.seen;
  here = inr (is.0 refl);
}
collected-step n r P s sets false set is before = record {
  increasing = sorted_push sets s before.increasing (λ x inside. (before.each x inside).1);
  each = λ x inside. ⊎_elim
      (λ (h : Contains sets x). let g = before.each x h in (g.0, inl g.1, g.2))
      (λ (e : s ≡ x). (subst (IsSetOf n r) e set, inr (sym e), λ p. no (is.1 (subst P (sym e) p))))
      (Contains-push_cases sets s x inside);
  seen = λ x size less. ⊎_elim (λ (h : Contains sets x). inl (Contains-append_left sets (s ∷ []) x h)) (λ (p : P x). inr p) (before.seen x size less);
  here = inl (Contains-push sets s);
}
  where
    no : IsTrue false → ⊥
    no h = cc

-- up to a set is before the next
pub collected-next : (n r : ℕ) (P : List ℕ → Type 0) (s t : List ℕ) (sets : List (List ℕ)) → IsSetOf n r s → IsNext n s t → CollectedThrough n r P s sets → Collected n r P t sets
collected-next n r P s t sets set next through = record {
  increasing = through.increasing;
  each = λ x inside.
      let h = through.each x inside in
      (h.0, ⊎_elim (λ (less : IsBefore x s). nat_list_cmp_total.trans x s t less next.after) (λ (same : x ≡ s). subst (λ z. IsBefore z t) (sym same) next.after) h.1, h.2);
  seen = seen_next n r s t (λ x. Contains sets x ⊎ P x) set next through.seen through.here;
}

-- up to the last set is all
pub collected-last : (n r : ℕ) (P : List ℕ → Type 0) (s : List ℕ) (sets : List (List ℕ)) → IsSetOf n r s → IsLast n s → CollectedThrough n r P s sets → AreNonbases n r P sets
collected-last n r P s sets set last through = record {
  increasing = through.increasing;
  each = λ x inside. let h = through.each x inside in (h.0, h.2);
  all = seen_last n r s (λ x. Contains sets x ⊎ P x) set last through.seen through.here;
}

-- The walk over the sets of one size, where the size is known by equal numbers.

-- at the first set
pub walk_first : (n r k s : ℕ) (P : List ℕ → Type 0) (x : List ℕ) (sets : List (List ℕ)) → k ≡ n → s ≡ r → IsFirst k s x → sets ≡ [] → IsSetOf n r x × Collected n r P x sets
walk_first n r k s P x sets same size first none =
    let there : IsFirst n r x = subst (λ j. IsFirst n j x) size (subst (λ j. IsFirst j s x) same first) in
    (there.subset, subst (Collected n r P x) (sym none) (collected-first n r P x there))

-- at the next
pub walk_next : (n r k : ℕ) (P : List ℕ → Type 0) (x y : List ℕ) (sets more : List (List ℕ)) (b : Bool) → k ≡ n → IsSetOf n r x × Collected n r P x sets → IsTrue b ↔ P x → IsNext k x y
    → more ≡ (if b then sets else (sets ++ x ∷ [])) → IsSetOf n r y × Collected n r P y more
walk_next n r k P x y sets more b same before is next step =
    let there : IsNext n x y = subst (λ j. IsNext j x y) same next in
    (next_set n r x y before.0 there, subst (Collected n r P y) (sym step) (collected-next n r P x y (if b then sets else (sets ++ x ∷ [])) before.0 there (collected-step n r P x sets b before.0 is before.1)))

-- after the last
pub walk_last : (n r k : ℕ) (P : List ℕ → Type 0) (x : List ℕ) (sets more : List (List ℕ)) (b : Bool) → k ≡ n → IsSetOf n r x × Collected n r P x sets → IsTrue b ↔ P x → IsLast k x
    → more ≡ (if b then sets else (sets ++ x ∷ [])) → AreNonbases n r P more
walk_last n r k P x sets more b same before is last step =
    subst (AreNonbases n r P) (sym step) (collected-last n r P x (if b then sets else (sets ++ x ∷ [])) before.0 (subst (λ j. IsLast j x) same last) (collected-step n r P x sets b before.0 is before.1))

-- fewer sets are left
pub walk_falls : (n r k : ℕ) (x y : List ℕ) → k ≡ n → n ≤ ELEMENTS → IsSetOf n r x → IsNext k x y → weight y < weight x
walk_falls n r k x y same limit set next = next_falls n r x y limit set (subst (λ j. IsNext j x y) same next)
