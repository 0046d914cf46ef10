-- What an index keeps, when a row is learnt.
use Rattle.std.proofs.Common.{ℕ, zero, suc, ◌+◌, ◌*◌, ◌≡◌, ◌≢◌, ◌<◌, ◌⊎◌, ◌↔◌, List, [], length, set, replicate, Option, Some, None, nat_eq, if◌then◌else◌, refl, sym, ap, subst, ◌∙◌, inl, inr, ⊎_elim, arith, eq-eqb, ne_eqb, length-set}
use Rattle.std.specs.Prelude.{Contains, slice_get}
use Rattle.std.proofs.lemmas.Bool.{cases_eq}
use Rattle.std.proofs.lemmas.List.{get_or-set_same, get_or-set_other, length-replicate}
use Rattle.std.proofs.lemmas.Option.{none-some, same_Some}
use Rattle.mr_assign.specs.Assign.{IsAssign}
use Rattle.mr_assign.specs.declared.TheConstants.{POSITIONS, VALUES}
use Rattle.mr_set.specs.Elements.{with_element}
use Rattle.mr_set.proofs.Ordered.{member_none}
use Rattle.mr_nogood.specs.declared.row.Row.{Row}
use Rattle.mr_nogood.specs.Follows.{in_slots}
use Rattle.mr_propagate.specs.declared.trie.Branch.{Branch}
use Rattle.mr_propagate.specs.Pairs.{IsLeastPair}
use Rattle.mr_propagate.specs.Private.Pairs.{IsPair, pair_number, IsPairNumber}
use Rattle.mr_propagate.specs.Private.Found.{lesser}
use Rattle.mr_propagate.specs.Private.Trie.{IsTrie, IsHolding, HasNoSlots, IsMore, EndsThere}
use Rattle.mr_propagate.specs.Private.Kept.{list_at, IsKept}
use Rattle.mr_propagate.proofs.InOrder.{with_new, with_old, with_cases}
use Rattle.mr_propagate.proofs.Inserting.{holding_none}
use Rattle.mr_propagate.proofs.Marking.{trie_marked, holding_marked}
use Rattle.mr_propagate.proofs.Numbered.{least_at, pair_of, one_least_number}

-- one list with a number more
abbrev pub with_number : List (List ℕ) → ℕ → ℕ → List (List ℕ)
with_number lists k s = set lists k (with_element s (list_at lists k))

-- the numbers that were there stay
pub number_stays : (lists : List (List ℕ)) (k s j t : ℕ) → k < length lists → Contains (list_at lists j) t → Contains (list_at (with_number lists k s) j) t
number_stays lists k s j t within has = ⊎_elim
    (λ (same : j ≡ k). subst (λ (x : ℕ). Contains (list_at (with_number lists k s) x) t) (sym same)
    (subst (λ (xs : List ℕ). Contains xs t) (sym (get_or-set_same lists k (with_element s (list_at lists k)) [] within)) (with_old s t (list_at lists k) (subst (λ (x : ℕ). Contains (list_at lists x) t) same has))))
    (λ (other : j ≢ k). subst (λ (xs : List ℕ). Contains xs t) (sym (get_or-set_other lists k j (with_element s (list_at lists k)) [] other)) has)
    (cases_eq j k)

-- the new one is there
pub number_there : (lists : List (List ℕ)) (k s : ℕ) → k < length lists → Contains (list_at (with_number lists k s) k) s
number_there lists k s within = subst (λ (xs : List ℕ). Contains xs s) (sym (get_or-set_same lists k (with_element s (list_at lists k)) [] within)) (with_new s (list_at lists k))

-- no others are there
pub number_cases : (lists : List (List ℕ)) (k s j t : ℕ) → k < length lists → Contains (list_at (with_number lists k s) j) t → ((j ≡ k) × (t ≡ s)) ⊎ Contains (list_at lists j) t
number_cases lists k s j t within has = ⊎_elim
    (λ (same : j ≡ k).
    let here : Contains (with_element s (list_at lists k)) t = subst (λ (xs : List ℕ). Contains xs t) (get_or-set_same lists k (with_element s (list_at lists k)) [] within) (subst (λ (x : ℕ). Contains (list_at (with_number lists k s) x) t) same has) in
    ⊎_elim (λ (is : t ≡ s). inl (same, is)) (λ (old : Contains (list_at lists k) t). inr (subst (λ (x : ℕ). Contains (list_at lists x) t) (sym same) old)) (with_cases s t (list_at lists k) here))
    (λ (other : j ≢ k). inr (subst (λ (xs : List ℕ). Contains xs t) (get_or-set_other lists k j (with_element s (list_at lists k)) [] other) has))
    (cases_eq j k)

-- nothing is learnt
pub kept_none : (branches : List Branch) (least : List (List ℕ)) → IsTrie branches → HasNoSlots branches → least ≡ replicate (POSITIONS * VALUES + 1) [] → IsKept [] branches least
kept_none branches least trie none second = record {
  maps = λ s row is. absurd (none-some row is);
  trie = trie;
  holding = holding_none branches (in_slots []) none (λ s row is. none-some row is);
  least_size = ap length second ∙ length-replicate {A = List ℕ} (POSITIONS * VALUES + 1) [];
  in_least = λ k s. (
    (λ has. absurd (member_none s (subst (λ (xs : List ℕ). Contains xs s) (ap (λ (ls : List (List ℕ)). list_at ls k) second ∙ none_at (POSITIONS * VALUES + 1) k) has))),
    (λ (row, is, number). absurd (none-some row is)),
  );
}
  where
    none_at : (n k : ℕ) → list_at (replicate n []) k ≡ []
    none_at zero k = refl
    none_at (suc n) zero = refl
    none_at (suc n) (suc k) = none_at n k

module _ (rows : List (Option Row)) (branches : List Branch) (least : List (List ℕ)) (kept : IsKept rows branches least) where
  -- more branches may have been made
  pub kept_more : (after : List Branch) → IsMore branches after → IsKept rows after least
  kept_more after more = record { maps = kept.maps; trie = more.trie; holding = more.holding (in_slots rows) kept.holding; least_size = kept.least_size; in_least = kept.in_least }

  -- the slots of a pair
  pub listed : (p v : ℕ) → IsPair p v → (s : ℕ) → Contains (list_at least (pair_number p v)) s ↔ ((row : Row) × (in_slots rows s ≡ Some row) × IsLeastPair row.clause p v)
  listed p v pair s = (
    (λ has. let (row, is, number) = (kept.in_least (pair_number p v) s).0 has in (row, is, (least_at row.clause p v (kept.maps s row is) pair).0 number)),
    (λ (row, is, first). (kept.in_least (pair_number p v) s).1 (row, is, (least_at row.clause p v (kept.maps s row is) pair).1 first)),
  )

  -- where there is no such pair there are none
  pub none_listed : (p v : ℕ) → (IsPair p v → ⊥) → (s : ℕ) → Contains [] s ↔ ((row : Row) × (in_slots rows s ≡ Some row) × IsLeastPair row.clause p v)
  none_listed p v other s = (
    (λ has. absurd (member_none s has)),
    (λ (row, is, first). absurd (other (pair_of row.clause p v (kept.maps s row is) first))),
  )

  -- a row is learnt
  pub kept_row : (after : List (Option Row)) (s : ℕ) (row : Row) (k j : ℕ) (b : Branch) (marked : List Branch) → in_slots rows s ≡ None → IsAssign row.clause → j < POSITIONS * VALUES + 1 →
      EndsThere branches row.clause k → IsPairNumber IsLeastPair row.clause j → slice_get branches k ≡ Some b → marked ≡ set branches k (record b { slot = lesser b.slot (Some s) }) →
      ((t : ℕ) → in_slots after t ≡ (if nat_eq t s then Some row else in_slots rows t)) → IsKept after marked (with_number least j s)
  kept_row after s row k j b marked none map small ends first there made is = record {
    maps = λ t other at. ⊎_elim
        (λ (new : (t ≡ s) × (row ≡ other)). subst (λ (r : Row). IsAssign r.clause) new.1 map)
        (λ (old : (t ≢ s) × (in_slots rows t ≡ Some other)). kept.maps t other old.1)
        (cases t other at);
    trie = subst IsTrie (sym made) (trie_marked branches kept.trie k s b there);
    holding = subst (IsHolding (in_slots after)) (sym made) (holding_marked branches kept.trie k s b there (in_slots rows) (in_slots after) row none kept.holding ends cases is);
    least_size = length-set least j (with_element s (list_at least j)) ∙ kept.least_size;
    in_least = λ i t. (
      (λ has. ⊎_elim
          (λ (new : (i ≡ j) × (t ≡ s)). (row, is t ∙ rw (eq-eqb t s new.1) refl, subst (IsPairNumber IsLeastPair row.clause) (sym new.0) first))
          (λ (old : Contains (list_at least i) t).
          let (other, at, number) = (kept.in_least i t).0 old in
          let differs : t ≢ s = λ same. none-some other (sym none ∙ ap (in_slots rows) (sym same) ∙ at) in
          (other, is t ∙ rw (ne_eqb t s differs) at, number))
          (number_cases least j s i t within has)),
      (λ (other, at, number). ⊎_elim
          (λ (new : (t ≡ s) × (row ≡ other)).
          let same : i ≡ j = one_least_number row.clause i j (subst (λ (r : Row). IsPairNumber IsLeastPair r.clause i) (sym new.1) number) first in
          subst (λ (x : ℕ). Contains (list_at (with_number least j s) x) t) (sym same) (subst (Contains (list_at (with_number least j s) j)) (sym new.0) (number_there least j s within)))
          (λ (old : (t ≢ s) × (in_slots rows t ≡ Some other)). number_stays least j s i t within ((kept.in_least i t).1 (other, old.1, number)))
          (cases t other at)),
    );
  }
    where
      within : j < length least
      within = let size = kept.least_size in omega arith

      cases : (t : ℕ) (other : Row) → in_slots after t ≡ Some other → ((t ≡ s) × (row ≡ other)) ⊎ ((t ≢ s) × (in_slots rows t ≡ Some other))
      cases t other at = ⊎_elim
          (λ (same : t ≡ s). inl (same, same_Some row other (sym (is t ∙ rw (eq-eqb t s same) refl) ∙ at)))
          (λ (differs : t ≢ s). inr (differs, sym (is t ∙ rw (ne_eqb t s differs) refl) ∙ at))
          (cases_eq t s)
