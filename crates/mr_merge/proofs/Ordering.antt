-- The slots that have a row, found one after another and then brought into order.
use Rattle.std.proofs.Common.{◌≡◌, ◌≢◌, ℕ, ◌+◌, ◌<◌, Bool, true, false, nat_cmp, nat_eq, List, [], ◌∷◌, ◌++◌, length, get_or, Option, Some, None, Less, Equal, refl, sym, ap, subst, ◌∙◌, inl, inr, ⊎_elim, arith, eq-eqb, ne_eqb}
use Rattle.std.specs.Prelude.{Contains}
use Rattle.std.specs.List.{IsDistinct}
use Rattle.std.specs.List.Sorted.{IsPermutation, IsSorted}
use Rattle.std.specs.Ordering.{ordering_then, is_lt}
use Rattle.std.specs.Cmp.{IsTotalOrder}
use Rattle.std.specs.declared.cmp.Ordering.{Ordering}
use Rattle.std.proofs.lemmas.Bool.{cases_order, cases_eq, eqb-false}
use Rattle.std.proofs.lemmas.Cmp.{nat_cmp_total, tied_itself, then_total, on_total}
use Rattle.std.proofs.lemmas.List.{length_push}
use Rattle.std.proofs.lemmas.List.Elements.{Contains-get_or, Contains-push, Contains-push_cases, Contains-append_left}
use Rattle.std.proofs.lemmas.List.Quantifiers.{all_pairs_push}
use Rattle.std.proofs.lemmas.List.Sorted.{ranks_by, sorted_far, IsPermutation-sym, Contains-permutation}
use Rattle.std.proofs.lemmas.Map.Keys.{IsDistinct-from_apart, IsDistinct-IsPermutation, apart_from_distinct, ge_from_not_lt}
use Rattle.mr_set.proofs.Members.{cmp_from_less}
use Rattle.mr_nogood.specs.declared.row.Row.{Row}
use Rattle.mr_nogood.specs.Follows.{in_slots}
use Rattle.mr_merge.specs.Private.Order.{IsEarlier, HasRank, AreInOrder, IsListedTo}

-- at first there are none
pub listed_none : (rows : List (Option Row)) → IsListedTo rows 0 []
listed_none rows = record {
  each = λ p inside. absurd (let lt = inside.1 in omega arith);
  all = λ s row lt is. absurd (omega arith);
  rise = λ i j d less lt. absurd (omega arith);
  few = omega arith;
}

-- a slot without a row
pub listed_past : (rows : List (Option Row)) (n : ℕ) (slots : List (ℕ × ℕ)) → IsListedTo rows n slots → in_slots rows n ≡ None → IsListedTo rows (n + 1) slots
listed_past rows n slots h none = record {
  each = λ p inside. (let old = h.each p inside in (old.0, (let lt = old.1 in omega arith)));
  all = λ s row lt is. elim (cases_eq s n) [
    | inl same ↦ absurd (let there : in_slots rows n ≡ Some row = subst (λ (i : ℕ). in_slots rows i ≡ Some row) same is in cc)
    | inr other ↦ h.all s row (omega arith) is
  ];
  rise = h.rise;
  few = let old = h.few in omega arith;
}

-- a slot with a row
pub listed_more : (rows : List (Option Row)) (n : ℕ) (slots : List (ℕ × ℕ)) (row : Row) → IsListedTo rows n slots → in_slots rows n ≡ Some row → IsListedTo rows (n + 1) (slots ++ (row.rank, n) ∷ [])
listed_more rows n slots row h there = record {
  each = λ p inside. ⊎_elim
      (λ (old : Contains slots p). (let known = h.each p old in (known.0, (let lt = known.1 in omega arith))))
      (λ (same : ◌≡◌ {A = ℕ × ℕ} (row.rank, n) p). subst (λ (q : ℕ × ℕ). HasRank rows q × (q.1 < n + 1)) same ((row, there, refl), omega arith))
      (Contains-push_cases slots (row.rank, n) p inside);
  all = λ s other lt is. elim (cases_eq s n) [
    | inl same ↦
        let one : row ≡ other = (let here : in_slots rows n ≡ Some other = subst (λ (i : ℕ). in_slots rows i ≡ Some other) same is in cc) in
        subst (λ (i : ℕ). Contains (slots ++ (row.rank, n) ∷ []) (other.rank, i)) (sym same) (subst (λ (r : Row). Contains (slots ++ (row.rank, n) ∷ []) (r.rank, n)) one (Contains-push slots (row.rank, n)))
    | inr apart ↦ Contains-append_left slots ((row.rank, n) ∷ []) (other.rank, s) (h.all s other (omega arith) is)
  ];
  rise = all_pairs_push (λ (p : ℕ × ℕ) (q : ℕ × ℕ). p.1 < q.1) slots (row.rank, n) h.rise (λ k d lt. (h.each (get_or slots k d) (Contains-get_or slots k d lt)).1);
  few = let old = h.few in omega (arith, length_push slots (row.rank, n));
}

-- first by rank, and then by slot
abbrev pub place_cmp : ℕ × ℕ → ℕ × ℕ → Ordering
place_cmp p q = ordering_then (nat_cmp p.0 q.0) (nat_cmp p.1 q.1)

-- it is a total order
place_total : IsTotalOrder place_cmp
place_total = then_total (on_total (λ (p : ℕ × ℕ). p.0) nat_cmp_total) (on_total (λ (p : ℕ × ℕ). p.1) nat_cmp_total)

-- what isn't later is earlier, where the slots differ
earlier : (p q : ℕ × ℕ) → is_lt (place_cmp q p) ≡ false → p.1 ≢ q.1 → IsEarlier p q
earlier p q not_less apart = elim (cases_order p.0 q.0) [
  | inl same ↦
      let tied : nat_cmp q.0 p.0 ≡ Equal = ap (λ (i : ℕ). nat_cmp q.0 i) same ∙ tied_itself nat_cmp_total q.0 in
      let rest : is_lt (nat_cmp q.1 p.1) ≡ false = sym (ap (λ (o : Ordering). is_lt (ordering_then o (nat_cmp q.1 p.1))) tied) ∙ not_less in
      let le = ge_from_not_lt q.1 p.1 rest in
      inr (same, omega arith)
  | inr differ ↦ elim differ [
    | inl lt ↦ inl lt
    | inr gt ↦
        let less : nat_cmp q.0 p.0 ≡ Less = cmp_from_less q.0 p.0 gt in
        let yes : true ≡ is_lt (place_cmp q p) = sym (ap (λ (o : Ordering). is_lt (ordering_then o (nat_cmp q.1 p.1))) less) in
        absurd (let clash : true ≡ false = yes ∙ not_less in cc)
  ]
]

-- the slots are one
abbrev same_slot : ℕ × ℕ → ℕ × ℕ → Bool
same_slot p q = nat_eq p.1 q.1

-- it doesn't matter which comes first
same_slot_turned : (p q : ℕ × ℕ) → same_slot p q ≡ same_slot q p
same_slot_turned p q = elim (cases_eq p.1 q.1) [
  | inl same ↦ eq-eqb p.1 q.1 same ∙ sym (eq-eqb q.1 p.1 (sym same))
  | inr apart ↦ ne_eqb p.1 q.1 apart ∙ sym (ne_eqb q.1 p.1 (λ e. apart (sym e)))
]

-- all slots that were found, in order
pub in_order : (rows : List (Option Row)) (slots sorted : List (ℕ × ℕ)) → IsListedTo rows (length rows) slots → IsPermutation slots sorted → IsSorted place_cmp sorted → ((s : ℕ) (row : Row) → in_slots rows s ≡ Some row → s < length rows) → AreInOrder rows sorted
in_order rows slots sorted h moved up within = record {
  just = record {
    each = λ p inside. (h.each p (Contains-permutation sorted slots p (IsPermutation-sym slots sorted moved) inside)).0;
    all = λ s row is. Contains-permutation slots sorted (row.rank, s) moved (h.all s row (within s row is) is);
  };
  order = λ i j d less lt. earlier (get_or sorted i d) (get_or sorted j d)
      (sorted_far (λ p q. is_lt (place_cmp p q)) (ranks_by place_total (λ (p : ℕ × ℕ). p)) sorted up i j d (omega arith) lt)
      (eqb-false (get_or sorted i d).1 (get_or sorted j d).1 (apart_from_distinct same_slot sorted i j d (IsDistinct-IsPermutation same_slot same_slot_turned slots sorted moved distinct) less lt));
}
  where
    distinct : IsDistinct same_slot slots
    distinct = IsDistinct-from_apart same_slot slots (λ i j d less lt. ne_eqb (get_or slots i d).1 (get_or slots j d).1 (λ e. let rise = h.rise i j d less lt in omega arith))
