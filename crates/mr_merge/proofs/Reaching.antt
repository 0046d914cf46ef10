-- The slots that an end leads to, marked from the last row back.
use Rattle.std.proofs.Common.{◌≡◌, ℕ, ◌+◌, ◌<◌, ◌≤◌, Bool, true, false, List, length, get_or, set, Option, Some, sym, ap, subst, ◌∙◌, inl, inr, ⊎_elim, arith, length-set, get_or-set_same, get_or-set_other, true≢false}
use Rattle.std.specs.Prelude.{AllPairs, slice_get, replicate}
use Rattle.std.proofs.lemmas.Bool.{cases_lt, cases_eq}
use Rattle.std.proofs.lemmas.List.{get_or-replicate, get_or_past, length-replicate}
use Rattle.std.proofs.lemmas.Option.{slice_get_within, same_Some, get_or_from_slice_get}
use Rattle.std.proofs.lemmas.List.Elements.{Contains-get_or}
use Rattle.mr_set.proofs.Ordered.{member_place, place_member}
use Rattle.mr_nogood.specs.declared.row.Row.{Row}
use Rattle.mr_nogood.specs.declared.row.Cite.TheVariants.{Slot}
use Rattle.mr_nogood.specs.Row.{cite_for}
use Rattle.mr_nogood.specs.Follows.{in_slots}
use Rattle.mr_merge.proofs.Prefixing.{in_range}
use Rattle.mr_merge.specs.Private.Order.{IsEarlier, AreInOrder}
use Rattle.mr_merge.specs.Private.Table.{CiteSmaller}
use Rattle.mr_merge.specs.Steps.{LeadsTo, named, cited}
use Rattle.mr_merge.specs.Private.Marks.{IsMarked, MarksCited, MarksFrom}

-- the places of two slots
pub earlier_at : (slots : List (ℕ × ℕ)) (i j : ℕ) (p q : ℕ × ℕ) → AllPairs IsEarlier slots → i < j → slice_get slots i ≡ Some p → slice_get slots j ≡ Some q → IsEarlier p q
earlier_at slots i j p q pairs lt first second =
    let within = slice_get_within slots j q second in
    subst (λ (v : ℕ × ℕ). IsEarlier v q) (get_or_from_slice_get slots i p p first) (subst (IsEarlier (get_or slots i p)) (get_or_from_slice_get slots j q p second) (pairs i j p lt within))

-- where no slot is marked, none is
none_marked : (n s : ℕ) → IsMarked (replicate n false) s → ⊥
none_marked n s marked = ⊎_elim
    (λ (lt : s < n). (let e = get_or-replicate {A = Bool} n s false false lt in true≢false (sym marked ∙ e)))
    (λ (past : n ≤ s). (let e = get_or_past (replicate n false) s false (omega (arith, length-replicate {A = Bool} n false)) in true≢false (sym marked ∙ e)))
    (cases_lt s n)

-- at first the end's slot alone is marked
pub marks_at_first : (rows : List (Option Row)) (end : ℕ) (slots : List (ℕ × ℕ)) (i : ℕ) → end < length rows → length slots ≤ i → MarksFrom rows end slots i (set (replicate (length rows) false) end true)
marks_at_first rows end slots i lt past = record {
  size = length-set (replicate (length rows) false) end true ∙ length-replicate {A = Bool} (length rows) false;
  named = get_or-set_same (replicate (length rows) false) end true false (omega (arith, length-replicate {A = Bool} (length rows) false));
  leads = λ s marked. elim (cases_eq s end) [
    | inl same ↦ named s (ap Slot (sym same))
    | inr other ↦ absurd (none_marked (length rows) s (sym (get_or-set_other (replicate (length rows) false) end s true false other) ∙ marked))
  ];
  closed = λ j p row k t le at. absurd (let within = slice_get_within slots j p at in omega arith);
}

module _ (rows : List (Option Row)) (slots : List (ℕ × ℕ)) (smaller : CiteSmaller rows) (order : AreInOrder rows slots) where
  -- the rank of a slot of the list is that of its row
  rank_is : (j : ℕ) (p : ℕ × ℕ) (row : Row) → slice_get slots j ≡ Some p → in_slots rows p.1 ≡ Some row → p.0 ≡ row.rank
  rank_is j p row at there =
      let known = order.just.each p (place_member slots j p at) in
      let same : known.0 ≡ row = same_Some known.0 row (sym known.1 ∙ there) in
      known.2 ∙ ap (λ (r : Row). r.rank) same

  -- later rows are of no smaller rank
  rank-le : (i j : ℕ) (p q : ℕ × ℕ) → i ≤ j → slice_get slots i ≡ Some p → slice_get slots j ≡ Some q → p.0 ≤ q.0
  rank-le i j p q le first second = elim (cases_eq i j) [
    | inl same ↦ let e : p ≡ q = same_Some p q (sym first ∙ ap (slice_get slots) same ∙ second) in let k = ap (λ (x : ℕ × ℕ). x.0) e in omega arith
    | inr apart ↦ elim (earlier_at slots i j p q order.order (omega arith) first second) [
      | inl less ↦ omega arith
      | inr tie ↦ let e = tie.0 in omega arith
    ]
  ]

  -- what the row of a slot cites comes before it
  cited_before : (i j : ℕ) (p q : ℕ × ℕ) (row : Row) (k : ℕ) → slice_get slots i ≡ Some p → in_slots rows p.1 ≡ Some row → cite_for row k ≡ Slot q.1 → slice_get slots j ≡ Some q → j < i
  cited_before i j p q row k first there cites second = ⊎_elim
      (λ (lt : j < i). lt)
      (λ (le : i ≤ j). absurd (
      let low = smaller p.1 k q.1 row there cites in
      let less = low.2 in
      let one = rank_is i p row first there in
      let two = rank_is j q low.0 second low.1 in
      let up = rank-le i j p q le first second in
      omega arith))
      (cases_lt j i)

  -- the slots of the list are slots
  pub slot_within : (i : ℕ) (d : ℕ × ℕ) → i < length slots → (get_or slots i d).1 < length rows
  slot_within i d lt =
      let row = order.just.each (get_or slots i d) (Contains-get_or slots i d lt) in
      in_range rows (get_or slots i d).1 row.0 row.1

  -- each of them has a row
  pub slot_has : (i : ℕ) (d : ℕ × ℕ) → i < length slots → (row : Row) × (in_slots rows (get_or slots i d).1 ≡ Some row)
  slot_has i d lt = let row = order.just.each (get_or slots i d) (Contains-get_or slots i d lt) in (row.0, row.1)

  -- one slot more was seen to, which isn't marked
  pub skipped : (end i : ℕ) (p : ℕ × ℕ) (marks : List Bool) → slice_get slots i ≡ Some p → MarksFrom rows end slots (i + 1) marks → get_or marks p.1 false ≡ false → MarksFrom rows end slots i marks
  skipped end i p marks at h not = record {
    size = h.size;
    named = h.named;
    leads = h.leads;
    closed = λ j q row k t le there marked has cites. elim (cases_eq j i) [
      | inl same ↦ absurd (
          let e : p ≡ q = same_Some p q (sym at ∙ ap (slice_get slots) (sym same) ∙ there) in
          true≢false (sym marked ∙ ap (λ (x : ℕ × ℕ). get_or marks x.1 false) (sym e) ∙ not))
      | inr other ↦ h.closed j q row k t (omega arith) there marked has cites
    ];
  }

  -- one slot more was seen to, and what its row cites was marked
  pub seen : (end i : ℕ) (p : ℕ × ℕ) (row : Row) (marks more : List Bool) → slice_get slots i ≡ Some p → in_slots rows p.1 ≡ Some row → MarksFrom rows end slots (i + 1) marks → IsMarked marks p.1 → MarksCited row marks more → MarksFrom rows end slots i more
  seen end i p row marks more at there h marked by = record {
    size = by.size ∙ h.size;
    named = by.kept end h.named;
    leads = λ s found. ⊎_elim
        (λ (old : IsMarked marks s). h.leads s old)
        (λ (new : (k : ℕ) × (cite_for row k ≡ Slot s)). cited p.1 s new.0 row (h.leads p.1 marked) there new.1)
        (by.only s found);
    closed = λ j q other k t le at_q found has cites. ⊎_elim
        (λ (old : IsMarked marks q.1). elim (cases_eq j i) [
          | inl same ↦
              let e : p ≡ q = same_Some p q (sym at ∙ ap (slice_get slots) (sym same) ∙ at_q) in
              let one : row ≡ other = same_Some row other (sym there ∙ ap (λ (x : ℕ × ℕ). in_slots rows x.1) e ∙ has) in
              by.cited k t (ap (λ (r : Row). cite_for r k) one ∙ cites)
          | inr apart ↦ by.kept t (h.closed j q other k t (omega arith) at_q old has cites)
        ])
        (λ (new : (k : ℕ) × (cite_for row k ≡ Slot q.1)). absurd (let lt = cited_before i j p q row new.0 at there new.1 at_q in omega arith))
        (by.only q.1 found);
  }

  -- so all to which the end leads is marked
  pub all_marked : (end : ℕ) (marks : List Bool) → MarksFrom rows end slots 0 marks → (s : ℕ) → LeadsTo (in_slots rows) (Slot end) s → IsMarked marks s
  all_marked end marks h s (named _ is) = let same : end ≡ s = cc in subst (IsMarked marks) same h.named
  all_marked end marks h s (cited t _ k row before there is) =
      let place = member_place slots (row.rank, t) (order.just.all t row there) in
      h.closed place.0 (row.rank, t) row k s (omega arith) place.1 (all_marked end marks h t before) there is
