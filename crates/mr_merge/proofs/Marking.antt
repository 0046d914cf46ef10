-- The slots that a row cites, marked one after another.
use Rattle.std.proofs.Common.{◌≡◌, ◌⊎◌, ℕ, ◌+◌, ◌<◌, ◌≤◌, Bool, true, false, List, length, set, refl, sym, ap, subst, ◌∙◌, inl, inr, ⊎_elim, arith, length-set, get_or-set_same, get_or-set_other}
use Rattle.std.proofs.lemmas.Bool.{cases_lt, cases_eq}
use Rattle.std.proofs.lemmas.List.{get_or_past}
use Rattle.mr_assign.specs.declared.TheConstants.{VALUES}
use Rattle.mr_nogood.specs.declared.row.Row.{Row}
use Rattle.mr_nogood.specs.declared.row.Cite.{Cite}
use Rattle.mr_nogood.specs.declared.row.Cite.TheVariants.{Nothing, Test, Slot}
use Rattle.mr_nogood.specs.Row.{cite_for}
use Rattle.mr_merge.specs.Private.Marks.{IsMarked, with_marked, MarksCited}

-- the slots that the first n cites name are marked, and no others but those that were
pub record MarksCitedTo (row : Row) (n : ℕ) (marks more : List Bool) : Type 0 where
  pub size : length more ≡ length marks
  pub kept : (s : ℕ) → IsMarked marks s → IsMarked more s
  pub cited : (k s : ℕ) → k < n → cite_for row k ≡ Slot s → IsMarked more s
  pub only : (s : ℕ) → IsMarked more s → IsMarked marks s ⊎ ((k : ℕ) × (cite_for row k ≡ Slot s))
  pub count : 0 < n → length row.cites ≡ VALUES

-- at first nothing is changed
pub cited_none : (row : Row) (marks : List Bool) → MarksCitedTo row 0 marks marks
cited_none row marks = record { size = refl; kept = λ s marked. marked; cited = λ k s lt is. absurd (omega arith); only = λ s marked. inl marked; count = λ some. absurd (omega arith) }

-- a mark stays where one is put
still_marked : (marks : List Bool) (t s : ℕ) → IsMarked marks s → IsMarked (set marks t true) s
still_marked marks t s marked = elim (cases_eq s t) [
  | inl same ↦ ⊎_elim
      (λ (lt : t < length marks). subst (IsMarked (set marks t true)) (sym same) (get_or-set_same marks t true false lt))
      (λ (past : length marks ≤ t). absurd (let none = get_or_past marks s false (omega arith) in let clash : true ≡ false = sym marked ∙ none in cc))
      (cases_lt t (length marks))
  | inr other ↦ get_or-set_other marks t s true false other ∙ marked
]

-- one cite more
pub cited_more : (row : Row) (n : ℕ) (marks more : List Bool) (cite : Cite) → MarksCitedTo row n marks more → length row.cites ≡ VALUES → cite ≡ cite_for row n → ((s : ℕ) → cite ≡ Slot s → s < length more) → MarksCitedTo row (n + 1) marks (with_marked cite more)
cited_more row n marks more Nothing h all is within = record {
  count = λ some. all;
  size = h.size;
  kept = h.kept;
  cited = λ k s lt cites. elim (cases_eq k n) [
    | inl same ↦ absurd (let clash : Nothing ≡ Slot s = is ∙ ap (cite_for row) (sym same) ∙ cites in cc)
    | inr other ↦ h.cited k s (omega arith) cites
  ];
  only = h.only;
}
cited_more row n marks more (Test x) h all is within = record {
  count = λ some. all;
  size = h.size;
  kept = h.kept;
  cited = λ k s lt cites. elim (cases_eq k n) [
    | inl same ↦ absurd (let clash : Test x ≡ Slot s = is ∙ ap (cite_for row) (sym same) ∙ cites in cc)
    | inr other ↦ h.cited k s (omega arith) cites
  ];
  only = h.only;
}
cited_more row n marks more (Slot t) h all is within = record {
  count = λ some. all;
  size = length-set more t true ∙ h.size;
  kept = λ s marked. still_marked more t s (h.kept s marked);
  cited = λ k s lt cites. elim (cases_eq k n) [
    | inl same ↦
        let one : t ≡ s = (let e : Slot t ≡ Slot s = is ∙ ap (cite_for row) (sym same) ∙ cites in cc) in
        subst (IsMarked (set more t true)) one (get_or-set_same more t true false (within t refl))
    | inr other ↦ still_marked more t s (h.cited k s (omega arith) cites)
  ];
  only = λ s marked. elim (cases_eq s t) [
    | inl same ↦ inr (n, sym is ∙ ap Slot (sym same))
    | inr other ↦ h.only s (sym (get_or-set_other more t s true false other) ∙ marked)
  ];
}

-- all cites
pub cited_all : (row : Row) (n : ℕ) (marks more : List Bool) → VALUES ≤ n → MarksCitedTo row n marks more → MarksCited row marks more
cited_all row n marks more all h = record {
  size = h.size;
  kept = h.kept;
  cited = λ k s cites. ⊎_elim
      (λ (lt : k < n). h.cited k s lt cites)
      (λ (past : n ≤ k). absurd (let none = get_or_past row.cites k Nothing (let count = h.count (omega arith) in omega arith) in let clash : Nothing ≡ Slot s = sym none ∙ cites in cc))
      (cases_lt k n);
  only = h.only;
}
