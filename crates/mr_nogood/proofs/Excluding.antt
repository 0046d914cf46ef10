-- A row that follows from rows without completions has none.
use Rattle.std.proofs.Common.{◌≡◌, ◌≢◌, ℕ, zero, suc, ◌+◌, ◌-◌, ◌<◌, ◌≤◌, List, Some, length, set, get_or, sym, ap, subst, ◌∙◌, inl, inr, ⊎_elim, arith, get_or-set_same, get_or-set_other}
use Rattle.std.proofs.lemmas.List.{set_past, get_or_past}
use Rattle.std.proofs.lemmas.Bool.{cases_eq, cases_lt}
use Rattle.mr_field.specs.Gf.{order}
use Rattle.mr_assign.specs.Assign.{IsPartOf}
use Rattle.mr_frame.specs.Frame.{Framed, IsFrame}
use Rattle.mr_frame.specs.Test.{SetFails}
use Rattle.mr_frame.specs.Completion.{IsCompletion}
use Rattle.mr_frame.proofs.Apart.{parts_tell}
use Rattle.mr_nogood.specs.Row.{cite_for}
use Rattle.mr_nogood.specs.Follows.{Rows, CiteHolds, Follows, Excludes}
use Rattle.mr_nogood.specs.Laws.{RowsThatFollowExclude, MoreRowsKeepWhatFollows, CitedRowsHaveSmallerRanks, RowsThatFollowFromEachOtherExclude}
use Rattle.mr_nogood.specs.declared.row.Cite.{Cite}
use Rattle.mr_nogood.specs.declared.row.Cite.TheVariants.{Nothing, Test, Slot}
use Rattle.mr_nogood.specs.declared.row.Row.{Row}

-- with the value that a map has at p, a part of it stays a part
pub part_with : (a c : List ℕ) (p : ℕ) → IsPartOf a c → IsPartOf (set a p (get_or c p 0)) c
part_with a c p part q some = elim (cases_eq q p) as (λ _. get_or c q 0 ≡ get_or (set a p (get_or c p 0)) q 0) [
  | inl same ↦ ⊎_elim
      (λ (lt : p < length a). ap (λ i. get_or c i 0) same ∙ sym (ap (λ i. get_or (set a p (get_or c p 0)) i 0) same ∙ get_or-set_same a p (get_or c p 0) 0 lt))
      (λ (past : length a ≤ p). absurd (some (ap (λ x. get_or x q 0) (set_past a p (get_or c p 0) past) ∙ get_or_past a q 0 (omega arith))))
      (cases_lt p (length a))
  | inr other ↦ part q (λ none. some (get_or-set_other a p q (get_or c p 0) 0 other ∙ none)) ∙ sym (get_or-set_other a p q (get_or c p 0) 0 other)
]

-- a set that fails under a part of an assignment fails under it
pub fails_more : (f : Framed) (a c x : List ℕ) → IsFrame f → IsCompletion f a c → SetFails f a x → SetFails f c x
fails_more f a c x frame done fails = parts_tell f a c x frame done.assignment (λ p needs. sym (done.contains p (fails.decided p needs))) fails

-- a completion of a map is one of each part of it
pub completes_part : (f : Framed) (a b c : List ℕ) → IsCompletion f a c → IsPartOf b c → IsCompletion f b c
completes_part f a b c done part = record { map = done.map; assignment = done.assignment; full = done.full; contains = part; holds = done.holds }

-- no completion of a map is left where a cite holds of it
pub cite_excludes : (f : Framed) (given : Rows) (rank : ℕ) (a c : List ℕ) (cite : Cite) → IsFrame f → ((s : ℕ) (r : Row) → given s ≡ Some r → r.rank < rank → Excludes f r)
    → IsCompletion f a c → CiteHolds f given rank a cite → ⊥
cite_excludes f given rank a c Nothing frame below done holds = holds
cite_excludes f given rank a c (Test x) frame below done holds = done.holds x (fails_more f a c x frame done holds)
cite_excludes f given rank a c (Slot s) frame below done (r, is, less, part) =
    below s r is less c (completes_part f a r.clause c done (λ p some. done.contains p (λ none. some (sym (part p some) ∙ none)) ∙ part p some))

-- a row that follows from rows without completions has none
pub rows_that_follow_exclude : RowsThatFollowExclude
rows_that_follow_exclude f given row frame follows below c done =
    let v : ℕ = get_or c row.at 0 in
    let some : v ≢ 0 = done.full row.at follows.position in
    let small : v < order f.field = (done.assignment row.at some).1 in
    let is : (v - 1) + 1 ≡ v = omega arith in
    let lt : (v - 1) + 1 < order f.field = omega arith in
    cite_excludes f given row.rank (set row.clause row.at v) c (cite_for row (v - 1)) frame below
    (completes_part f row.clause (set row.clause row.at v) c done (part_with row.clause c row.at done.contains))
    (subst (λ u. CiteHolds f given row.rank (set row.clause row.at u) (cite_for row (v - 1))) is (follows.cites (v - 1) lt))

-- where more rows are given, each cite still holds
holds_more : (f : Framed) (some more : Rows) (rank : ℕ) (a : List ℕ) (cite : Cite) → ((s : ℕ) (r : Row) → some s ≡ Some r → more s ≡ Some r) → CiteHolds f some rank a cite → CiteHolds f more rank a cite
holds_more f some more rank a Nothing kept holds = holds
holds_more f some more rank a (Test x) kept holds = holds
holds_more f some more rank a (Slot s) kept (r, is, less, part) = (r, kept s r is, less, part)

-- where more rows are given, no less follows
pub more_rows_keep_what_follows : MoreRowsKeepWhatFollows
more_rows_keep_what_follows f some more row kept follows = record {
  map = follows.map;
  clause = follows.clause;
  position = follows.position;
  no_value = follows.no_value;
  cites = λ k lt. holds_more f some more row.rank (set row.clause row.at (k + 1)) (cite_for row k) kept (follows.cites k lt);
  others = follows.others;
}

-- a cite by number that holds names a row of smaller rank
held_rank : (f : Framed) (given : Rows) (rank : ℕ) (a : List ℕ) (cite : Cite) (s : ℕ) → cite ≡ Slot s → CiteHolds f given rank a cite → (r : Row) × (given s ≡ Some r) × (r.rank < rank)
held_rank f given rank a cite s is holds = let named = subst (CiteHolds f given rank a) is holds in (named.0, named.1, named.2)

-- a row that follows rests on given rows of smaller rank alone
pub cited_rows_have_smaller_ranks : CitedRowsHaveSmallerRanks
cited_rows_have_smaller_ranks f given row k s follows is = ⊎_elim
    (λ (lt : k + 1 < order f.field). held_rank f given row.rank (set row.clause row.at (k + 1)) (cite_for row k) s is (follows.cites k lt))
    (λ (past : order f.field ≤ k + 1). let none = follows.others k past in absurd (let clash : Nothing ≡ Slot s = sym none ∙ is in cc))
    (cases_lt (k + 1) (order f.field))

-- among rows each of which follows from the others those of small ranks have no completions
exclude_below : (f : Framed) (given : Rows) → IsFrame f → ((s : ℕ) (r : Row) → given s ≡ Some r → Follows f given r) → (n s : ℕ) (r : Row) → given s ≡ Some r → r.rank < n → Excludes f r
exclude_below f given frame all zero s r is lt = absurd (omega arith)
exclude_below f given frame all (suc n) s r is lt = rows_that_follow_exclude f given r frame (all s r is) (λ t q named less. exclude_below f given frame all n t q named (omega arith))

-- so none has any
pub rows_that_follow_from_each_other_exclude : RowsThatFollowFromEachOtherExclude
rows_that_follow_from_each_other_exclude f given frame all s r is = exclude_below f given frame all (r.rank + 1) s r is (omega arith)
