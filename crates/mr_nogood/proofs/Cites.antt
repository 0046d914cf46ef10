-- Rows follow just where they are open and each cite is such as it must be.
use Rattle.std.proofs.Common.{◌≡◌, ℕ, ◌+◌, ◌<◌, ◌≤◌, ◌↔◌, Bool, List, Option, Some, length, set, sym, subst, ⊎_elim, arith}
use Rattle.std.specs.Prelude.{IsTrue}
use Rattle.std.proofs.lemmas.Bool.{cases_lt}
use Rattle.std.proofs.lemmas.List.{get_or_past}
use Rattle.mr_field.specs.Gf.{Gf, gf2, gf3, gf4, gf5, gf7, gf8, gf9, order}
use Rattle.mr_assign.specs.declared.TheConstants.{VALUES}
use Rattle.mr_assign.specs.Assign.{IsPartOf}
use Rattle.mr_frame.specs.Frame.{Framed}
use Rattle.mr_nogood.specs.Row.{cite_for}
use Rattle.mr_nogood.specs.Follows.{Rows, CiteHolds, Follows}
use Rattle.mr_nogood.specs.Private.Checking.{IsOpen, cited_row, HoldsBy, Accounts}
use Rattle.mr_nogood.specs.declared.row.Cite.{Cite}
use Rattle.mr_nogood.specs.declared.row.Cite.TheVariants.{Nothing, Test, Slot}
use Rattle.mr_nogood.specs.declared.row.Row.{Row}

-- a row that is cited is one that a cite rests on just where its clause is a part of the assignment
pub by_row : (f : Framed) (found : Option Row) (r : Row) (rank : ℕ) (a : List ℕ) (s : ℕ) (b : Bool) → found ≡ Some r → r.rank < rank → (IsTrue b ↔ IsPartOf r.clause a) → IsTrue b ↔ HoldsBy f found rank a (Slot s)
by_row f found r rank a s b is less iff = (
  λ yes. (r, is, less, iff.0 yes),
  λ (other, other_is, lower, part). iff.1 (let same : other ≡ r = cc in subst (λ (x : Row). IsPartOf x.clause a) same part),
)

-- a cite holds where it does by the row that it names
by_holds : (f : Framed) (given : Rows) (rank : ℕ) (a : List ℕ) (cite : Cite) → HoldsBy f (cited_row given cite) rank a cite → CiteHolds f given rank a cite
by_holds f given rank a Nothing holds = holds
by_holds f given rank a (Test x) holds = holds
by_holds f given rank a (Slot s) holds = holds

-- within the field a cite is such as it must be just where it holds
pub accounts_within : (f : Framed) (row : Row) (found : Option Row) (k : ℕ) (a : List ℕ) (cite : Cite) (b : Bool) → k + 1 < order f.field → a ≡ set row.clause row.at (k + 1) → cite ≡ cite_for row k
    → (IsTrue b ↔ HoldsBy f found row.rank a cite) → IsTrue b ↔ Accounts f row found k
accounts_within f row found k a cite b lt is read iff = (
  λ yes. record {
    within = λ _. subst (HoldsBy f found row.rank (set row.clause row.at (k + 1))) read (subst (λ x. HoldsBy f found row.rank x cite) is (iff.0 yes));
    past = λ le. absurd (omega arith);
  },
  λ good. iff.1 (subst (λ x. HoldsBy f found row.rank x cite) (sym is) (subst (HoldsBy f found row.rank (set row.clause row.at (k + 1))) (sym read) (good.within lt))),
)

-- the first of a row's cites are such as they must be
abbrev pub AccountsBelow : Framed → Rows → Row → ℕ → Type 0
AccountsBelow f given row k = (j : ℕ) → j < k → (length row.cites ≡ VALUES) × Accounts f row (cited_row given (cite_for row j)) j

-- a field has no more values than there are cites
order-le : (f : Gf) → order f ≤ VALUES + 1
order-le gf2 = omega arith
order-le gf3 = omega arith
order-le gf4 = omega arith
order-le gf5 = omega arith
order-le gf7 = omega arith
order-le gf8 = omega arith
order-le gf9 = omega arith

-- an open row follows where all of its cites are such as they must be
pub follows_of : (f : Framed) (given : Rows) (row : Row) → IsOpen f row → AccountsBelow f given row VALUES → Follows f given row
follows_of f given row opened below = record {
  map = opened.map;
  clause = opened.clause;
  position = opened.position;
  no_value = opened.no_value;
  cites = λ k lt.
      let limit = order-le f.field in
      by_holds f given row.rank (set row.clause row.at (k + 1)) (cite_for row k) ((below k (omega arith)).1.within lt);
  others = λ k le. ⊎_elim
      (λ (lt : k < VALUES). (below k lt).1.past le)
      (λ (past : VALUES ≤ k). let count = (below 0 (omega arith)).0 in get_or_past row.cites k Nothing (omega arith))
      (cases_lt k VALUES);
}
