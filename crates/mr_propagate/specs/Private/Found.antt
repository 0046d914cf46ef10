-- The least slot with a row whose clause is in a node, among the rows whose clauses are of some kind.
use Rattle.std.specs.Prelude.{◌≡◌, ℕ, ◌≤◌, List, Option, Some, None, MatchOption, min, slice_index}
use Rattle.mr_assign.specs.Assign.{IsPartOf}
use Rattle.mr_nogood.specs.declared.row.Row.{Row}
use Rattle.mr_nogood.specs.declared.row.Cite.{Cite}
use Rattle.mr_nogood.specs.declared.row.Cite.TheVariants.{Slot}
use Rattle.mr_nogood.specs.Follows.{Rows}
use Rattle.mr_propagate.specs.Private.Pairs.{IsGreatestPair, IsPairNumber}

-- no row of the kind is in the node
abbrev pub NoneAmong : Rows → (List ℕ → Type 0) → List ℕ → Type 0
NoneAmong rows K node = (s : ℕ) (row : Row) → rows s ≡ Some row → K row.clause → ¬ (IsPartOf row.clause node)

-- the slot has a row in the node, and no slot before it has one of the kind
pub record IsLeastAmong (rows : Rows) (K : List ℕ → Type 0) (node : List ℕ) (s : ℕ) : Type 0 where
  pub row : Row
  pub has : rows s ≡ Some row
  pub inside : IsPartOf row.clause node
  pub least : (t : ℕ) (other : Row) → rows t ≡ Some other → K other.clause → IsPartOf other.clause node → s ≤ t

-- the one or the other
abbrev pub IsLeastFound : Rows → (List ℕ → Type 0) → List ℕ → Option ℕ → Type 0
IsLeastFound rows K node found = MatchOption found (NoneAmong rows K node) (IsLeastAmong rows K node)

-- the greatest pair has this number
abbrev pub EndsAt : ℕ → List ℕ → Type 0
EndsAt k c = IsPairNumber IsGreatestPair c k

-- no position from p on has a value
abbrev pub EndsBefore : ℕ → List ℕ → Type 0
EndsBefore p c = (q : ℕ) → p ≤ q → slice_index c q ≡ 0

-- the lesser of two numbers, of which either may be missing
abbrev pub lesser : Option ℕ → Option ℕ → Option ℕ
lesser None b = b
lesser (Some x) None = Some x
lesser (Some x) (Some y) = Some (min x y)

-- the cite of a slot
abbrev pub cite_of : Option ℕ → Option Cite
cite_of None = None
cite_of (Some s) = Some (Slot s)
