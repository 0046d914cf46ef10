-- What an index keeps beside its rows.
use Rattle.std.specs.Prelude.{◌≡◌, ◌↔◌, ℕ, ◌+◌, ◌*◌, List, [], Option, Some, length, Contains, slice_index_or}
use Rattle.mr_assign.specs.Assign.{IsAssign}
use Rattle.mr_assign.specs.declared.TheConstants.{POSITIONS, VALUES}
use Rattle.mr_nogood.specs.declared.row.Row.{Row}
use Rattle.mr_nogood.specs.Follows.{in_slots}
use Rattle.mr_propagate.specs.declared.trie.Branch.{Branch}
use Rattle.mr_propagate.specs.Pairs.{IsLeastPair}
use Rattle.mr_propagate.specs.Private.Pairs.{IsPairNumber}
use Rattle.mr_propagate.specs.Private.Trie.{IsTrie, IsHolding}

-- a list for each pair and one for none
abbrev pub AreLists : List (List ℕ) → Type 0
AreLists lists = length lists ≡ POSITIONS * VALUES + 1

-- the list of a number
abbrev pub list_at : List (List ℕ) → ℕ → List ℕ
list_at lists k = slice_index_or lists k []

-- Each clause is a map, the branches hold all clauses, and the lists of the least pairs have just the slots of their rows.
pub record IsKept (rows : List (Option Row)) (branches : List Branch) (least : List (List ℕ)) : Type 0 where
  pub maps : (s : ℕ) (row : Row) → in_slots rows s ≡ Some row → IsAssign row.clause
  pub trie : IsTrie branches
  pub holding : IsHolding (in_slots rows) branches
  pub least_size : AreLists least
  pub in_least : (k s : ℕ) → Contains (list_at least k) s ↔ ((row : Row) × (in_slots rows s ≡ Some row) × IsPairNumber IsLeastPair row.clause k)
