-- Bipartite graphs of rows and columns, and walks along edges: words of private contracts and of the proofs.
use Rattle.std.specs.Prelude.{ℕ, ◌≤◌, List}
use Rattle.mr_set.specs.declared.TheConstants.{ELEMENTS}

-- the graph fits in its fixed words
pub record IsStored (row_count col_count : ℕ) (columns : List ℕ) : Type 0 where
  pub rows : row_count ≤ ELEMENTS
  pub cols : col_count ≤ ELEMENTS
