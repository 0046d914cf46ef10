-- Bipartite graphs of rows and columns, and walks along edges.
use Rattle.std.specs.Prelude.{◌≡◌, ℕ, ◌<◌, List, slice_index}
use Rattle.std.specs.Int.{bit_at}

-- a number of rows, a number of columns, and for each row the mask of its columns
pub record Graph : Type 0 where
  pub rows : ℕ
  pub cols : ℕ
  pub columns : List ℕ

-- row i and column e are joined by an edge
pub record IsEdge (g : Graph) (i e : ℕ) : Type 0 where
  pub row : i < g.rows
  pub col : e < g.cols
  pub set : bit_at (slice_index g.columns i) e ≡ 1

-- a vertex is a row or a column
pub data Vertex : Type 0 where
  row : ℕ → Vertex
  col : ℕ → Vertex

-- a vertex of a graph with so many rows and columns
abbrev pub IsVertex : ℕ → ℕ → Vertex → Type 0
IsVertex rows cols (row i) = i < rows
IsVertex rows cols (col e) = e < cols

-- a walk along edges of F
pub data Walk (F : ℕ → ℕ → Type 0) : Vertex → Vertex → Type 0 where
  stay : {u : Vertex} → Walk F u u
  to_col : {u : Vertex} {i e : ℕ} → Walk F u (row i) → F i e → Walk F u (col e)
  to_row : {u : Vertex} {i e : ℕ} → Walk F u (col e) → F i e → Walk F u (row i)
