-- Labels of vertices, the rows' before the columns', by which the code tells what a walk joins.
use Rattle.std.specs.Prelude.{◌≡◌, ℕ, ◌+◌, ◌<◌, List, length, slice_index, ◌==◌, if◌then◌else◌}
use Rattle.mr_graph.specs.Graph.{Vertex, row, col, IsVertex, Walk}

-- a label, where `was` gives way to `now`
abbrev pub relabelled : ℕ → ℕ → ℕ → ℕ
relabelled was now x = if x == was then now else x

-- the place of a vertex, rows before columns
abbrev pub place : ℕ → Vertex → ℕ
place rows (row i) = i
place rows (col e) = rows + e

-- the label of a vertex
abbrev pub label : ℕ → List ℕ → Vertex → ℕ
label rows xs v = slice_index xs (place rows v)

-- the edges of F lie in range, and labels are equal just where a walk joins
pub record IsLabelled (rows cols : ℕ) (F : ℕ → ℕ → Type 0) (xs : List ℕ) : Type 0 where
  pub size : length xs ≡ rows + cols
  pub inside : (i e : ℕ) → F i e → (i < rows) × (e < cols)
  pub along : (i e : ℕ) → F i e → label rows xs (row i) ≡ label rows xs (col e)
  pub joined : (u v : Vertex) → IsVertex rows cols u → IsVertex rows cols v → label rows xs u ≡ label rows xs v → Walk F u v
