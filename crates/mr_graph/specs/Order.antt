-- Orders of a forest's edges in which each component grows from its first edge.
use Rattle.std.specs.Prelude.{◌≡◌, ◌⊎◌, ℕ, ◌<◌, List, length, take, Any, slice_index_or}
use Rattle.mr_graph.specs.declared.edge.Edge.{Edge}
use Rattle.mr_graph.specs.Graph.{Vertex, row, col, Walk}

-- an edge of the list ends at the vertex
abbrev pub Touches : List Edge → Vertex → Type 0
Touches xs (row i) = Any (λ x. x.row ≡ i) xs
Touches xs (col e) = Any (λ x. x.col ≡ e) xs

-- edges of the list touch exactly one end of the edge of row i and column e
abbrev pub IsLeafOf : List Edge → ℕ → ℕ → Type 0
IsLeafOf xs i e = (Touches xs (row i) × ¬ (Touches xs (col e))) ⊎ (Touches xs (col e) × ¬ (Touches xs (row i)))

-- no edge of the list is in the component of row i in the graph with the edges of G
abbrev pub IsFirstAt : (ℕ → ℕ → Type 0) → List Edge → ℕ → Type 0
IsFirstAt G xs i = (v : Vertex) → Touches xs v → ¬ (Walk G v (row i))

-- each edge is the first of its component, or exactly one of its ends is touched by earlier edges, which then are of its component too
abbrev pub IsForestOrder : (ℕ → ℕ → Type 0) → List Edge → Type 0
IsForestOrder G xs = (k : ℕ) (d : Edge) → k < length xs →
    IsFirstAt G (take k xs) (slice_index_or xs k d).row ⊎ IsLeafOf (take k xs) (slice_index_or xs k d).row (slice_index_or xs k d).col
