-- Orders of a forest's edges in which each component grows from its first edge: words of private contracts and of the proofs.
use Rattle.std.specs.Prelude.{◌⊎◌, ℕ, List, slice_index_or}
use Rattle.mr_graph.specs.declared.edge.Edge.{Edge}
use Rattle.mr_graph.specs.Graph.{row, col}
use Rattle.mr_graph.specs.Forest.{HasEdge}
use Rattle.mr_graph.specs.Order.{IsLeafOf}

-- taken edges touch exactly one end of the edge at place k, or of no edge that is left
abbrev pub IsNextEdge : List Edge → List Edge → ℕ → Type 0
IsNextEdge taken left k =
    ((d : Edge) → IsLeafOf taken (slice_index_or left k d).row (slice_index_or left k d).col) ⊎ ((i e : ℕ) → HasEdge left i e → ¬ (IsLeafOf taken i e))
