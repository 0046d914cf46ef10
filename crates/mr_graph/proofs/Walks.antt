-- Walks, and numbers of vertices that are one along edges.
use Rattle.std.proofs.Common.{ℕ, ◌≡◌, refl, sym, ◌∙◌}
use Rattle.mr_graph.specs.Graph.{Vertex, row, col, Walk, stay, to_col, to_row}

-- what is one along each edge is one along a walk
pub walk-label : {F : ℕ → ℕ → Type 0} (label : Vertex → ℕ) → ((i e : ℕ) → F i e → label (row i) ≡ label (col e)) → {u v : Vertex} → Walk F u v → label u ≡ label v
walk-label label h stay = refl
walk-label label h (to_col {i = i} {e = e} w x) = walk-label label h w ∙ h i e x
walk-label label h (to_row {i = i} {e = e} w x) = walk-label label h w ∙ sym (h i e x)

-- two walks make one
pub walk-trans : {F : ℕ → ℕ → Type 0} {u v w : Vertex} → Walk F u v → Walk F v w → Walk F u w
walk-trans p stay = p
walk-trans p (to_col q x) = to_col (walk-trans p q) x
walk-trans p (to_row q x) = to_row (walk-trans p q) x

-- a walk goes back the same way
pub walk-sym : {F : ℕ → ℕ → Type 0} {u v : Vertex} → Walk F u v → Walk F v u
walk-sym stay = stay
walk-sym (to_col p x) = walk-trans (to_row stay x) (walk-sym p)
walk-sym (to_row p x) = walk-trans (to_col stay x) (walk-sym p)

-- a walk stays one where there are more edges
pub walk-more : {F G : ℕ → ℕ → Type 0} → ((i e : ℕ) → F i e → G i e) → {u v : Vertex} → Walk F u v → Walk G u v
walk-more h stay = stay
walk-more h (to_col {i = i} {e = e} p x) = to_col (walk-more h p) (h i e x)
walk-more h (to_row {i = i} {e = e} p x) = to_row (walk-more h p) (h i e x)
