-- The row-major greedy forest.
use Rattle.std.specs.Prelude.{◌≡◌, ◌⊎◌, ◌↔◌, ℕ, ◌<◌, List, [], ◌∷◌, AllPairs}
use Rattle.mr_graph.specs.declared.edge.Edge.{Edge}
use Rattle.mr_graph.specs.Graph.{Vertex, row, col, Walk}

-- the list has the edge of row i and column e
abbrev pub HasEdge : List Edge → ℕ → ℕ → Type 0
HasEdge [] i e = ⊥
HasEdge (x ∷ xs) i e = ((i ≡ x.row) × (e ≡ x.col)) ⊎ HasEdge xs i e

-- row by row, and in a row by column
abbrev pub IsEarlierPlace : (i e i' e' : ℕ) → Type 0
IsEarlierPlace i e i' e' = (i < i') ⊎ ((i ≡ i') × (e < e'))

-- the edges of the list before the place (i, e)
abbrev pub HasEdgeBefore : List Edge → (i e : ℕ) → ℕ → ℕ → Type 0
HasEdgeBefore xs i e i' e' = HasEdge xs i' e' × IsEarlierPlace i' e' i e

-- row i and column e are joined already, so that an edge between them closes a cycle with those of F
abbrev pub ClosesCycle : (ℕ → ℕ → Type 0) → ℕ → ℕ → Type 0
ClosesCycle F i e = Walk F (row i) (col e)

-- in row-major order, just the edges of G that close no cycle with the edges taken before
pub record IsFirstForest (G : ℕ → ℕ → Type 0) (xs : List Edge) : Type 0 where
  pub rising : AllPairs (λ x y. IsEarlierPlace x.row x.col y.row y.col) xs
  pub taken : (i e : ℕ) → HasEdge xs i e ↔ (G i e × ¬ (ClosesCycle (HasEdgeBefore xs i e) i e))

-- the edges of F but the one of row i and column e
abbrev pub Other : (ℕ → ℕ → Type 0) → ℕ → ℕ → ℕ → ℕ → Type 0
Other F i e i' e' = F i' e' × ¬ ((i' ≡ i) × (e' ≡ e))

-- there is no cycle: the other edges join the ends of no edge
abbrev pub IsAcyclic : (ℕ → ℕ → Type 0) → Type 0
IsAcyclic F = (i e : ℕ) → F i e → ¬ (Walk (Other F i e) (row i) (col e))

-- the edges of F join what those of G join
abbrev pub Spans : (ℕ → ℕ → Type 0) → (ℕ → ℕ → Type 0) → Type 0
Spans F G = (u v : Vertex) → Walk G u v → Walk F u v
