-- A first forest as far as a place, with labels of what it joins.
use Rattle.std.specs.Prelude.{◌≡◌, ◌↔◌, ℕ, List, AllPairs}
use Rattle.mr_graph.specs.declared.edge.Edge.{Edge}
use Rattle.mr_graph.specs.Graph.{Graph, IsEdge, row, col}
use Rattle.mr_graph.specs.Forest.{HasEdge, IsEarlierPlace, HasEdgeBefore, ClosesCycle}
use Rattle.mr_graph.specs.Private.Labels.{label, IsLabelled}

-- the forest has just the edges of the first forest before the place (i, e)
pub record IsGrown (g : Graph) (labels : List ℕ) (forest : List Edge) (i e : ℕ) : Type 0 where
  pub labelled : IsLabelled g.rows g.cols (HasEdge forest) labels
  pub spans : (i' e' : ℕ) → IsEdge g i' e' → IsEarlierPlace i' e' i e → label g.rows labels (row i') ≡ label g.rows labels (col e')
  pub before : (i' e' : ℕ) → HasEdge forest i' e' → IsEarlierPlace i' e' i e
  pub rising : AllPairs (λ x y. IsEarlierPlace x.row x.col y.row y.col) forest
  pub taken : (i' e' : ℕ) → IsEarlierPlace i' e' i e → HasEdge forest i' e' ↔ (IsEdge g i' e' × ¬ (ClosesCycle (HasEdgeBefore forest i' e') i' e'))
