-- one more bit is one more edge
use Rattle.std.proofs.Common.{ℕ, ◌≡◌, ◌<◌, ◌⊎◌, ◌↔◌, subst, sym, arith}
use Rattle.mr_graph.specs.Graph.{Graph, IsEdge}
use Rattle.mr_graph.proofs.Words.{edge_with, graph, words_with}
use Rattle.mr_graph.proofs.bipartite.Bipartite.add.Goals as goal

pub returns-clause-edges : goal.returns-clause-edges
returns-clause-edges c =
    let new : Graph = graph c.self.inside.rows c.self.inside.cols (words_with c.self.inside.columns c.args.e.row c.args.e.col) in
    let row : c.args.e.row < c.self.inside.rows = subst (λ (g : Graph). c.args.e.row < g.rows) (sym c.self.view_is) c.requires.row in
    let col : c.args.e.col < c.self.inside.cols = subst (λ (g : Graph). c.args.e.col < g.cols) (sym c.self.view_is) c.requires.col in
    subst (λ (g : Graph). (i e : ℕ) → IsEdge new i e ↔ (IsEdge g i e ⊎ ((i ≡ c.args.e.row) × (e ≡ c.args.e.col)))) c.self.view_is
    (edge_with c.self.inside.rows c.self.inside.cols c.self.inside.columns c.args.e.row c.args.e.col row col (omega arith) (omega arith))
