-- the forest before the first place
use Rattle.std.proofs.Common.{List, ◌≡◌, ◌+◌, ap, sym, subst, ◌∙◌, arith}
use Rattle.mr_graph.specs.declared.edge.Edge.{Edge}
use Rattle.mr_graph.specs.Graph.{Graph}
use Rattle.mr_graph.specs.Private.Grown.{IsGrown}
use Rattle.mr_graph.proofs.Growth.{grown_none}
use Rattle.mr_graph.proofs.bipartite.Bipartite.grown.Goals as goal

pub loop-row-init : goal.loop-row-init
loop-row-init c =
    let sizes : c.self.inside.rows + c.self.inside.cols ≡ c.args.self.now.rows + c.args.self.now.cols = ap (λ (g : Graph). g.rows + g.cols) c.self.view_is in
    subst (λ (xs : List Edge). IsGrown c.args.self.now c.in_ok-labels.labels.items xs 0 0) (sym c.new-forest.ensures)
    (grown_none c.args.self.now c.in_ok-labels.labels.items (c.in_ok-labels.ensures.size ∙ sizes) (λ k lt. c.in_ok-labels.ensures.own k (omega arith)))
