-- the first forest is a spanning forest
use Rattle.mr_graph.proofs.Growth.{grown_all, grown_spans}
use Rattle.mr_graph.proofs.Cycles.{acyclic_first}
use Rattle.mr_graph.proofs.bipartite.Bipartite.first_forest.Goals as goal

pub returns-clause-acyclic : goal.returns-clause-acyclic
returns-clause-acyclic c =
    acyclic_first c.args.self.now c.in_ok-grown.grown.forest (grown_all c.args.self.now c.in_ok-grown.grown.labels.items c.in_ok-grown.grown.forest c.in_ok-grown.ensures.grown)

pub returns-clause-spanning : goal.returns-clause-spanning
returns-clause-spanning c = λ u v w. grown_spans c.args.self.now c.in_ok-grown.grown.labels.items c.in_ok-grown.grown.forest c.in_ok-grown.ensures.grown w
