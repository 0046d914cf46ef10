-- the first forest as far as this place
use Rattle.mr_graph.specs.Private.Grown.{IsGrown}
use Rattle.mr_graph.proofs.bipartite.Bipartite.grown.Given as goal

abbrev pub invariant-loop-row : goal.invariant-loop-row
invariant-loop-row l = IsGrown l.self l.labels.items l.forest l.row 0

abbrev pub invariant-loop-col : goal.invariant-loop-col
invariant-loop-col l = IsGrown l.self l.labels.items l.forest l.row l.col
