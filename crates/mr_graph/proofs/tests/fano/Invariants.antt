-- the graph keeps its size while edges are added
use Rattle.std.proofs.Common.{◌≡◌}
use Rattle.mr_graph.proofs.tests.fano.Given as goal

abbrev pub invariant-loop-edge : goal.invariant-loop-edge
invariant-loop-edge l = (l.graph.rows ≡ 3) × (l.graph.cols ≡ 7)
