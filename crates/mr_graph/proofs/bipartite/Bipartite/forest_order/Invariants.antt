-- the edges so far are taken in order
use Rattle.std.proofs.Common.{vec_len}
use Rattle.mr_graph.proofs.Ordering.{IsOrdered}
use Rattle.mr_graph.proofs.bipartite.Bipartite.forest_order.Given as goal

abbrev pub invariant-loop-order : goal.invariant-loop-order
invariant-loop-order l = IsOrdered l.self l.forest l.order l.left.items

abbrev pub decreases-loop-order : goal.decreases-loop-order
decreases-loop-order l = vec_len l.left
