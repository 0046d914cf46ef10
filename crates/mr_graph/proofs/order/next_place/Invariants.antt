-- no edge so far has exactly one end touched
use Rattle.mr_graph.proofs.Ordering.{NoLeafBelow}
use Rattle.mr_graph.proofs.order.next_place.Given as goal

abbrev pub invariant-loop-k : goal.invariant-loop-k
invariant-loop-k l = NoLeafBelow l.taken l.left l.k
