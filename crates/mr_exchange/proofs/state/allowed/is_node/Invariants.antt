-- no cube before this one is in the node
use Rattle.mr_exchange.proofs.Scanning.{NoCubeBefore}
use Rattle.mr_exchange.proofs.state.allowed.is_node.Given as goal

abbrev pub invariant-loop-c : goal.invariant-loop-c
invariant-loop-c l = NoCubeBefore l.frame l.depth l.cubes l.node l.c-index
