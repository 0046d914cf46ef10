-- The clause has the pairs that are used at the positions before.
use Rattle.mr_nogood.specs.Follows.{in_slots}
use Rattle.mr_search.proofs.Used.{HasUsedTo}
use Rattle.mr_search.proofs.deducing.clause_of.Given as goal

abbrev pub invariant-loop-q : goal.invariant-loop-q
invariant-loop-q l = HasUsedTo l.frame (in_slots l.index) l.cites l.node l.clause l.q
