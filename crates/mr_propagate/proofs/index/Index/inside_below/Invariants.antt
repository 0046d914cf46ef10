-- what was found among the clauses without values from this position on
use Rattle.mr_nogood.specs.Follows.{in_slots}
use Rattle.mr_propagate.specs.Private.Found.{IsLeastFound, EndsBefore}
use Rattle.mr_propagate.proofs.index.Index.inside_below.Given as goal

abbrev pub invariant-loop-q : goal.invariant-loop-q
invariant-loop-q l = IsLeastFound (in_slots l.self) (EndsBefore l.q) l.node l.found
