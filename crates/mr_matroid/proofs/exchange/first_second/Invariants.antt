-- The best of the elements so far.
use Rattle.mr_matroid.specs.Private.Search.{IsBestBelow}
use Rattle.mr_matroid.proofs.exchange.first_second.Given as goal

abbrev pub invariant-loop-x : goal.invariant-loop-x
invariant-loop-x l = IsBestBelow l.table l.b1 l.x l.best
