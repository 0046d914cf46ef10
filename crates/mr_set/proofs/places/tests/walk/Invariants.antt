use Rattle.std.proofs.Common.{length}
use Rattle.mr_set.specs.Subsets.{IsSetOf}
use Rattle.mr_set.proofs.places.tests.walk.Given as goal

abbrev pub invariant-loop-k : goal.invariant-loop-k
invariant-loop-k l = IsSetOf l.n (length l.s) l.s
