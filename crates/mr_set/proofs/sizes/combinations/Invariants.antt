use Rattle.std.proofs.Common.{◌≡◌}
use Rattle.mr_set.specs.Subsets.{choose}
use Rattle.mr_set.proofs.sizes.combinations.Given as goal

abbrev pub invariant-loop-k : goal.invariant-loop-k
invariant-loop-k l = l.count ≡ choose l.n l.k
