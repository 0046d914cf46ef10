-- Of the sets so far each stands before the next.
use Rattle.mr_set.proofs.Ordered.{RisesTo}
use Rattle.mr_set.specs.Subsets.{list_cmp}
use Rattle.mr_set.proofs.lists.is_rising.Given as goal

abbrev pub invariant-loop-i : goal.invariant-loop-i
invariant-loop-i l = RisesTo list_cmp l.sets l.i
