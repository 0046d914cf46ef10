-- The sets so far that aren't completed to bases.
use Rattle.std.proofs.Common.{◌-◌, length}
use Rattle.mr_set.specs.Subsets.{IsSetOf}
use Rattle.mr_set.specs.Private.Enumeration.{weight}
use Rattle.mr_minor.specs.Private.Best.{IsCompleted}
use Rattle.mr_minor.proofs.Collecting.{Collected}
use Rattle.mr_minor.proofs.minors.nonbases_of_minor.Given as goal

abbrev pub invariant-sets : goal.invariant-sets
invariant-sets l = IsSetOf (length l.kept) (l.m.rank - length l.fixed) l.x × Collected (length l.kept) (l.m.rank - length l.fixed) (IsCompleted l.m l.kept l.fixed) l.x l.nonbases.items

abbrev pub decreases-sets : goal.decreases-sets
decreases-sets l = weight l.x
