-- The sets so far whose complements are no bases.
use Rattle.std.proofs.Common.{◌-◌}
use Rattle.mr_set.specs.Subsets.{IsSetOf}
use Rattle.mr_set.specs.Private.Enumeration.{weight}
use Rattle.mr_minor.specs.Dual.{HasCobasis}
use Rattle.mr_minor.proofs.Collecting.{Collected}
use Rattle.mr_minor.proofs.duals.nonbases_of_dual.Given as goal

abbrev pub invariant-sets : goal.invariant-sets
invariant-sets l = IsSetOf l.m.elements (l.m.elements - l.m.rank) l.x × Collected l.m.elements (l.m.elements - l.m.rank) (HasCobasis l.m) l.x l.nonbases.items

abbrev pub decreases-sets : goal.decreases-sets
decreases-sets l = weight l.x
