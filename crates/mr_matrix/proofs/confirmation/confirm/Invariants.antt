-- The matrix and the matroid differ at no set so far.
use Rattle.mr_set.specs.Subsets.{IsSetOf}
use Rattle.mr_set.specs.Private.Enumeration.{weight}
use Rattle.mr_matroid.proofs.Walk.{Seen}
use Rattle.mr_matrix.proofs.Differences.{IsSame}
use Rattle.mr_matrix.proofs.confirmation.confirm.Given as goal

abbrev pub invariant-sets : goal.invariant-sets
invariant-sets l = IsSetOf l.m.elements l.m.rank l.x × Seen l.m.elements l.m.rank l.x (IsSame l.m l.a)

abbrev pub decreases-sets : goal.decreases-sets
decreases-sets l = weight l.x
