-- The sets so far whose columns are dependent.
use Rattle.mr_set.specs.Subsets.{IsSetOf}
use Rattle.mr_set.specs.Private.Enumeration.{weight}
use Rattle.mr_linear.specs.Matrix.{height, AreIndependent}
use Rattle.mr_minor.proofs.Collecting.{Collected}
use Rattle.mr_matrix.proofs.represented.dependent_sets.Given as goal

abbrev pub invariant-sets : goal.invariant-sets
invariant-sets l = IsSetOf l.a.cols (height l.a) l.x × Collected l.a.cols (height l.a) (AreIndependent l.a) l.x l.nonbases.items

abbrev pub decreases-sets : goal.decreases-sets
decreases-sets l = weight l.x
