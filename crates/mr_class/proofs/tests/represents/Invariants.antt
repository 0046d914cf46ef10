-- each set before this one agrees, and its weight falls
use Rattle.std.proofs.Common.{◌↔◌}
use Rattle.mr_set.specs.Subsets.{IsSetOf}
use Rattle.mr_set.specs.Private.Enumeration.{weight}
use Rattle.mr_set.specs.Matroid.{IsIndependent}
use Rattle.mr_matroid.proofs.Walk.{Seen}
use Rattle.mr_linear.specs.Matrix.{AreIndependent}
use Rattle.mr_class.proofs.tests.represents.Given as goal

abbrev pub invariant-sets : goal.invariant-sets
invariant-sets l = IsSetOf l.m.elements l.m.rank l.x × Seen l.m.elements l.m.rank l.x (λ z. AreIndependent l.a z ↔ IsIndependent l.m z)

abbrev pub decreases-sets : goal.decreases-sets
decreases-sets l = weight l.x
