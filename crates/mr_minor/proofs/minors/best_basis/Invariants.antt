-- No basis so far has a higher score.
use Rattle.std.proofs.Common.{◌≤◌}
use Rattle.mr_set.specs.Subsets.{IsSetOf}
use Rattle.mr_set.specs.Matroid.{IsBasis}
use Rattle.mr_set.specs.Private.Enumeration.{weight}
use Rattle.mr_matroid.proofs.Walk.{Seen}
use Rattle.mr_minor.specs.Private.Best.{score}
use Rattle.mr_minor.proofs.minors.best_basis.Given as goal

abbrev pub invariant-bases : goal.invariant-bases
invariant-bases l = IsSetOf l.m.elements l.m.rank l.b × IsBasis l.m l.best × Seen l.m.elements l.m.rank l.b (λ y. IsBasis l.m y → score l.kept l.contracted y ≤ score l.kept l.contracted l.best)

abbrev pub decreases-bases : goal.decreases-bases
decreases-bases l = weight l.b
