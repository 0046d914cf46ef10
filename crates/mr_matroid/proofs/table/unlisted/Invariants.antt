-- The sets so far that aren't listed.
use Rattle.mr_set.specs.Private.Enumeration.{weight}
use Rattle.mr_matroid.proofs.BasisLists.{AreBasesBefore}
use Rattle.mr_matroid.proofs.table.unlisted.Given as goal

abbrev pub invariant-sets : goal.invariant-sets
invariant-sets l = AreBasesBefore l.listing l.s l.sets.items

abbrev pub decreases-sets : goal.decreases-sets
decreases-sets l = weight l.s
