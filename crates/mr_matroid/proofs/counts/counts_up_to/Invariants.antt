-- The counts so far.
use Rattle.mr_matroid.specs.Private.Counts.{AreCountsBelow}
use Rattle.mr_matroid.proofs.counts.counts_up_to.Given as goal

abbrev pub invariant-loop-i : goal.invariant-loop-i
invariant-loop-i l = AreCountsBelow l.i l.counts.items
