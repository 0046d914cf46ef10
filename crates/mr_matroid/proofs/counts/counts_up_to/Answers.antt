-- One count more.
use Rattle.std.proofs.Common.{sym, subst}
use Rattle.mr_matroid.specs.Private.Counts.{AreCountsBelow}
use Rattle.mr_matroid.proofs.Rows.{counts_more}
use Rattle.mr_matroid.proofs.counts.counts_up_to.Goals as goal

pub next_count-count-requires-clause-counts : goal.next_count-count-requires-clause-counts
next_count-count-requires-clause-counts c = subst (AreCountsBelow c.loop-i.i) (sym c.as_slice.ensures.value) c.loop-i.invariant

pub loop-i-preserved : goal.loop-i-preserved
loop-i-preserved c = rw c.in_ok-push.ensures.items (counts_more c.loop-i.i c.next_count-count.result c.loop-i.counts.items c.loop-i.invariant c.next_count-count.ensures)
