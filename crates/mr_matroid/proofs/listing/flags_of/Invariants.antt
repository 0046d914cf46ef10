-- The flags of the sets so far.
use Rattle.std.proofs.Common.{take}
use Rattle.mr_matroid.specs.Private.Table.{AreFlags}
use Rattle.mr_matroid.proofs.listing.flags_of.Given as goal

abbrev pub invariant-loop-s : goal.invariant-loop-s
invariant-loop-s l = AreFlags l.n l.r (take l.s-index l.sets) l.flags.items
