-- the head, the clause and the cites before this one are written
use Rattle.mr_nogood.proofs.Words.{IsPackedTo}
use Rattle.mr_nogood.proofs.packing.pack.Given as goal

abbrev pub invariant-loop-k : goal.invariant-loop-k
invariant-loop-k l = IsPackedTo l.row l.words l.k
