-- the cites before this one are read
use Rattle.std.proofs.Common.{◌≡◌, ℕ, ◌+◌, ◌<◌, length, get_or}
use Rattle.mr_assign.specs.declared.TheConstants.{VALUES}
use Rattle.mr_nogood.specs.Unpacking.{cite_of}
use Rattle.mr_nogood.specs.declared.row.Cite.TheVariants.{Nothing}
use Rattle.mr_nogood.proofs.packing.read.Given as goal

abbrev pub invariant-loop-k : goal.invariant-loop-k
invariant-loop-k l = (length l.cites ≡ VALUES) × ((j : ℕ) → j < l.k → get_or l.cites j Nothing ≡ cite_of (get_or l.words (7 + j) 0))
