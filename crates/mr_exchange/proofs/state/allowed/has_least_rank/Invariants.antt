-- the number is past the ranks of the cites before this one, and no greater than it must be
use Rattle.std.proofs.Common.{◌≡◌, ◌<◌, length}
use Rattle.mr_assign.specs.declared.TheConstants.{VALUES}
use Rattle.mr_nogood.specs.Follows.{in_slots}
use Rattle.mr_exchange.proofs.Scanning.{IsLeastPast}
use Rattle.mr_exchange.proofs.state.allowed.has_least_rank.Given as goal

abbrev pub invariant-loop-k : goal.invariant-loop-k
invariant-loop-k l = (0 < l.k → length l.row.cites ≡ VALUES) × IsLeastPast (in_slots l.given) l.row l.k l.least
