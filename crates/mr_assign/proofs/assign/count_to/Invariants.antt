-- the positions so far are counted
use Rattle.std.proofs.Common.{◌≡◌}
use Rattle.mr_assign.proofs.Maps.{count_below}
use Rattle.mr_assign.proofs.assign.count_to.Given as goal

abbrev pub invariant-loop-p : goal.invariant-loop-p
invariant-loop-p l = l.count ≡ count_below l.words l.p
