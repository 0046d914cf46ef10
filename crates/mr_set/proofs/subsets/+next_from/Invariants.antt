use Rattle.std.proofs.Common.{length, ◌-◌}
use Rattle.mr_set.proofs.subsets.+next_from.Given as goal

abbrev pub decreases-next_from : goal.decreases-next_from
decreases-next_from l = length l.elements.now - l.at
