use Rattle.std.proofs.Common.{◌-◌}
use Rattle.mr_set.proofs.places.+subset_from.Given as goal

abbrev pub decreases-subset_from : goal.decreases-subset_from
decreases-subset_from l = l.n - l.low
