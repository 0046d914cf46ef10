use Rattle.std.proofs.Common.{◌-◌}
use Rattle.mr_set.proofs.places.+place_from.Given as goal

abbrev pub decreases-place_from : goal.decreases-place_from
decreases-place_from l = l.n - l.low
