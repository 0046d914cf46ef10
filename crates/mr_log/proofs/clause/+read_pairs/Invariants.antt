-- Each call reads pairs from a later position on.
use Rattle.std.proofs.Common.{◌-◌}
use Rattle.mr_assign.specs.declared.TheConstants.{POSITIONS}
use Rattle.mr_log.proofs.clause.+read_pairs.Given as goal

abbrev pub decreases-read_pairs : goal.decreases-read_pairs
decreases-read_pairs l = POSITIONS - l.low
