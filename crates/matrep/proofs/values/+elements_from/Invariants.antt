-- what is left of the list
use Rattle.std.proofs.Common.{length}
use Rattle.matrep.proofs.values.+elements_from.Given as goal

abbrev pub decreases-elements_from : goal.decreases-elements_from
decreases-elements_from l = length l.text.now
