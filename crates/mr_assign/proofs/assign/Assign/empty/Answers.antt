-- words of zeros have no value
use Rattle.std.proofs.Common.{refl}
use Rattle.mr_assign.specs.Packing.{nibbles}
use Rattle.mr_assign.proofs.assign.Assign.empty.Goals as goal

pub returns : goal.returns
unfolding nibbles
returns c = refl
