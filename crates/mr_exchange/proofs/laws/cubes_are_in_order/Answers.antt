-- The law as it is proved in CubesInOrder.
use Rattle.mr_exchange.proofs.CubesInOrder.{cubes_are_in_order}
use Rattle.mr_exchange.proofs.laws.cubes_are_in_order.Goals as goal

pub returns : goal.returns
returns c = cubes_are_in_order
