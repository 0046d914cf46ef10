-- The law as it is proved in Runs.
use Rattle.mr_exchange.proofs.Runs.{each_cube_has_one_pass}
use Rattle.mr_exchange.proofs.laws.each_cube_has_one_pass.Goals as goal

pub returns : goal.returns
returns c = each_cube_has_one_pass
