-- two lists and their masks
use Rattle.std.proofs.Common.{◌<◌, arith}
use Rattle.matrep.proofs.Lists.{shares}
use Rattle.matrep.proofs.operands.share_none.Goals as goal

pub returns-in-Some-elements_in : goal.returns-in-Some-elements_in
returns-in-Some-elements_in c = shares c.args.x.now c.args.y.now c.in-Some.first c.in-Some-elements_in.second (omega arith) c.in-Some.ensures c.in-Some-elements_in.ensures
