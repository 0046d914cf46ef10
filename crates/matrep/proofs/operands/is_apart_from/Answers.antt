-- the other key is given one list
use Rattle.matrep.specs.Words.{texts}
use Rattle.matrep.proofs.Scanning.{apart_from_one}
use Rattle.matrep.proofs.operands.is_apart_from.Goals as goal

pub returns-in-Some : goal.returns-in-Some
returns-in-Some c = apart_from_one (texts c.args.before.now) c.args.other c.in-Some.text.now c.args.list.now c.share_none.result c.requires c.in-Some.ensures c.share_none.ensures
