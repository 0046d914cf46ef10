-- the value is the order of a plane
use Rattle.matrep.specs.Words.{texts}
use Rattle.matrep.proofs.Meant.{order_given}
use Rattle.matrep.proofs.meaning.order_of.Goals as goal

pub returns-in-Some : goal.returns-in-Some
returns-in-Some c = order_given (texts c.args.operands.now) c.in-Some.text.now c.order_in.result c.requires c.in-Some.ensures c.order_in.ensures
