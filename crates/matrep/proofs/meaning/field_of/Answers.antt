-- the value is a number of elements
use Rattle.matrep.specs.Words.{texts}
use Rattle.matrep.proofs.Meant.{field_given}
use Rattle.matrep.proofs.meaning.field_of.Goals as goal

pub returns-in-Some : goal.returns-in-Some
returns-in-Some c = field_given (texts c.args.operands.now) c.in-Some.text.now c.field_in.result c.requires c.in-Some.ensures c.field_in.ensures
