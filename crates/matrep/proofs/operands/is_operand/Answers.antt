-- the word's key and value are new
use Rattle.matrep.specs.Words.{texts}
use Rattle.matrep.proofs.Scanning.{operand_answer}
use Rattle.matrep.proofs.operands.is_operand.Goals as goal

pub returns-in-Some : goal.returns-in-Some
returns-in-Some c = operand_answer c.args.name (texts c.args.before.now) c.args.word.now c.in-Some.found.0 c.in-Some.found.1.now c.is_new.result c.in-Some.ensures c.is_new.ensures
