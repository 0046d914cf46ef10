-- the list of the other key
use Rattle.matrep.specs.Words.{texts}
use Rattle.matrep.proofs.Scanning.{delete_answer, contract_answer}
use Rattle.matrep.proofs.operands.is_apart.Goals as goal

pub returns-in-Delete : goal.returns-in-Delete
returns-in-Delete c = delete_answer (texts c.args.before.now) c.args.key c.args.value.now c.is_apart_from.result c.in-Delete.is c.requires.new c.is_apart_from.ensures

pub returns-in-Contract : goal.returns-in-Contract
returns-in-Contract c = contract_answer (texts c.args.before.now) c.args.key c.args.value.now c.is_apart_from-in-Contract.result c.in-Contract.is c.requires.new c.is_apart_from-in-Contract.ensures
