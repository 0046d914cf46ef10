-- a name and its operands
use Rattle.matrep.proofs.Meant.{says}
use Rattle.matrep.proofs.words.read_words.Goals as goal

pub returns-in-Ok-clause-says : goal.returns-in-Ok-clause-says
returns-in-Ok-clause-says c = says c.args.words.now c.first-item.result c.in-Some.name c.in-Ok.command c.in-len1-up.len_at_least c.first-item.is c.in-Some.ensures c.in-Ok.ensures
