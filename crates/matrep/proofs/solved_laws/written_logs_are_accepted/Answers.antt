-- the law as it is proved in Rechecked
use Rattle.matrep.proofs.Rechecked.{written_logs_are_accepted}
use Rattle.matrep.proofs.solved_laws.written_logs_are_accepted.Goals as goal

pub returns : goal.returns
returns c = written_logs_are_accepted
