-- an accepted log refutes
use Rattle.mr_check.proofs.Sound.{refutes}
use Rattle.mr_check.proofs.laws.accepted_logs_refute.Goals as goal

pub returns : goal.returns
returns c = refutes
