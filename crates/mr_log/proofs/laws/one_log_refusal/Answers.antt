-- The law as it is proved in Accepting.
use Rattle.mr_log.proofs.Accepting.{one_log_refusal}
use Rattle.mr_log.proofs.laws.one_log_refusal.Goals as goal

pub returns : goal.returns
returns c = one_log_refusal
