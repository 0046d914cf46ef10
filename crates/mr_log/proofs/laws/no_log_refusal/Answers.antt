-- The law as it is proved in Accepting.
use Rattle.mr_log.proofs.Accepting.{no_log_refusal}
use Rattle.mr_log.proofs.laws.no_log_refusal.Goals as goal

pub returns : goal.returns
returns c = no_log_refusal
