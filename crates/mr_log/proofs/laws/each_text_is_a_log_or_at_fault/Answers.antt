-- The law as it is proved in Complete.
use Rattle.mr_log.proofs.Complete.{each_text_is_a_log_or_at_fault}
use Rattle.mr_log.proofs.laws.each_text_is_a_log_or_at_fault.Goals as goal

pub returns : goal.returns
returns c = each_text_is_a_log_or_at_fault
