-- The law as it is proved in Accepting.
use Rattle.mr_file.proofs.Accepting.{never_refused}
use Rattle.mr_file.proofs.laws.no_refusal.Goals as goal

pub returns : goal.returns
returns c = never_refused
