-- The law as it is proved in Refusals.
use Rattle.mr_file.proofs.Refusals.{one_part_refusal}
use Rattle.mr_file.proofs.laws.one_part_refusal.Goals as goal

pub returns : goal.returns
returns c = one_part_refusal
