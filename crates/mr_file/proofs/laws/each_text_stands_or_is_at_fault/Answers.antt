-- The law as it holds of every format.
use Rattle.mr_text.proofs.Complete.{stands_or_is_at_fault}
use Rattle.mr_file.specs.Reading.{whole_file}
use Rattle.mr_file.proofs.laws.each_text_stands_or_is_at_fault.Goals as goal

pub returns : goal.returns
returns c = λ bytes none sound. stands_or_is_at_fault whole_file bytes sound none
