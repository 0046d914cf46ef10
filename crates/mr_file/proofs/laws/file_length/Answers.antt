-- The law as it is proved in Lengths.
use Rattle.mr_file.proofs.Lengths.{file_length}
use Rattle.mr_file.proofs.laws.file_length.Goals as goal

pub returns : goal.returns
returns c = file_length
