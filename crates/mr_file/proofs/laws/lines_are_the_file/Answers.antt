-- The law by the lemmas of Accepting.
use Rattle.mr_file.proofs.Accepting.{is_file, text_of_file}
use Rattle.mr_file.proofs.laws.lines_are_the_file.Goals as goal

pub returns : goal.returns
returns c = λ bytes m. (λ is. (text_of_file bytes m is, is.matroid), λ h. is_file bytes m h.0 h.1)
