-- The law as it is proved in Words.
use Rattle.mr_nogood.proofs.Words.{unpacked-packed}
use Rattle.mr_nogood.proofs.laws.rows_come_back_from_their_words.Goals as goal

pub returns : goal.returns
returns c = unpacked-packed
