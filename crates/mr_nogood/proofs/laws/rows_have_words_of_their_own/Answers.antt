-- The law as it is proved in Words.
use Rattle.mr_nogood.proofs.Words.{rows_have_words_of_their_own}
use Rattle.mr_nogood.proofs.laws.rows_have_words_of_their_own.Goals as goal

pub returns : goal.returns
returns c = rows_have_words_of_their_own
