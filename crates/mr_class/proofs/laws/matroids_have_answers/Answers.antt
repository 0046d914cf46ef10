-- The law as it is proved in AllAnswers.
use Rattle.mr_class.proofs.AllAnswers.{matroids_have_answers}
use Rattle.mr_class.proofs.laws.matroids_have_answers.Goals as goal

pub returns : goal.returns
returns c = matroids_have_answers
