-- The law as it is proved in OnePass.
use Rattle.mr_exchange.proofs.OnePass.{words_are_small}
use Rattle.mr_exchange.proofs.laws.words_are_small.Goals as goal

pub returns : goal.returns
returns c = words_are_small
