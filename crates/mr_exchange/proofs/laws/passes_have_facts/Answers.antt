-- The law as it is proved in OnePass.
use Rattle.mr_exchange.proofs.OnePass.{passes_have_facts}
use Rattle.mr_exchange.proofs.laws.passes_have_facts.Goals as goal

pub returns : goal.returns
returns c = passes_have_facts
