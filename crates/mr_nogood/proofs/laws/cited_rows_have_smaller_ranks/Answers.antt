-- The law as it is proved in Excluding.
use Rattle.mr_nogood.proofs.Excluding.{cited_rows_have_smaller_ranks}
use Rattle.mr_nogood.proofs.laws.cited_rows_have_smaller_ranks.Goals as goal

pub returns : goal.returns
returns c = cited_rows_have_smaller_ranks
