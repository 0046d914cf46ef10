-- The law as it is proved in Excluding.
use Rattle.mr_nogood.proofs.Excluding.{more_rows_keep_what_follows}
use Rattle.mr_nogood.proofs.laws.more_rows_keep_what_follows.Goals as goal

pub returns : goal.returns
returns c = more_rows_keep_what_follows
