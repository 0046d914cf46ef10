use Rattle.mr_set.proofs.Uniqueness.{next-place}
use Rattle.mr_set.proofs.laws.next_set_stands_next.Goals as goal

pub returns : goal.returns
returns c = next-place
