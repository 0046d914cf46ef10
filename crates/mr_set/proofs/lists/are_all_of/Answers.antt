-- All of them have it where none was found that has not.
use Rattle.std.proofs.Common.{refl, arith}
use Rattle.mr_set.proofs.lists.are_all_of.Goals as goal

pub returns : goal.returns
returns c = ((λ _ k d lt. c.loop-x.invariant k d (omega arith)), (λ _. refl))
