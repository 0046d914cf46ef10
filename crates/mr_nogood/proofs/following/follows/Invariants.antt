-- the cites before this one are such as they must be
use Rattle.mr_nogood.specs.Follows.{in_slots}
use Rattle.mr_nogood.proofs.Cites.{AccountsBelow}
use Rattle.mr_nogood.proofs.following.follows.Given as goal

abbrev pub invariant-loop-k : goal.invariant-loop-k
invariant-loop-k l = AccountsBelow l.frame (in_slots l.earlier) l.row l.k
