-- the cites before this one are such as they must be
use Rattle.mr_nogood.specs.Follows.{in_list}
use Rattle.mr_nogood.proofs.Cites.{AccountsBelow}
use Rattle.mr_nogood.proofs.following.follows_steps.Given as goal

abbrev pub invariant-loop-k : goal.invariant-loop-k
invariant-loop-k l = AccountsBelow l.frame (in_list l.steps) l.row l.k
