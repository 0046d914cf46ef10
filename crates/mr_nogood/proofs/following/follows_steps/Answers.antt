-- the row is open, and each of its cites is such as it must be
use Rattle.std.proofs.Common.{refl, arith}
use Rattle.mr_nogood.specs.Follows.{in_list}
use Rattle.mr_nogood.proofs.Cites.{follows_of}
use Rattle.mr_nogood.proofs.following.follows_steps.Goals as goal

pub returns : goal.returns
returns c = (
  λ _. follows_of c.args.frame.now (in_list c.args.steps.now) c.args.row.now (c.is_open.ensures.0 c.if-not-is_open.false) (λ k lt. c.loop-k.invariant k (omega arith)),
  λ _. refl,
)
