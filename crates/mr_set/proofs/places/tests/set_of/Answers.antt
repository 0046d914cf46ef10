use Rattle.std.proofs.Common.{sym, subst, get_or, [], arith}
use Rattle.mr_set.specs.Elements.{IsSet}
use Rattle.mr_set.proofs.Tests.{IsSet-more, IsSet-with, IsSet-numbers_below}
use Rattle.mr_set.proofs.places.tests.set_of.Goals as goal

pub loop-e-init : goal.loop-e-init
loop-e-init c = subst (IsSet c.args.n) (sym c.empty-s.ensures) (IsSet-more 0 c.args.n [] (omega arith) (IsSet-numbers_below 0))

pub loop-e-preserved : goal.loop-e-preserved
loop-e-preserved c =
    subst (IsSet c.args.n) (sym c.with-s.ensures)
    (IsSet-with c.args.n (get_or c.args.listed.now c.loop-e.e-index 0) c.loop-e.s (omega arith) c.loop-e.invariant)
