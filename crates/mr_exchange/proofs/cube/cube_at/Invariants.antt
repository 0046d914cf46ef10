-- the positions before this one have their values
use Rattle.std.proofs.Common.{◌-◌}
use Rattle.mr_field.specs.Gf.{order}
use Rattle.mr_exchange.proofs.Digits.{IsBegun}
use Rattle.mr_exchange.proofs.cube.cube_at.Given as goal

abbrev pub invariant-loop-p : goal.invariant-loop-p
invariant-loop-p l = IsBegun (order l.frame.field - 1) l.depth l.c l.cube l.rest l.p (l.depth - l.p)
