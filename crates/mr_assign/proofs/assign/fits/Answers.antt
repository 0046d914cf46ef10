-- a nibble above VALUES is one among those of all positions
use Rattle.std.proofs.Common.{ℕ, ◌<◌, subst, arith}
use Rattle.mr_assign.specs.declared.TheConstants.{VALUES}
use Rattle.mr_assign.proofs.Maps.{above_at}
use Rattle.mr_assign.proofs.assign.fits.Goals as goal

pub returns-then-nibble_at-gt-VALUES : goal.returns-then-nibble_at-gt-VALUES
returns-then-nibble_at-gt-VALUES c =
    above_at c.args.words.now c.loop-p.p (let top = c.loop-p.auto.p-end in omega arith) (subst (λ (n : ℕ). VALUES < n) c.nibble_at.ensures c.if-nibble_at-gt-VALUES.true)
