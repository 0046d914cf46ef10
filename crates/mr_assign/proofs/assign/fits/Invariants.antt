-- no nibble so far is above VALUES
use Rattle.std.proofs.Common.{ℕ, ◌*◌, ◌<◌, ◌≤◌}
use Rattle.mr_assign.specs.declared.TheConstants.{VALUES}
use Rattle.mr_assign.specs.Packing.{nibble_at}
use Rattle.mr_assign.proofs.assign.fits.Given as goal

abbrev pub invariant-loop-p : goal.invariant-loop-p
invariant-loop-p l = (k : ℕ) → 16 * l.i ≤ k → k < l.p → nibble_at l.words k ≤ VALUES
