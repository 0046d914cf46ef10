-- no nibble of the words so far is above VALUES
use Rattle.std.proofs.Common.{ℕ, ◌*◌, ◌<◌, ◌≤◌}
use Rattle.mr_assign.specs.declared.TheConstants.{VALUES}
use Rattle.mr_assign.specs.Packing.{nibble_at}
use Rattle.mr_assign.proofs.assign.Assign.of_words.Given as goal

abbrev pub invariant-loop-i : goal.invariant-loop-i
invariant-loop-i l = (k : ℕ) → k < 16 * l.i → nibble_at l.words k ≤ VALUES
