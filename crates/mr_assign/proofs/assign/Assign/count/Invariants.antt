-- the positions of the words so far are counted
use Rattle.std.proofs.Common.{◌≡◌, ◌*◌}
use Rattle.mr_assign.proofs.Maps.{count_below}
use Rattle.mr_assign.proofs.assign.Assign.count.Given as goal

abbrev pub invariant-loop-i : goal.invariant-loop-i
invariant-loop-i l = l.count ≡ count_below l.self-inside.words (16 * l.i)
