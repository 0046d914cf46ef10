-- The pairs of positions below p were written.
use Rattle.std.proofs.Common.{◌≤◌, ◌-◌, take}
use Rattle.mr_assign.specs.declared.TheConstants.{POSITIONS}
use Rattle.mr_log.specs.Lines.{pair_texts}
use Rattle.mr_log.proofs.Pieces.{Joined}
use Rattle.mr_log.proofs.write.write_clause.Given as goal

abbrev pub invariant-loop-p : goal.invariant-loop-p
invariant-loop-p l = (l.p ≤ POSITIONS) × Joined l.first (pair_texts 0 (take l.p l.a)) l.fn.out l.out

abbrev pub decreases-loop-p : goal.decreases-loop-p
decreases-loop-p l = POSITIONS - l.p
