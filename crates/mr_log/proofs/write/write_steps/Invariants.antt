-- The lines of the steps so far were appended.
use Rattle.std.proofs.Common.{◌≡◌, ◌++◌, take}
use Rattle.mr_log.specs.Private.Written.{steps_text}
use Rattle.mr_log.proofs.write.write_steps.Given as goal

abbrev pub invariant-loop-row : goal.invariant-loop-row
invariant-loop-row l = l.out ≡ l.fn.out ++ steps_text l.q (take l.row-index l.rows)
