-- A position that is too large.
use Rattle.mr_log.proofs.StepLines.{large_position}
use Rattle.mr_log.proofs.step.read_position.Goals as goal

pub returns-then-p-ge-POSITIONS : goal.returns-then-p-ge-POSITIONS
returns-then-p-ge-POSITIONS c = large_position c.in-Some.p c.args.words.now c.next_is.new.self c.read_number.new.words c.if-next_is.ensures.yes c.in-Some.ensures.0 c.in-Some.ensures.1 c.if-p-ge-POSITIONS.true
