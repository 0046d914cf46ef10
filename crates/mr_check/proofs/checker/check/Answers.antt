-- what the verdict shows
use Rattle.mr_check.proofs.Verdicts.{accepts, refuted}
use Rattle.mr_check.proofs.checker.check.Goals as goal

pub returns-clause-only : goal.returns-clause-only
returns-clause-only c = accepts c.args.field c.args.bytes.now c.checked.result c.checked.ensures.ok c.checked.ensures.rejected

pub returns-clause-refutes : goal.returns-clause-refutes
returns-clause-refutes c = refuted c.args.field c.args.bytes.now c.checked.result c.checked.ensures.ok
