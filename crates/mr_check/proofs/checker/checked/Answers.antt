-- the verdict of reading, or else that on the log
use Rattle.mr_check.proofs.Verdicts.{refused, accepted, faulty}
use Rattle.mr_check.proofs.checker.checked.Goals as goal

pub returns-in-Err-clause-rejected : goal.returns-in-Err-clause-rejected
returns-in-Err-clause-rejected c = rw c.fault_of.ensures (refused c.args.field c.args.bytes.now c.in-Err.fault c.in-Err.ensures.refusal)

pub returns-in-Ok-clause-ok : goal.returns-in-Ok-clause-ok
returns-in-Ok-clause-ok c = accepted c.args.field c.args.bytes.now c.in-Ok.log c.judge.result c.in-Ok.ensures.ok c.judge.ensures

pub returns-in-Ok-clause-rejected : goal.returns-in-Ok-clause-rejected
returns-in-Ok-clause-rejected c = faulty c.args.field c.args.bytes.now c.in-Ok.log c.judge.result c.in-Ok.ensures.ok c.judge.ensures
