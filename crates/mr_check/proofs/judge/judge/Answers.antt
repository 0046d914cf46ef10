-- the verdict on a log
use Rattle.mr_check.proofs.Walk.{judged}
use Rattle.mr_check.proofs.judge.judge.Goals as goal

pub returns : goal.returns
returns c =
    judged c.args.field c.args.log c.in_ok-frame.frame c.nonbasis_count-first_line.result c.in_ok-frame.ensures.frame c.in_ok-frame.ensures.matroid c.in_ok-frame.ensures.field c.nonbasis_count-first_line.ensures.value
    c.verdict.result (rw c.as_slice.ensures at c.verdict.ensures)
