-- The head, the steps and the end, one after another.
use Rattle.mr_log.proofs.Pieces.{log_written}
use Rattle.mr_log.proofs.write.write_log.Goals as goal

pub returns : goal.returns
returns c =
    log_written c.args.log.now c.new-out.result c.write_head.new.out c.write_steps.new.out c.write_end.new.out c.as_slice.result.now c.new-out.ensures c.as_slice.ensures c.in_ok-write_head.ensures c.in_ok-write_steps.ensures c.in_ok-write_end.ensures
