-- The lines before the steps, one after another.
use Rattle.std.proofs.Common.{ap, length}
use Rattle.mr_log.proofs.Pieces.{head_written}
use Rattle.mr_log.proofs.write.write_head.Goals as goal

pub returns : goal.returns
returns c =
    head_written c.put-4.result c.args.log.now c.args.out.now c.put.new.self c.put_number.new.self c.put-2.new.self c.write_matroid.new.out c.put-3.new.self c.put_number-2.new.self c.put-4.new.self c.from.result (length c.as_slice.result.now)
    c.from.ensures (ap length c.as_slice.ensures) c.in_ok-put.ensures.ok c.in_ok-put_number.ensures.ok c.in_ok-put-2.ensures.ok c.in_ok-write_matroid.ensures.ok c.in_ok-put-3.ensures.ok c.in_ok-put_number-2.ensures.ok c.put-4.ensures.ok
