-- A line of a key and a number of which a piece is refused.
use Rattle.std.proofs.lemmas.Result.{on_err_weaker}
use Rattle.mr_file.proofs.Writing.{number_missing, keyed_missing}
use Rattle.mr_file.proofs.write.write_keyed.Goals as goal

pub returns-in_err-put_number-clause-err : goal.returns-in_err-put_number-clause-err
returns-in_err-put_number-clause-err c = number_missing c.from_residual-in_err-put_number.result c.args.out.now c.put.new.self c.put_number.new.self c.args.key.now c.args.v c.in_ok-put.ensures.ok c.in_err-put_number.ensures.err

pub returns-clause-err : goal.returns-clause-err
returns-clause-err c = on_err_weaker c.put-2.result
    (keyed_missing c.args.out.now c.put.new.self c.put_number.new.self c.put-2.new.self c.args.key.now c.args.v c.in_ok-put.ensures.ok c.in_ok-put_number.ensures.ok) c.put-2.ensures.err
