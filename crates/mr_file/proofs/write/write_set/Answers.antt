-- A set's line whose newline is refused.
use Rattle.std.proofs.lemmas.Result.{on_err_weaker}
use Rattle.mr_text.specs.Text.{set_text}
use Rattle.mr_file.proofs.Writing.{newline_missing}
use Rattle.mr_file.proofs.write.write_set.Goals as goal

pub returns-clause-err : goal.returns-clause-err
returns-clause-err c = on_err_weaker c.put.result (newline_missing c.args.out.now c.put_set.new.self c.put.new.self (set_text c.args.s) c.in_ok-put_set.ensures.ok) c.put.ensures.err
