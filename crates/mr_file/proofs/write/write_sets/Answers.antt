-- The sets of which one is refused.
use Rattle.mr_file.proofs.Writing.{sets_cut}
use Rattle.mr_file.proofs.write.write_sets.Goals as goal

pub returns-in_err-write_set-clause-err : goal.returns-in_err-write_set-clause-err
returns-in_err-write_set-clause-err c = sets_cut c.from_residual.result c.args.sets.now c.loop-s.s-index c.s-item.result c.args.out.now c.loop-s.out c.write_set.new.out c.loop-s-test.true c.s-item.is c.loop-s.invariant c.in_err-write_set.ensures.err
