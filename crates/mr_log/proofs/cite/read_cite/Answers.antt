-- A cite by its first word.
use Rattle.std.proofs.Common.{codes}
use Rattle.mr_file.specs.Reading.{listing}
use Rattle.mr_log.proofs.Clauses.{agrees}
use Rattle.mr_log.proofs.Cites.{test_read}
use Rattle.mr_log.proofs.cite.read_cite.Goals as goal

pub returns-then-eq : goal.returns-then-eq
returns-then-eq c =
    let first = agrees c.in-Some.word.now c.as_slice.result.now (codes "t") c.eq.result c.eq.ensures c.if-eq.true c.as_slice.ensures in
    test_read (listing c.args.listed.now) c.in-Some.word.now c.args.words.now c.next.new.self c.read_set.new.words c.read_set.result c.test_of.result c.in-Some.ensures first c.test_of.ensures c.read_set.ensures
