-- A clause of no pairs, and one of pairs.
use Rattle.std.proofs.Common.{sym, ◌∙◌, arith, codes}
use Rattle.mr_log.proofs.Clauses.{agrees, differs, not_by, dash_clause, pairs_clause}
use Rattle.mr_log.proofs.clause.read_clause.Goals as goal

pub returns-then-eq : goal.returns-then-eq
returns-then-eq c =
    let dash = agrees c.in-Some.word.now c.as_slice.result.now (codes "-") c.eq.result c.eq.ensures c.if-eq.true c.as_slice.ensures in
    dash_clause c.args.q c.in-Some.word.now c.args.words.now c.next.new.self c.no_pairs.new.words c.no_pairs.result (omega arith) c.in-Some.ensures dash c.no_pairs.ensures

pub returns-then-eq-2 : goal.returns-then-eq-2
returns-then-eq-2 c a rest is words =
    let by = agrees c.in-Some.word.now c.as_slice-in-Some.result.now (codes "by") c.eq-in-Some.result c.eq-in-Some.ensures c.if-eq-2.true c.as_slice-in-Some.ensures in
    not_by c.args.q a c.in-Some.word.now c.next.new.self rest c.requires.1 is by (sym c.in-Some.ensures ∙ words)

pub returns-else-eq-2 : goal.returns-else-eq-2
returns-else-eq-2 c =
    let no_dash = differs c.in-Some.word.now c.as_slice.result.now (codes "-") c.eq.result c.eq.ensures c.if-eq.false c.as_slice.ensures in
    let no_end = differs c.in-Some.word.now c.as_slice-in-Some.result.now (codes "by") c.eq-in-Some.result c.eq-in-Some.ensures c.if-eq-2.false c.as_slice-in-Some.ensures in
    pairs_clause c.args.q c.in-Some.word.now c.args.words.now c.next.new.self c.read_pairs.new.words c.read_pairs.result c.in-Some.ensures no_dash no_end c.read_pairs.ensures
