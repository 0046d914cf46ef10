-- The pairs from a position on.
use Rattle.std.proofs.Common.{◌≡◌, ◌∷◌, ◌++◌, List, ℕ, sym, subst, ap, ◌∙◌, arith, codes}
use Rattle.mr_log.specs.Private.Words.{IsClauseFrom, pair_words}
use Rattle.mr_log.proofs.Clauses.{agrees, differs, untrue, empty_clause, not_a_pair, pair_out, no_others, with_pair}
use Rattle.mr_log.proofs.clause.+read_pairs.Goals as goal

pub returns-then-eq : goal.returns-then-eq
returns-then-eq t c =
    let by = agrees c.args.word.now c.as_slice.result.now (codes "by") c.eq.result c.eq.ensures c.if-eq.true c.as_slice.ensures in
    subst (λ (a : List ℕ). IsClauseFrom c.args.q c.args.low a × (c.args.word.now ∷ c.args.words.now ≡ pair_words a ++ c.args.words.now)) (sym c.empty.ensures)
    (empty_clause c.args.q c.args.low (omega arith), ap (λ w. w ∷ c.args.words.now) by)

pub returns-in-None : goal.returns-in-None
returns-in-None t c =
    let other = differs c.args.word.now c.as_slice.result.now (codes "by") c.eq.result c.eq.ensures c.if-eq.false c.as_slice.ensures in
    not_a_pair c.args.q c.args.low c.args.word.now c.args.words.now c.requires.1 other c.in-None.ensures

pub returns-else-is_next_pair : goal.returns-else-is_next_pair
returns-else-is_next_pair t c =
    let other = differs c.args.word.now c.as_slice.result.now (codes "by") c.eq.result c.eq.ensures c.if-eq.false c.as_slice.ensures in
    pair_out c.args.q c.args.low c.in-Some.p c.in-Some.v c.args.word.now c.args.words.now c.requires.1 other c.in-Some.ensures.0 c.in-Some.ensures.1 c.in-Some.ensures.2
    (untrue c.is_next_pair.result c.is_next_pair.ensures c.if-is_next_pair.false)

pub returns-in-None-read_pairs : goal.returns-in-None-read_pairs
returns-in-None-read_pairs t c =
    let other = differs c.args.word.now c.as_slice.result.now (codes "by") c.eq.result c.eq.ensures c.if-eq.false c.as_slice.ensures in
    no_others c.args.q c.args.low c.in-Some.p c.in-Some.v c.args.word.now c.args.words.now c.requires.1 other c.in-Some.ensures.0 c.in-Some.ensures.1 c.in-Some.ensures.2
    (λ a rest is words. c.in-None-read_pairs.ensures a rest is (sym c.in-Some-next.ensures ∙ words))

pub returns-in-Some-read_pairs : goal.returns-in-Some-read_pairs
returns-in-Some-read_pairs t c =
    let within = c.is_next_pair.ensures.0 c.if-is_next_pair.true in
    subst (λ (a : List ℕ). IsClauseFrom c.args.q c.args.low a × (c.args.word.now ∷ c.args.words.now ≡ pair_words a ++ c.read_pairs.new.words)) (sym c.with.ensures)
    (with_pair c.args.q c.args.low c.in-Some.p c.in-Some.v c.args.word.now c.in-Some-read_pairs.others c.args.words.now c.read_pairs.new.words c.requires.1 within.0 within.1 within.2 within.3 c.in-Some.ensures.2
    c.in-Some-read_pairs.ensures.0 (c.in-Some-next.ensures ∙ c.in-Some-read_pairs.ensures.1))
