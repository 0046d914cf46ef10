-- A step by its words.
use Rattle.std.proofs.Common.{◌∙◌, sym}
use Rattle.mr_file.specs.Reading.{listing}
use Rattle.mr_log.proofs.Clauses.{untrue}
use Rattle.mr_log.proofs.StepLines.{no_position, no_clause, no_cites, words_left_over, step_read}
use Rattle.mr_log.proofs.step.read_step.Goals as goal

pub returns-in-None : goal.returns-in-None
returns-in-None c =
    no_position (listing c.args.listed.now) c.args.q c.args.number c.args.line.now c.requires.elements c.requires.field.0 c.requires.field.1 (λ p rest small words. c.in-None.ensures p rest small (c.of-words.ensures ∙ words))

pub returns-in-None-read_clause : goal.returns-in-None-read_clause
returns-in-None-read_clause c =
    no_clause (listing c.args.listed.now) c.args.q c.args.number c.args.line.now c.requires.elements c.requires.field.0 c.requires.field.1 c.in-Some.at c.read_position.new.words c.in-Some.ensures.0 (sym c.of-words.ensures ∙ c.in-Some.ensures.1) c.in-None-read_clause.ensures

pub returns-in-None-read_cites : goal.returns-in-None-read_cites
returns-in-None-read_cites c =
    no_cites (listing c.args.listed.now) c.args.q c.args.number c.args.line.now c.requires.elements c.requires.field.0 c.requires.field.1 c.in-Some.at c.in-Some-read_clause.clause c.read_position.new.words c.read_clause.new.words
    c.in-Some.ensures.0 (sym c.of-words.ensures ∙ c.in-Some.ensures.1) c.in-Some-read_clause.ensures.0 c.in-Some-read_clause.ensures.1 c.in-None-read_cites.ensures

pub returns-then-is_done : goal.returns-then-is_done
returns-then-is_done c =
    step_read (listing c.args.listed.now) c.args.q c.args.number c.args.line.now c.requires.elements c.requires.field.0 c.requires.field.1 c.in-Some.at c.in-Some-read_clause.clause c.in-Some-read_cites.cites c.read_position.new.words c.read_clause.new.words c.read_cites.new.words
    c.in-Some.ensures.0 (sym c.of-words.ensures ∙ c.in-Some.ensures.1) c.in-Some-read_clause.ensures.0 c.in-Some-read_clause.ensures.1 c.in-Some-read_cites.ensures.0 c.in-Some-read_cites.ensures.1 (c.is_done.ensures.0 c.if-is_done.true)

pub returns-else-is_done : goal.returns-else-is_done
returns-else-is_done c =
    words_left_over (listing c.args.listed.now) c.args.q c.args.number c.args.line.now c.requires.elements c.requires.field.0 c.requires.field.1 c.in-Some.at c.in-Some-read_clause.clause c.in-Some-read_cites.cites c.read_position.new.words c.read_clause.new.words c.read_cites.new.words
    c.in-Some.ensures.0 (sym c.of-words.ensures ∙ c.in-Some.ensures.1) c.in-Some-read_clause.ensures.0 c.in-Some-read_clause.ensures.1 c.in-Some-read_cites.ensures.0 c.in-Some-read_cites.ensures.1 (untrue c.is_done.result c.is_done.ensures c.if-is_done.false)
