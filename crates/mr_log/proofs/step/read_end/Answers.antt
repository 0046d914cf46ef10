-- An end by its words.
use Rattle.std.proofs.Common.{◌∙◌, sym}
use Rattle.mr_file.specs.Reading.{listing}
use Rattle.mr_log.proofs.Clauses.{untrue}
use Rattle.mr_log.proofs.StepLines.{no_end_cite, end_left_over, end_read}
use Rattle.mr_log.proofs.step.read_end.Goals as goal

pub returns-in-None : goal.returns-in-None
returns-in-None c = no_end_cite (listing c.args.listed.now) c.args.line.now c.next_is.new.self c.requires (sym c.of-words.ensures ∙ c.if-next_is.ensures.yes) c.in-None.ensures

pub returns-then-is_done : goal.returns-then-is_done
returns-then-is_done c =
    end_read (listing c.args.listed.now) c.args.line.now c.in-Some.cite c.next_is.new.self c.read_cite.new.words (sym c.of-words.ensures ∙ c.if-next_is.ensures.yes) c.in-Some.ensures.0 c.in-Some.ensures.1 (c.is_done.ensures.0 c.if-is_done.true)

pub returns-else-is_done : goal.returns-else-is_done
returns-else-is_done c =
    end_left_over (listing c.args.listed.now) c.args.line.now c.in-Some.cite c.next_is.new.self c.read_cite.new.words c.requires (sym c.of-words.ensures ∙ c.if-next_is.ensures.yes) c.in-Some.ensures.0 c.in-Some.ensures.1
    (untrue c.is_done.result c.is_done.ensures c.if-is_done.false)
