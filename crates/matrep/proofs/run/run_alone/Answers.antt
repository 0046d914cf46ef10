-- a run ends with the text that is due
use Rattle.matrep.specs.Words.{texts}
use Rattle.std.proofs.Common.{ap, Err}
use Rattle.matrep.proofs.OneReading.{no_offence}
use Rattle.matrep.proofs.Ending.{ends_usage, ends_outcome, untouched_by, taken_by}
use Rattle.matrep.proofs.run.run_alone.Goals as goal

pub returns-in-Err-clause-ends : goal.returns-in-Err-clause-ends
returns-in-Err-clause-ends g c =
    ends_usage (texts c.args.words.now) _ _ _ c.in-Err.field-0.word c.write_text.result c.usage_line-line.result c.in-Err.ensures.says c.usage_line-line.ensures c.write_text.ensures.all

pub returns-in-Ok-read_and_answer-clause-ends : goal.returns-in-Ok-read_and_answer-clause-ends
returns-in-Ok-read_and_answer-clause-ends g c =
    ends_outcome (texts c.args.words.now) _ _ _ _ c.in-Ok.command c.write_text-in-Ok-read_and_answer.result c.in-Ok-read_and_answer.outcome.exit c.in-Ok-read_and_answer.outcome.text
    c.in-Ok.ensures.says c.in-Ok-read_and_answer.ensures.made (rw c.as_bytes.ensures at c.write_text-in-Ok-read_and_answer.ensures.all)

-- words that say a command don't offend, and a plane leaves its input
pub returns-in-Ok-read_and_answer-clause-usage : goal.returns-in-Ok-read_and_answer-clause-usage
returns-in-Ok-read_and_answer-clause-usage g c = λ word offends. absurd (no_offence (texts c.args.words.now) c.in-Ok.command word c.in-Ok.ensures.says offends)

pub returns-in-Ok-read_and_answer-clause-untouched : goal.returns-in-Ok-read_and_answer-clause-untouched
returns-in-Ok-read_and_answer-clause-untouched g c = untouched_by (texts c.args.words.now) c.in-Ok.command _ _ c.in-Ok.ensures.says c.read_and_answer.ensures.untouched

pub returns-in-Err-Fault-clause-usage : goal.returns-in-Err-Fault-clause-usage
returns-in-Err-Fault-clause-usage g c = λ word offends. absurd (no_offence (texts c.args.words.now) c.in-Ok.command word c.in-Ok.ensures.says offends)

pub returns-in-Err-Fault-clause-untouched : goal.returns-in-Err-Fault-clause-untouched
returns-in-Err-Fault-clause-untouched g c = untouched_by (texts c.args.words.now) c.in-Ok.command _ _ c.in-Ok.ensures.says c.read_and_answer.ensures.untouched

pub returns-in-Err-Fault-clause-little : goal.returns-in-Err-Fault-clause-little
returns-in-Err-Fault-clause-little g c = taken_by (texts c.args.words.now) c.in-Ok.command _ _ _ c.in-Ok.ensures.says c.read_and_answer.ensures.taken (λ _. c.in-Err-Fault.ensures.early (ap Err c.in-Err-Fault.field-0-is))

pub returns-in-Err-Memory-clause-usage : goal.returns-in-Err-Memory-clause-usage
returns-in-Err-Memory-clause-usage g c = λ word offends. absurd (no_offence (texts c.args.words.now) c.in-Ok.command word c.in-Ok.ensures.says offends)

pub returns-in-Err-Memory-clause-untouched : goal.returns-in-Err-Memory-clause-untouched
returns-in-Err-Memory-clause-untouched g c = untouched_by (texts c.args.words.now) c.in-Ok.command _ _ c.in-Ok.ensures.says c.read_and_answer.ensures.untouched
