-- a solve by several workers ends with the text that is due
use Rattle.matrep.specs.Words.{texts}
use Rattle.matrep.specs.declared.words.Command.TheVariants.{Solve}
use Rattle.std.proofs.Common.{ap, Err}
use Rattle.matrep.proofs.OneReading.{no_offence}
use Rattle.matrep.proofs.Ending.{ends_outcome, solve_takes, taken_by}
use Rattle.matrep.proofs.run.solve_by.Goals as goal

pub returns-in-Ok-clause-ends : goal.returns-in-Ok-clause-ends
returns-in-Ok-clause-ends g c =
    ends_outcome (texts c.args._words.now) _ _ _ _ (Solve c.args.q c.args.workers c.args.nodes c.args.split c.args.orbits) c.write_text.result c.in-Ok.outcome.exit c.in-Ok.outcome.text
    c.requires c.in-Ok.ensures.made (rw c.as_bytes.ensures at c.write_text.ensures.all)

pub returns-in-Ok-clause-usage : goal.returns-in-Ok-clause-usage
returns-in-Ok-clause-usage g c = λ word offends. absurd (no_offence (texts c.args._words.now) (Solve c.args.q c.args.workers c.args.nodes c.args.split c.args.orbits) word c.requires offends)

pub returns-in-Ok-clause-untouched : goal.returns-in-Ok-clause-untouched
returns-in-Ok-clause-untouched g c = solve_takes (texts c.args._words.now) c.args.q c.args.workers c.args.nodes c.args.split c.args.orbits _ _ c.requires

pub returns-in-Err-Fault-clause-usage : goal.returns-in-Err-Fault-clause-usage
returns-in-Err-Fault-clause-usage g c = λ word offends. absurd (no_offence (texts c.args._words.now) (Solve c.args.q c.args.workers c.args.nodes c.args.split c.args.orbits) word c.requires offends)

pub returns-in-Err-Fault-clause-untouched : goal.returns-in-Err-Fault-clause-untouched
returns-in-Err-Fault-clause-untouched g c = solve_takes (texts c.args._words.now) c.args.q c.args.workers c.args.nodes c.args.split c.args.orbits _ _ c.requires

pub returns-in-Err-Memory-clause-usage : goal.returns-in-Err-Memory-clause-usage
returns-in-Err-Memory-clause-usage g c = λ word offends. absurd (no_offence (texts c.args._words.now) (Solve c.args.q c.args.workers c.args.nodes c.args.split c.args.orbits) word c.requires offends)

pub returns-in-Err-Memory-clause-untouched : goal.returns-in-Err-Memory-clause-untouched
returns-in-Err-Memory-clause-untouched g c = solve_takes (texts c.args._words.now) c.args.q c.args.workers c.args.nodes c.args.split c.args.orbits _ _ c.requires

pub returns-in-Err-Fault-clause-little : goal.returns-in-Err-Fault-clause-little
returns-in-Err-Fault-clause-little g c = taken_by (texts c.args._words.now) (Solve c.args.q c.args.workers c.args.nodes c.args.split c.args.orbits) _ _ _ c.requires c.read_and_solve.ensures.taken (λ _. c.in-Err-Fault.ensures.early (ap Err c.in-Err-Fault.field-0-is))
