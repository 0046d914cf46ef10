-- The file, and what follows it.
use Rattle.std.proofs.Common.{arith}
use Rattle.mr_text.specs.Format.{IsFirstFault}
use Rattle.mr_file.specs.Reading.{listing, whole_file}
use Rattle.mr_file.proofs.Whole.{file_read}
use Rattle.mr_file.proofs.AfterFile.{file_faults, numbers_within}
use Rattle.mr_log.specs.Private.Stages.{from_count, from_file}
use Rattle.mr_log.proofs.Outcomes.{named}
use Rattle.mr_log.proofs.Making.{after_file}
use Rattle.mr_log.proofs.read.read_parts.Goals as goal

pub read_count-requires-clause-numbers : goal.read_count-requires-clause-numbers
read_count-requires-clause-numbers c =
    let within = numbers_within whole_file c.args.line_number c.args.bytes.now (listing c.in-Ok.found.0) c.in-Ok.found.1.now c.in-Ok.found.2 c.in-Ok.ensures in
    let numbers = c.requires.numbers in
    omega (arith, within, numbers)

pub read_count-requires-clause-elements : goal.read_count-requires-clause-elements
read_count-requires-clause-elements c =
    let read = file_read c.args.line_number c.args.bytes.now (listing c.in-Ok.found.0) c.in-Ok.found.1.now c.in-Ok.found.2 c.in-Ok.ensures in
    read.limits.elements

pub returns-in-Err : goal.returns-in-Err
returns-in-Err c =
    named (IsFirstFault whole_file c.args.line_number c.args.bytes.now) (IsFirstFault (from_file c.args.q) c.args.line_number c.args.bytes.now) c.in-Err.e c.args.line_number c.fault_at.result c.fault_at.ensures
    (file_faults (from_count c.args.q) c.args.line_number c.args.bytes.now) c.in-Err.ensures

pub returns-in-Ok : goal.returns-in-Ok
returns-in-Ok c =
    after_file c.args.q c.args.line_number c.args.bytes.now (listing c.in-Ok.found.0) c.in-Ok.found.1.now c.in-Ok.found.2 c.read_count.result c.in-Ok.ensures c.read_count.ensures
