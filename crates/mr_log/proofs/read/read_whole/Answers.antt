-- What the lines stand for is within the limits, and its matroid is made.
use Rattle.std.proofs.Common.{◌+◌, sym, subst, arith}
use Rattle.mr_file.specs.Reading.{listing}
use Rattle.mr_log.specs.Reading.{IsLogRefusal}
use Rattle.mr_log.specs.Private.Stages.{found_log}
use Rattle.mr_log.proofs.Making.{text_read, few_nonbases, with_matroid, no_matroid}
use Rattle.mr_log.proofs.read.read_whole.Goals as goal

pub overflow_cast-file_end : goal.overflow_cast-file_end
overflow_cast-file_end c =
    let read = text_read c.args.q c.args.bytes.now (found_log c.args.q c.in_ok-found.found) c.in_ok-found.ensures in
    let few = few_nonbases (listing c.in_ok-found.found.listed) read.presentation read.limits in
    let long = c.in_ok-found.found.listed.nonbases.ok.0 in
    omega (arith, few, long)

pub overflow_add-file_end : goal.overflow_add-file_end
overflow_add-file_end c =
    let read = text_read c.args.q c.args.bytes.now (found_log c.args.q c.in_ok-found.found) c.in_ok-found.ensures in
    let few = few_nonbases (listing c.in_ok-found.found.listed) read.presentation read.limits in
    let long = c.in_ok-found.found.listed.nonbases.ok.0 in
    omega (arith, few, long)

pub matroid_of-requires-clause-sets : goal.matroid_of-requires-clause-sets
matroid_of-requires-clause-sets c = let read = text_read c.args.q c.args.bytes.now (found_log c.args.q c.in_ok-found.found) c.in_ok-found.ensures in read.presentation

pub matroid_of-requires-clause-limits : goal.matroid_of-requires-clause-limits
matroid_of-requires-clause-limits c = let read = text_read c.args.q c.args.bytes.now (found_log c.args.q c.in_ok-found.found) c.in_ok-found.ensures in read.limits

pub returns-in-Ok-clause-ok : goal.returns-in-Ok-clause-ok
returns-in-Ok-clause-ok c = with_matroid c.args.q c.args.bytes.now c.in_ok-found.found c.in-Ok.matroid c.in_ok-found.ensures c.in-Ok.ensures

pub returns-in-Err-clause-refusal : goal.returns-in-Err-clause-refusal
returns-in-Err-clause-refusal c =
    let long = c.in_ok-found.found.listed.nonbases.ok.0 in
    let count = c.len.ensures in
    subst (IsLogRefusal c.args.q c.args.bytes.now) (sym c.fault_at.ensures) (no_matroid c.args.q c.args.bytes.now c.in_ok-found.found c.in-Err.e (7 + c.len.result) c.in_ok-found.ensures c.in-Err.ensures (omega (arith, long, count)))
