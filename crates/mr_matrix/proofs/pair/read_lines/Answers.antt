-- The file, and the block after it.
use Rattle.std.proofs.lemmas.Result.{err_from_is_err_and}
use Rattle.std.proofs.Common.{arith}
use Rattle.mr_file.specs.Reading.{listing, whole_file}
use Rattle.mr_file.proofs.Whole.{file_read}
use Rattle.mr_file.proofs.AfterFile.{numbers_within}
use Rattle.mr_matrix.proofs.PairText.{pair_value, file_refused, block_refused}
use Rattle.mr_matrix.proofs.pair.read_lines.Goals as goal

pub returns-in_err-listed : goal.returns-in_err-listed
returns-in_err-listed c =
    let p = err_from_is_err_and c.from_residual.result c.from_residual.ensures.1 in
    rw (p.1, p.2) (file_refused c.args.field 1 c.args.bytes.now c.in_err-listed.field-0.0 c.in_err-listed.ensures)

pub read_sized-requires-clause-numbers : goal.read_sized-requires-clause-numbers
read_sized-requires-clause-numbers c =
    let within = numbers_within whole_file 1 c.args.bytes.now (listing c.in_ok-listed.listed) c.in_ok-listed.rest.now c.in_ok-listed.line c.in_ok-listed.ensures in
    let numbers = c.requires in
    omega (arith, within, numbers)

pub read_sized-requires-clause-wide : goal.read_sized-requires-clause-wide
read_sized-requires-clause-wide c = let read = file_read 1 c.args.bytes.now (listing c.in_ok-listed.listed) c.in_ok-listed.rest.now c.in_ok-listed.line c.in_ok-listed.ensures in read.limits.elements

pub read_sized-requires-clause-flat : goal.read_sized-requires-clause-flat
read_sized-requires-clause-flat c = let read = file_read 1 c.args.bytes.now (listing c.in_ok-listed.listed) c.in_ok-listed.rest.now c.in_ok-listed.line c.in_ok-listed.ensures in read.presentation.rank

pub returns-in_err-matrix : goal.returns-in_err-matrix
returns-in_err-matrix c =
    let p = err_from_is_err_and c.from_residual-in_err-matrix.result c.from_residual-in_err-matrix.ensures.1 in
    rw (p.1, p.2) (block_refused c.args.field 1 c.args.bytes.now (listing c.in_ok-listed.listed) c.in_ok-listed.rest.now c.in_ok-listed.line c.in_err-matrix.field-0.0 c.in_ok-listed.ensures c.in_err-matrix.ensures)

pub returns : goal.returns
returns c =
    pair_value c.args.field 1 c.args.bytes.now (listing c.in_ok-listed.listed) c.in_ok-listed.rest.now c.in_ok-listed.line c.in_ok-matrix.matrix c.in_ok-matrix.after.now c.in_ok-matrix.next_line c.in_ok-listed.ensures c.in_ok-matrix.ensures
