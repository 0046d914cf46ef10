-- A row more, and the last line.
use Rattle.std.proofs.lemmas.Result.{err_from_is_err_and}
use Rattle.std.proofs.Common.{◌+◌, ◌-◌, ◌∙◌, List, ℕ, take, ap, sym, subst, arith}
use Rattle.std.proofs.lemmas.List.{take_more_set}
use Rattle.mr_text.specs.Format.{IsLineOf, IsLineFault}
use Rattle.mr_text.proofs.Formats.{shorter}
use Rattle.mr_file.specs.Reading.{Names}
use Rattle.mr_linear.specs.Matrix.{Grid, height}
use Rattle.mr_matrix.specs.Block.{row_table}
use Rattle.mr_matrix.proofs.Rows.{at_row, rows_lead, rows_fault, rows_end_fault, rows_value, whole_grid, row_shape}
use Rattle.mr_matrix.proofs.read.fill.Goals as goal

pub returns-in_err-row : goal.returns-in_err-row
returns-in_err-row c =
    let test = c.loop-i-test.true in
    let rows = c.rows-r.ensures.value in
    let p = err_from_is_err_and c.from_residual.result c.from_residual.ensures.1 in
    rw (p.1, p.2) (rows_fault c.args.matrix.field (height c.args.matrix) c.args.matrix.cols (height c.args.matrix - c.loop-i.i) (height c.args.matrix - (c.loop-i.i + 1)) c.args.line_number c.args.bytes.now (take c.loop-i.i c.loop-i.filled.rows) c.loop-i.at c.loop-i.rest.now c.in_err-row.field-0.0
    (omega (arith, test, rows)) c.loop-i.invariant.2
    (at_row (λ f n. Names (IsLineFault (row_table f n) c.loop-i.at c.loop-i.rest.now) c.in_err-row.field-0.0) c.args.matrix.field c.field-field.result c.args.matrix.cols c.cols-n.result c.field-field.ensures c.cols-n.ensures.value c.in_err-row.ensures))

pub loop-i-preserved : goal.loop-i-preserved
loop-i-preserved c =
    let test = c.loop-i-test.true in
    let rows = c.rows-r.ensures.value in
    let held = c.loop-i.invariant.1.rows in
    let line = at_row (λ f n. IsLineOf (row_table f n) c.loop-i.rest.now c.as_slice.result.now c.in_ok-row.after.now) c.args.matrix.field c.field-field.result c.args.matrix.cols c.cols-n.result c.field-field.ensures c.cols-n.ensures.value
    (subst (λ (w : List ℕ). IsLineOf (row_table c.field-field.result c.cols-n.result) c.loop-i.rest.now w c.in_ok-row.after.now) (sym c.as_slice.ensures.value) c.in_ok-row.ensures) in
    let less = shorter (row_table c.args.matrix.field c.args.matrix.cols) c.loop-i.rest.now c.as_slice.result.now c.in_ok-row.after.now line in
    let numbers = c.loop-i.invariant.0 in (
      omega (arith, less, numbers),
      row_shape c.loop-i.filled c.set_row.new.a c.args.matrix c.loop-i.i c.as_slice.result.now c.set_row.ensures c.loop-i.invariant.1,
      rows_lead c.args.matrix.field (height c.args.matrix) c.args.matrix.cols (height c.args.matrix - c.loop-i.i) (height c.args.matrix - (c.loop-i.i + 1)) c.args.line_number c.args.bytes.now (take c.loop-i.i c.loop-i.filled.rows) (take (c.loop-i.i + 1) c.set_row.new.a.rows) c.loop-i.at c.loop-i.rest.now c.as_slice.result.now c.in_ok-row.after.now
          (omega (arith, test, rows)) (ap (λ (g : Grid). take (c.loop-i.i + 1) g.rows) c.set_row.ensures ∙ take_more_set c.loop-i.filled.rows c.loop-i.i c.as_slice.result.now (omega (arith, test, rows, held))) c.loop-i.invariant.2 line,
    )

pub returns-in_err-after : goal.returns-in_err-after
returns-in_err-after c =
    let test = c.loop-i-test.false in
    let rows = c.rows-r.ensures.value in
    let p = err_from_is_err_and c.from_residual-in_err-after.result c.from_residual-in_err-after.ensures.1 in
    rw (p.1, p.2) (rows_end_fault c.args.matrix.field (height c.args.matrix) c.args.matrix.cols (height c.args.matrix - c.loop-i.i) c.args.line_number c.args.bytes.now (take c.loop-i.i c.loop-i.filled.rows) c.loop-i.at c.loop-i.rest.now c.in_err-after.field-0.0
    (omega (arith, test, rows)) c.loop-i.invariant.2 c.in_err-after.ensures.line)

pub returns : goal.returns
returns c =
    let test = c.loop-i-test.false in
    let rows = c.rows-r.ensures.value in
    let shape = c.loop-i.invariant.1 in
    let held = shape.rows in
    rows_value c.args.matrix.field (height c.args.matrix) c.args.matrix.cols (height c.args.matrix - c.loop-i.i) c.args.line_number c.args.bytes.now (take c.loop-i.i c.loop-i.filled.rows) c.loop-i.at c.loop-i.rest.now c.in_ok-after.after.now c.loop-i.filled
    (omega (arith, test, rows)) (whole_grid c.loop-i.filled c.args.matrix.field c.args.matrix.cols c.loop-i.i shape.field shape.cols (omega (arith, test, rows, held))) c.loop-i.invariant.2 c.in_ok-after.ensures.line
