-- The rows so far were read and written.
use Rattle.std.proofs.Common.{◌+◌, ◌-◌, ◌<◌, length, take}
use Rattle.std.specs.Prelude.{◌^◌}
use Rattle.mr_text.proofs.Leads.{Leads}
use Rattle.mr_linear.specs.Matrix.{height}
use Rattle.mr_linear.proofs.Grids.{SameShape}
use Rattle.mr_matrix.specs.Private.Reading.{from_rows}
use Rattle.mr_matrix.proofs.Rows.{Start}
use Rattle.mr_matrix.proofs.read.fill.Given as goal

abbrev pub invariant-loop-i : goal.invariant-loop-i
invariant-loop-i l = (l.at + length l.rest < 2 ^ 32) × SameShape l.filled l.fn.matrix
    × Leads (Start l.fn.matrix.field (height l.fn.matrix) l.fn.matrix.cols) l.line_number l.bytes (from_rows l.fn.matrix.field l.fn.matrix.cols (height l.fn.matrix - l.i) (take l.i l.filled.rows)) l.at l.rest
