-- What the readers of a matrix block answer: words of private contracts and of the proofs.
use Rattle.std.specs.Prelude.{ℕ, List, codes}
use Rattle.mr_field.specs.Gf.{Gf}
use Rattle.mr_text.specs.Format.{Format, done, line_of}
use Rattle.mr_text.specs.Tables.{fixed}
use Rattle.mr_file.specs.declared.fault.Measure.{Measure}
use Rattle.mr_file.specs.declared.fault.FileFault.{FileFault}
use Rattle.mr_file.specs.declared.fault.FileFault.TheVariants as file_fault
use Rattle.mr_linear.specs.Matrix.{Grid}
use Rattle.mr_matrix.specs.Block.{row_lines, grid_with}
use Rattle.mr_matrix.specs.declared.fault.MatrixFault.{MatrixFault}
use Rattle.mr_matrix.specs.declared.fault.MatrixFault.TheVariants.{Grammar, Size, Memory}

-- what is due after the last row
abbrev pub end_line : Gf → ℕ → List (List ℕ) → Format Measure Grid
end_line f n rows = line_of (fixed (codes "end")) (λ _. done (grid_with f n rows))

-- after some rows
abbrev pub from_rows : Gf → ℕ → ℕ → List (List ℕ) → Format Measure Grid
from_rows f n count rows = row_lines f n count rows (end_line f n)

-- a refusal of lines as one of the block
abbrev pub as_matrix_fault : FileFault → MatrixFault
as_matrix_fault (file_fault.Grammar line) = Grammar line
as_matrix_fault (file_fault.Size line what) = Size line what
as_matrix_fault file_fault.NoBasis = Memory
as_matrix_fault (file_fault.Exchange b1 b2 x) = Memory
as_matrix_fault file_fault.Memory = Memory
