-- What the readers of a matrix block answer.
use Rattle.std.specs.Prelude.{ℕ, List}
use Rattle.mr_field.specs.Gf.{Gf}
use Rattle.mr_text.specs.Format.{grammar, size, Format, done, IsFirstFaultOf}
use Rattle.mr_file.specs.declared.fault.Measure.{Measure}
use Rattle.mr_linear.specs.Matrix.{Grid}
use Rattle.mr_matrix.specs.Block.{block}
use Rattle.mr_matrix.specs.declared.fault.MatrixFault.{MatrixFault}
use Rattle.mr_matrix.specs.declared.fault.MatrixFault.TheVariants.{Grammar, Size, Memory}

-- the format that begins with the first line
abbrev pub whole_block : Gf → Format Measure Grid
whole_block f = block f done

-- a refusal of a text: its first fault; memory may run out
abbrev pub IsMatrixRefusal : Gf → List ℕ → MatrixFault → Type 0
IsMatrixRefusal f bytes (Grammar line) = IsFirstFaultOf (whole_block f) bytes (grammar line)
IsMatrixRefusal f bytes (Size line what) = IsFirstFaultOf (whole_block f) bytes (size line what)
IsMatrixRefusal f bytes Memory = Unit {0}
