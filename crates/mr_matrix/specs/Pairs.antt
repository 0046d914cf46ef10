-- A matroid file, and a matrix block of its size after it.
use Rattle.std.specs.Prelude.{◌≡◌, ℕ, List, ◌++◌}
use Rattle.mr_field.specs.Gf.{Gf, order}
use Rattle.mr_set.specs.Matroid.{Presentation, IsMatroid}
use Rattle.mr_matroid.specs.Exchange.{IsWithinLimits}
use Rattle.mr_text.specs.Format.{Format, done, line_of, IsTextOf, IsFirstFaultOf}
use Rattle.mr_text.specs.Tables.{fixed}
use Rattle.mr_file.specs.File.{file, file_text}
use Rattle.mr_file.specs.Reading.{IsRefusal}
use Rattle.mr_file.specs.declared.fault.Measure.{Measure}
use Rattle.mr_file.specs.declared.fault.FileFault.{FileFault}
use Rattle.mr_linear.specs.Matrix.{Grid}
use Rattle.mr_linear.specs.Representation.{FitsMatroid}
use Rattle.mr_matrix.specs.Block.{header_text, row_lines_of, block_text}
use Rattle.mr_matrix.specs.declared.pair.Pair.{Pair}

-- the lines of a block of r rows and n columns, and then what is due after it
abbrev pub sized_block : {X : Type 0} → Gf → ℕ → ℕ → (Grid → Format Measure X) → Format Measure X
sized_block f r n due = line_of (fixed (header_text (order f) r n)) (λ _. row_lines_of f r n due)

-- a matroid and a matrix
abbrev pub pair : Presentation → Grid → Pair
pair m a = record { matroid = m; matrix = a }

-- the lines of a matroid file, and then those of a block over the field with as many rows as the rank, and as many columns as elements
abbrev pub pair_format : Gf → Format Measure Pair
pair_format f = file (λ m. sized_block f m.rank m.elements (λ a. done (pair m a)))

-- the bytes are the file of the matroid and then the block of the matrix over the field, which has the matroid's size
pub record IsPairOf (f : Gf) (bytes : List ℕ) (p : Pair) : Type 0 where
  pub matroid : IsMatroid p.matroid
  pub limits : IsWithinLimits p.matroid
  pub field : p.matrix.field ≡ f
  pub fits : FitsMatroid p.matroid p.matrix
  pub text : bytes ≡ file_text p.matroid ++ block_text p.matrix

-- a refusal of a text: its first fault, or else no basis, or else the first exchange that fails; memory may run out
abbrev pub IsPairRefusal : Gf → List ℕ → FileFault → Type 0
IsPairRefusal f bytes = IsRefusal (IsFirstFaultOf (pair_format f) bytes) (λ m. (a : Grid) × IsTextOf (pair_format f) bytes (pair m a))
