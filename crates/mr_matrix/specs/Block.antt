-- Matrix blocks, line by line, and whole.
use Rattle.std.specs.Prelude.{◌≡◌, ℕ, zero, suc, ◌<◌, ◌≤◌, List, [], ◌∷◌, ◌++◌, map, codes}
use Rattle.mr_field.specs.Gf.{Gf, order}
use Rattle.mr_set.specs.Subsets.{choose}
use Rattle.mr_set.specs.declared.TheConstants.{ELEMENTS, SETS}
use Rattle.mr_text.specs.declared.TheConstants.{NUMBERS}
use Rattle.mr_text.specs.Text.{numbers_text, text_of_lines}
use Rattle.mr_text.specs.Format.{Table, Format, line_of}
use Rattle.mr_text.specs.Tables.{never, fixed}
use Rattle.mr_file.specs.declared.fault.Measure.{Measure}
use Rattle.mr_file.specs.declared.fault.Measure.TheVariants.{Elements, Rank, Sets, Nonbases}
use Rattle.mr_linear.specs.Matrix.{Grid, height, IsMatrixRow, IsGrid}
use Rattle.mr_matrix.specs.declared.shape.Shape.{Shape}

-- the first line of a matrix over the field with q elements, of r rows and n columns
abbrev pub header_text : ℕ → ℕ → ℕ → List ℕ
header_text q r n = codes "matrix " ++ numbers_text (q ∷ r ∷ n ∷ [])

-- the line is the first of a matrix of this shape
pub record IsHeaderLine (q : ℕ) (line : List ℕ) (s : Shape) : Type 0 where
  pub rows : s.rows < NUMBERS
  pub cols : s.cols < NUMBERS
  pub text : line ≡ header_text q s.rows s.cols

-- by which measure a shape is too large: more columns than elements may be, or else more rows than columns, or else too many sets
abbrev pub ShapeExceeds : Shape → Measure → Type 0
ShapeExceeds s Elements = ELEMENTS < s.cols
ShapeExceeds s Rank = (s.cols ≤ ELEMENTS) × (s.cols < s.rows)
ShapeExceeds s Sets = (s.cols ≤ ELEMENTS) × (s.rows ≤ s.cols) × (SETS < choose s.cols s.rows)
ShapeExceeds s Nonbases = ⊥

-- a first line
abbrev pub header_table : ℕ → Table Measure Shape
header_table q = record { spells = IsHeaderLine q; exceeds = ShapeExceeds }

-- the line is a row of n elements of the field
pub record IsRowLine (f : Gf) (n : ℕ) (line row : List ℕ) : Type 0 where
  pub of_field : IsMatrixRow f n row
  pub text : line ≡ numbers_text row

-- a line of such a row
abbrev pub row_table : Gf → ℕ → Table Measure (List ℕ)
row_table f n = record { spells = IsRowLine f n; exceeds = never }

-- so many more lines of rows, after those of these rows
unfoldable pub row_lines : {X : Type 0} → Gf → ℕ → ℕ → List (List ℕ) → (List (List ℕ) → Format Measure X) → Format Measure X
row_lines f n zero rows due = due rows
row_lines f n (suc count) rows due = line_of (row_table f n) (λ row. row_lines f n count (rows ++ row ∷ []) due)

-- the matrix with these rows
abbrev pub grid_with : Gf → ℕ → List (List ℕ) → Grid
grid_with f n rows = record { field = f; cols = n; rows = rows }

-- the lines after the first, and then what is due after the block
abbrev pub row_lines_of : {X : Type 0} → Gf → ℕ → ℕ → (Grid → Format Measure X) → Format Measure X
row_lines_of f r n due = row_lines f n r [] (λ rows. line_of (fixed (codes "end")) (λ _. due (grid_with f n rows)))

-- the lines of a matrix block over the field, and then what is due after it
abbrev pub block : {X : Type 0} → Gf → (Grid → Format Measure X) → Format Measure X
block f due = line_of (header_table (order f)) (λ s. row_lines_of f s.rows s.cols due)

-- the lines of the block of a matrix
abbrev pub block_lines : Grid → List (List ℕ)
block_lines a = header_text (order a.field) (height a) a.cols ∷ (map numbers_text a.rows ++ codes "end" ∷ [])

-- its bytes
abbrev pub block_text : Grid → List ℕ
block_text a = text_of_lines (block_lines a)

-- a matrix within the limits
pub record IsHeldGrid (a : Grid) : Type 0 where
  pub grid : IsGrid a
  pub wide : a.cols ≤ ELEMENTS
  pub few : choose a.cols (height a) ≤ SETS

-- the bytes are the block of the matrix a over the field, which is within the limits
pub record IsBlockOf (f : Gf) (bytes : List ℕ) (a : Grid) : Type 0 where
  pub field : a.field ≡ f
  pub held : IsHeldGrid a
  pub text : bytes ≡ block_text a
