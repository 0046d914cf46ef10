-- Matrix blocks, line by line, and whole: words of private contracts and of the proofs.
use Rattle.std.specs.Prelude.{ℕ}
use Rattle.mr_text.specs.Format.{Table}
use Rattle.mr_text.specs.Tables.{never}
use Rattle.mr_file.specs.declared.fault.Measure.{Measure}
use Rattle.mr_matrix.specs.declared.shape.Shape.{Shape}
use Rattle.mr_matrix.specs.Block.{IsHeaderLine}

-- the same whatever the shape
abbrev pub header_words : ℕ → Table Measure Shape
header_words q = record { spells = IsHeaderLine q; exceeds = never }
