-- The numbers of the matrix of zeros.
use Rattle.std.specs.Prelude.{MatchResult}
use Rattle.mr_text.specs.Format.{done, StandsFor, IsFirstFault}
use Rattle.mr_file.specs.Reading.{Names}
use Rattle.mr_matrix.specs.Block.{row_lines_of}
use Rattle.mr_matrix.proofs.Rows.{at_shape}
use Rattle.mr_matrix.proofs.read.read_rows.Goals as goal

pub returns : goal.returns
returns c =
    at_shape (λ f r n. MatchResult c.fill.result (λ x. StandsFor (row_lines_of f r n done) c.args.line_number c.args.bytes.now x.0 x.1.now x.2) (Names (IsFirstFault (row_lines_of f r n done) c.args.line_number c.args.bytes.now))) c.in_ok-matrix.matrix c.args.field c.args.r c.args.n (λ _ _. 0) c.in_ok-matrix.ensures c.fill.ensures
