-- what is told of the matrix, or of its refusal
use Rattle.mr_field.specs.Gf.{Gf}
use Rattle.mr_matrix.specs.Block.{IsBlockOf}
use Rattle.mr_matrix.specs.Reading.{IsMatrixRefusal}
use Rattle.matrep.specs.Answering.{FindsMatroid}
use Rattle.matrep.specs.Result.{IsMatrixFault, OfInput}
use Rattle.matrep.proofs.Inputs.{matrix_fault, refuses, input_read, input_refused, over_field}
use Rattle.matrep.proofs.matrices.matroid_bytes.Goals as goal

pub returns-in-Ok : goal.returns-in-Ok
returns-in-Ok c =
    let f = c.field_with-field.result in
    let bytes = c.args.bytes.now in
    over_field (λ (g : Gf) o. OfInput (IsBlockOf g bytes) (IsMatrixFault (IsMatrixRefusal g bytes)) FindsMatroid o.exit o.text) f c.args.q c.represented.result c.field_with-field.ensures
    (input_read (λ o. o.exit) (λ o. o.text) (IsBlockOf f bytes) (IsMatrixFault (IsMatrixRefusal f bytes)) FindsMatroid c.in-Ok.a c.represented.result c.in-Ok.ensures.ok c.represented.ensures)

pub returns-in-Some : goal.returns-in-Some
returns-in-Some c =
    let f = c.field_with-field.result in
    let bytes = c.args.bytes.now in
    let fault = c.in-Some.fault in
    over_field (λ (g : Gf) o. OfInput (IsBlockOf g bytes) (IsMatrixFault (IsMatrixRefusal g bytes)) FindsMatroid o.exit o.text) f c.args.q c.refused.result c.field_with-field.ensures
    (input_refused (λ o. o.exit) (λ o. o.text) (IsBlockOf f bytes) (IsMatrixFault (IsMatrixRefusal f bytes)) FindsMatroid c.refused.result
    (refuses (λ o. o.exit) (λ o. o.text) (IsMatrixFault (IsMatrixRefusal f bytes)) fault c.refused.result (matrix_fault (IsMatrixRefusal f bytes) c.in-Err.fault fault c.in-Err.ensures.refusal c.in-Some.ensures) c.refused.ensures.exit c.refused.ensures.text))
