-- what is told of the pair, or of its refusal
use Rattle.mr_field.specs.Gf.{Gf}
use Rattle.mr_matrix.specs.Pairs.{IsPairOf, IsPairRefusal}
use Rattle.matrep.specs.Answering.{Confirms}
use Rattle.matrep.specs.Result.{IsFileFault, OfInput}
use Rattle.matrep.proofs.Inputs.{input_read, input_refused, refused_as_file, over_field}
use Rattle.matrep.proofs.matrices.confirm_bytes.Goals as goal

pub returns-in-Ok : goal.returns-in-Ok
returns-in-Ok c =
    let f = c.field_with-field.result in
    let bytes = c.args.bytes.now in
    over_field (λ (g : Gf) o. OfInput (IsPairOf g bytes) (IsFileFault (IsPairRefusal g bytes)) Confirms o.exit o.text) f c.args.q c.confirmation_of.result c.field_with-field.ensures
    (input_read (λ o. o.exit) (λ o. o.text) (IsPairOf f bytes) (IsFileFault (IsPairRefusal f bytes)) Confirms c.in-Ok.pair c.confirmation_of.result c.in-Ok.ensures.ok c.confirmation_of.ensures)

pub returns-in-Err : goal.returns-in-Err
returns-in-Err c =
    let f = c.field_with-field.result in
    let bytes = c.args.bytes.now in
    over_field (λ (g : Gf) o. OfInput (IsPairOf g bytes) (IsFileFault (IsPairRefusal g bytes)) Confirms o.exit o.text) f c.args.q c.refused_file.result c.field_with-field.ensures
    (input_refused (λ o. o.exit) (λ o. o.text) (IsPairOf f bytes) (IsFileFault (IsPairRefusal f bytes)) Confirms c.refused_file.result
    (refused_as_file (λ o. o.exit) (λ o. o.text) (IsPairRefusal f bytes) c.in-Err.fault c.refused_file.result c.in-Err.ensures.refusal c.refused_file.ensures))
