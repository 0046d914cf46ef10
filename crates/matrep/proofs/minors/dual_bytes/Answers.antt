-- what is told of the matroid of the file, or of its refusal
use Rattle.mr_file.specs.File.{IsFileOf}
use Rattle.mr_file.specs.Reading.{IsFileRefusal}
use Rattle.matrep.specs.Answering.{WritesDual}
use Rattle.matrep.specs.Result.{IsFileFault}
use Rattle.matrep.proofs.Inputs.{input_read, input_refused, refused_as_file}
use Rattle.matrep.proofs.minors.dual_bytes.Goals as goal

pub returns-in-Ok : goal.returns-in-Ok
returns-in-Ok c =
    input_read (λ o. o.exit) (λ o. o.text) (IsFileOf c.args.bytes.now) (IsFileFault (IsFileRefusal c.args.bytes.now)) WritesDual c.in-Ok.m c.dual_of.result c.in-Ok.ensures.ok c.dual_of.ensures

pub returns-in-Err : goal.returns-in-Err
returns-in-Err c =
    input_refused (λ o. o.exit) (λ o. o.text) (IsFileOf c.args.bytes.now) (IsFileFault (IsFileRefusal c.args.bytes.now)) WritesDual c.refused_file.result
    (refused_as_file (λ o. o.exit) (λ o. o.text) (IsFileRefusal c.args.bytes.now) c.in-Err.fault c.refused_file.result c.in-Err.ensures.refusal c.refused_file.ensures)
