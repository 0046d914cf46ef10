-- what is told of the matroid of the file, or of its refusal
use Rattle.mr_field.specs.Gf.{Gf}
use Rattle.mr_file.specs.File.{IsFileOf}
use Rattle.mr_file.specs.Reading.{IsFileRefusal}
use Rattle.matrep.specs.Solving.{Solves}
use Rattle.matrep.specs.Result.{IsFileFault, OfFile}
use Rattle.matrep.proofs.Solved.{solved_file}
use Rattle.matrep.proofs.Inputs.{input_refused, refused_as_file, over_field}
use Rattle.matrep.proofs.solve.solve_many.Goals as goal

pub returns-in-Ok : goal.returns-in-Ok
returns-in-Ok g c =
    solved_file (λ o. o.exit) (λ o. o.text) c.field_with-field.result c.args.q c.args.nodes c.args.split c.args.orbits c.args.bytes.now c.in-Ok.m c.solve_matroid_by.result c.field_with-field.ensures c.in-Ok.ensures.ok c.solve_matroid_by.ensures

pub returns-in-Err : goal.returns-in-Err
returns-in-Err g c =
    let f = c.field_with-field.result in
    let bytes = c.args.bytes.now in
    let solves = Solves f c.args.nodes c.args.split c.args.orbits in
    over_field (λ (g : Gf) o. OfFile bytes (Solves g c.args.nodes c.args.split c.args.orbits) o.exit o.text) f c.args.q c.refused_file.result c.field_with-field.ensures
    (input_refused (λ o. o.exit) (λ o. o.text) (IsFileOf bytes) (IsFileFault (IsFileRefusal bytes)) solves c.refused_file.result
    (refused_as_file (λ o. o.exit) (λ o. o.text) (IsFileRefusal bytes) c.in-Err.fault c.refused_file.result c.in-Err.ensures.refusal c.refused_file.ensures))
