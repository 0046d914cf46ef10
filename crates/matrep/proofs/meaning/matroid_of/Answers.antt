-- the field is all that is needed
use Rattle.std.proofs.Common.{refl}
use Rattle.matrep.specs.Words.{texts}
use Rattle.matrep.proofs.Meant.{has_field}
use Rattle.matrep.proofs.meaning.matroid_of.Goals as goal

pub returns-in-Some : goal.returns-in-Some
returns-in-Some c =
    let given = c.in-Some.ensures in
    record { name_is = refl; each = c.requires; needed = has_field (texts c.args.operands.now) c.in-Some.q given.1; means = given.1; built = given.0 }
