-- each name has its reader
use Rattle.matrep.specs.declared.names.Name.TheVariants.{Solve, Check, Confirm, Matroid, Minor, Plane}
use Rattle.matrep.specs.Words.{texts}
use Rattle.matrep.proofs.Meant.{read_as}
use Rattle.matrep.proofs.meaning.command_of.Goals as goal

pub returns-in-Solve : goal.returns-in-Solve
returns-in-Solve c = read_as Solve c.args.name (texts c.args.operands.now) c.solve_of.result c.in-Solve.is c.solve_of.ensures

pub returns-in-Check : goal.returns-in-Check
returns-in-Check c = read_as Check c.args.name (texts c.args.operands.now) c.check_of.result c.in-Check.is c.check_of.ensures

pub returns-in-Confirm : goal.returns-in-Confirm
returns-in-Confirm c = read_as Confirm c.args.name (texts c.args.operands.now) c.confirm_of.result c.in-Confirm.is c.confirm_of.ensures

pub returns-in-Matroid : goal.returns-in-Matroid
returns-in-Matroid c = read_as Matroid c.args.name (texts c.args.operands.now) c.matroid_of.result c.in-Matroid.is c.matroid_of.ensures

pub returns-in-Minor : goal.returns-in-Minor
returns-in-Minor c = read_as Minor c.args.name (texts c.args.operands.now) c.minor_of.result c.in-Minor.is c.minor_of.ensures

pub returns-in-Plane : goal.returns-in-Plane
returns-in-Plane c = read_as Plane c.args.name (texts c.args.operands.now) c.plane_of.result c.in-Plane.is c.plane_of.ensures
