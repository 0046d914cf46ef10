-- a plane is made of nothing
use Rattle.matrep.proofs.Ending.{plane_made}
use Rattle.matrep.proofs.run.read_and_answer.Goals as goal

pub returns-in_ok-outcome-in-Plane-clause-made : goal.returns-in_ok-outcome-in-Plane-clause-made
returns-in_ok-outcome-in-Plane-clause-made g c =
    plane_made c.args.command c.in-Plane.q _ c.in_ok-outcome-in-Plane.outcome.exit c.in_ok-outcome-in-Plane.outcome.text c.in-Plane.is c.in_ok-outcome-in-Plane.ensures
