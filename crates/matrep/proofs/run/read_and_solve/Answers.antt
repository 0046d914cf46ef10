-- what a solve by several workers tells of the bytes that were read
use Rattle.matrep.proofs.Ending.{solve_made}
use Rattle.matrep.proofs.run.read_and_solve.Goals as goal

pub returns-in_ok-outcome-in-Ok-clause-made : goal.returns-in_ok-outcome-in-Ok-clause-made
returns-in_ok-outcome-in-Ok-clause-made g c =
    solve_made c.args.q c.args.workers c.args.nodes c.args.split c.args.orbits _ _ c.in-Ok.bytes c.as_slice.result.now c.in_ok-outcome-in-Ok.outcome.exit c.in_ok-outcome-in-Ok.outcome.text
    c.in-Ok.ensures.all c.as_slice.ensures c.in_ok-outcome-in-Ok.ensures
