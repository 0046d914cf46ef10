-- what holds of the frame holds of the matroid
use Rattle.matrep.proofs.Solved.{of_frame}
use Rattle.matrep.proofs.solve.solve_matroid_by.Goals as goal

pub returns : goal.returns
returns g c =
    of_frame (λ o. o.exit) (λ o. o.text) c.in_ok-frame.frame c.args.m c.args.field c.args.nodes c.args.split c.args.orbits c.outcome_of.result c.in_ok-frame.ensures.matroid c.in_ok-frame.ensures.field c.outcome_of.ensures
