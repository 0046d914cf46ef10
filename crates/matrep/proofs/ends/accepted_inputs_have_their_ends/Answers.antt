-- the law as it is proved in Complete
use Rattle.matrep.proofs.Complete.{solves_end, checks_end, confirmations_end, matroids_end, duals_end, minors_end, planes_end}
use Rattle.matrep.proofs.ends.accepted_inputs_have_their_ends.Goals as goal

pub returns-clause-solve : goal.returns-clause-solve
returns-clause-solve c = solves_end

pub returns-clause-check : goal.returns-clause-check
returns-clause-check c = checks_end

pub returns-clause-confirm : goal.returns-clause-confirm
returns-clause-confirm c = confirmations_end

pub returns-clause-matroid : goal.returns-clause-matroid
returns-clause-matroid c = matroids_end

pub returns-clause-dual : goal.returns-clause-dual
returns-clause-dual c = duals_end

pub returns-clause-minor : goal.returns-clause-minor
returns-clause-minor c = minors_end

pub returns-clause-plane : goal.returns-clause-plane
returns-clause-plane c = planes_end
