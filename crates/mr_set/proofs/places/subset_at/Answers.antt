use Rattle.mr_set.proofs.Placing.{place-set, place-size, place_of-size}
use Rattle.mr_set.proofs.places.subset_at.Goals as goal

pub returns-clause-set : goal.returns-clause-set
returns-clause-set c = place-set c.args.n c.args.r c.args.k c.subset_from.result c.subset_from.ensures

pub returns-clause-size : goal.returns-clause-size
returns-clause-size c = place-size c.args.n c.args.r c.args.k c.subset_from.result c.subset_from.ensures

pub returns-clause-place : goal.returns-clause-place
returns-clause-place c = place_of-size c.args.n c.args.r c.args.k c.subset_from.result c.subset_from.ensures
