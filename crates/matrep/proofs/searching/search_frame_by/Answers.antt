-- what the search ends with, with the budget that was asked for
use Rattle.matrep.proofs.searching.search_frame_by.Goals as goal

pub returns : goal.returns
returns g c = c.searched_to.ensures c.args.nodes c.args.split c.of-problem.ensures.value
