-- what the search ends with, with the budget that was asked for
use Rattle.matrep.proofs.searching.search_frame.Goals as goal

pub returns : goal.returns
returns c = c.searched_to.ensures c.args.nodes c.args.split c.of-problem.ensures.value
