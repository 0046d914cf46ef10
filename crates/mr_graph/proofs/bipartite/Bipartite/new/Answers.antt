-- empty words have no edge
use Rattle.mr_set.specs.declared.TheConstants.{ELEMENTS}
use Rattle.mr_graph.proofs.Words.{no_edge}
use Rattle.mr_graph.proofs.bipartite.Bipartite.new.Goals as goal

pub returns-clause-edges : goal.returns-clause-edges
returns-clause-edges c = λ i e x. no_edge c.args.rows c.args.cols ELEMENTS i e x
