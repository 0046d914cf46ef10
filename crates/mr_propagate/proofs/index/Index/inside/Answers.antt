-- no map has a value past the last position
use Rattle.std.proofs.Common.{arith}
use Rattle.std.proofs.lemmas.List.{get_or_past}
use Rattle.mr_propagate.proofs.index.Index.inside.Goals as goal

pub inside_below-requires-clause-last : goal.inside_below-requires-clause-last
inside_below-requires-clause-last c = λ q past. get_or_past c.args.node.now q 0 (let long = c.words-words.ensures.assign.positions in omega arith)
