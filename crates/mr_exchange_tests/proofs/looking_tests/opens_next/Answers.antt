-- A pass that made the looks that are due opens the next node.
use Rattle.mr_exchange_tests.proofs.Stores.{opens_looked}
use Rattle.mr_exchange_tests.proofs.looking_tests.opens_next.Goals as goal

pub open_node-requires : goal.open_node-requires
open_node-requires g c = opens_looked (g.B.Board.holding c.args.board.now) c.args.next.now c.requires.looking c.requires.looks
