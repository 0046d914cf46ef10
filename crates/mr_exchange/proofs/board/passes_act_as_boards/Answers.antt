-- The law as it is proved in Holdings.
use Rattle.mr_exchange.proofs.Holdings.{passes_act_as_boards}
use Rattle.mr_exchange.proofs.board.passes_act_as_boards.Goals as goal

pub returns : goal.returns
returns c = passes_act_as_boards
