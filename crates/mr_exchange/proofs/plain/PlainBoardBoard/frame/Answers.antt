-- What may be rested on of a board for one pass.
use Rattle.mr_exchange.proofs.OneBoard.{plain_facts}
use Rattle.mr_exchange.proofs.plain.PlainBoardBoard.frame.Goals as goal

pub returns-clause-facts : goal.returns-clause-facts
returns-clause-facts c = rw (← c.self.view_is) (plain_facts _ c.self.invariant.0)
