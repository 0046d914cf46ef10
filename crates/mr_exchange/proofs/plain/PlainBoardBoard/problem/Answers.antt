-- What may be rested on of a board for one pass, and that its numbers are in order.
use Rattle.mr_exchange.proofs.OneBoard.{plain_facts, plain_order}
use Rattle.mr_exchange.proofs.plain.PlainBoardBoard.problem.Goals as goal

pub returns-clause-facts : goal.returns-clause-facts
returns-clause-facts c = rw (← c.self.view_is) (plain_facts _ c.self.invariant.0)

pub returns-clause-order : goal.returns-clause-order
returns-clause-order c = rw (← c.self.view_is) (plain_order _ c.self.invariant.0)
