-- the ticket is the pass's
use Rattle.std.proofs.lemmas.Bool.{OnTrue_from, eqb-true}
use Rattle.mr_exchange.specs.Plain.{plain_holding}
use Rattle.mr_search_tests.specs.Private.Answered.{HasTicket}
use Rattle.mr_search_tests.proofs.Answered.{ticket_drawn}
use Rattle.mr_search_tests.proofs.merge_tests.opens.Goals as goal

pub returns-in-Some-clause-ticket : goal.returns-in-Some-clause-ticket
returns-in-Some-clause-ticket c = OnTrue_from _ (HasTicket (plain_holding c.open_node.new.self)) (λ first.
    ticket_drawn (plain_holding c.args.board.now) (plain_holding c.open_node.new.self) c.cube_at-node.result c.in-Some.ticket c.requires c.in-Some.ensures.moves (eqb-true c.in-Some.ticket 0 first))
