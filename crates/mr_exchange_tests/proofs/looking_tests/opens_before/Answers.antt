-- A pass that opened its cube may look on for the next node.
use Rattle.std.proofs.Common.{ℕ, Option, subst}
use Rattle.std.specs.Prelude.{IfSome}
use Rattle.std.proofs.lemmas.Bool.{OnTrue_from}
use Rattle.mr_frame.specs.Frame.{Framed}
use Rattle.mr_frame.specs.Test.{IsAssignmentOf}
use Rattle.mr_exchange.specs.Board.{GainsTicket}
use Rattle.mr_exchange_tests.specs.Private.Stores.{IsLooking}
use Rattle.mr_exchange_tests.proofs.Stores.{starts_looking}
use Rattle.mr_exchange_tests.proofs.looking_tests.opens_before.Goals as goal

pub returns-then-contains-clause-looking : goal.returns-then-contains-clause-looking
returns-then-contains-clause-looking g c =
    let h = g.B.Board.holding c.args.board.now in
    let k = g.B.Board.holding c.draws-found.new.board in
    let gains : GainsTicket h c.draws-found.result.0 c.in-Some.drawn k = subst (λ (o : Option ℕ). IfSome o (λ ticket. GainsTicket h c.draws-found.result.0 ticket k)) c.in-Some.is c.draws-found.ensures.moves in
    OnTrue_from _ (IsLooking k c.args.next.now) (λ assigned. starts_looking h k c.args.cube c.in-Some.drawn c.draws-found.result.0 _
    c.requires gains c.frame.ensures.facts (c.contains.ensures.0 c.if-contains.true) (subst (λ (f : Framed). IsAssignmentOf f c.args.next.now) c.frame.ensures.frame (c.is_assignment.ensures.0 assigned)))
