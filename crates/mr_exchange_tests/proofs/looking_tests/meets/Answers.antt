-- A row whose clause is not in the next node leaves the pass looking on for it.
use Rattle.std.proofs.lemmas.Bool.{OnTrue_from}
use Rattle.mr_exchange_tests.specs.Private.Stores.{IsLooking}
use Rattle.mr_exchange_tests.proofs.Stores.{looks_on}
use Rattle.mr_exchange_tests.proofs.looking_tests.meets.Goals as goal

pub returns-then-not-contains-clause-looking : goal.returns-then-not-contains-clause-looking
returns-then-not-contains-clause-looking g c =
    let h = g.B.Board.holding c.args.board.now in
    let k = g.B.Board.holding c.look.new.self in
    OnTrue_from _ (IsLooking k c.args.next.now) (λ same. looks_on h k c.in-Short.slot c.in-Short.row c.args.next.now c.requires c.in-Short.ensures.moves
    (λ inside. let e = c.contains.ensures.1 inside in let f = c.if-not-contains.true in absurd cc))
