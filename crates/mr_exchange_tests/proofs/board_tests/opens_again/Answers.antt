-- A pass that looked on opens a node that hasn't the clause of its row.
use Rattle.std.proofs.Common.{◌∙◌, List, ℕ, ap, set, true≢false, sym}
use Rattle.mr_exchange_tests.proofs.Boards.{opens_second}
use Rattle.mr_exchange_tests.proofs.board_tests.opens_again.Goals as goal

pub open_node-requires : goal.open_node-requires
open_node-requires g c =
    opens_second (g.B.Board.holding c.args.board.now) c.args.row.now _ c.requires c.if-not-splits_first.ensures.depth c.if-not-splits_first.ensures.place (c.with-node.ensures ∙ ap (λ (a : List ℕ). set a 0 1) c.empty.ensures)
    (λ inside. true≢false (sym (c.contains.ensures.1 inside) ∙ c.if-contains.false))
