-- A new pass that claimed the first cube opens a node of it.
use Rattle.std.proofs.Common.{◌∙◌, List, ℕ, ap, set}
use Rattle.mr_exchange_tests.proofs.Boards.{opens_first}
use Rattle.mr_exchange_tests.proofs.board_tests.opens.Goals as goal

pub open_node-requires : goal.open_node-requires
open_node-requires g c =
    opens_first (g.B.Board.holding c.args.board.now) _ _ _ c.requires c.if-not-splits_first.ensures.depth c.if-not-splits_first.ensures.place c.in-Some-eq0.ensures.moves c.in-Some-eq0.field-0-test
    (c.with.ensures ∙ ap (λ (a : List ℕ). set a 0 1) c.empty.ensures)
