-- The row is known, and there were so many looks.
use Rattle.std.proofs.Common.{◌≤◌}
use Rattle.mr_exchange_tests.specs.Private.Boards.{KnowsOne}
use Rattle.mr_exchange_tests.proofs.board_tests.looks_on.Given as goal

abbrev pub invariant-loop-k : goal.invariant-loop-k
invariant-loop-k g l = KnowsOne (g.B.Board.holding l.board) l.row × (l._k ≤ (g.B.Board.holding l.board).looks)
