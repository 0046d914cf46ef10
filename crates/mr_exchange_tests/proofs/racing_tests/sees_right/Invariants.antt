-- There is a ticket, and the ends and the mark stay.
use Rattle.std.proofs.Common.{◌≡◌, ◌≢◌, []}
use Rattle.mr_exchange_tests.proofs.racing_tests.sees_right.Given as goal

abbrev pub invariant-loop-k : goal.invariant-loop-k
invariant-loop-k g l = record {
  tickets : (g.B.Board.holding l.board).tickets ≢ [];
  ends : (g.B.Board.holding l.board).claim_ends ≡ (g.B.Board.holding l.initial.board).claim_ends;
  mark : g.B.Board.mark l.board ≡ g.B.Board.mark l.initial.board;
}
