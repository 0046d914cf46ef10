-- There is a ticket, and the mark stays.
use Rattle.std.proofs.Common.{◌≡◌, ◌≢◌, []}
use Rattle.mr_exchange_tests.proofs.store_tests.meets_both.Given as goal

abbrev pub invariant-loop-slot : goal.invariant-loop-slot
invariant-loop-slot g l = record {
  tickets : (g.B.Board.holding l.board).tickets ≢ [];
  mark : g.B.Board.mark l.board ≡ g.B.Board.mark l.initial.board;
}
