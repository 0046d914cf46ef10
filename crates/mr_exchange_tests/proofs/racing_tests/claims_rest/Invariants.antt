-- No end was met, and the mark stays.
use Rattle.std.proofs.Common.{◌≡◌}
use Rattle.mr_exchange_tests.proofs.racing_tests.claims_rest.Given as goal

abbrev pub invariant-loop-k : goal.invariant-loop-k
invariant-loop-k g l = record {
  no_end : (g.B.Board.holding l.board).claim_ends ≡ 0;
  mark : g.B.Board.mark l.board ≡ g.B.Board.mark l.initial.board;
}
