-- So many looks were made, and where they showed no new row nothing was learnt.
use Rattle.std.proofs.Common.{◌≡◌, false}
use Rattle.mr_exchange.specs.Board.{BoardFacts}
use Rattle.mr_search.specs.Search.{Learnt}
use Rattle.mr_search.specs.Private.Steps.{GoesOn}
use Rattle.mr_search.proofs.opening.look_about.Given as goal

abbrev pub invariant-loop-k : goal.invariant-loop-k
invariant-loop-k g l = record {
  goes : GoesOn l._k (g.B.Board.holding l.fn.board) (g.B.Board.holding l.board);
  learnt : Learnt l.index (g.B.Board.holding l.board);
  facts : BoardFacts (g.B.Board.holding l.board);
  same : l.learnt ≡ false → l.index ≡ l.fn.index;
  mark : g.B.Board.mark l.board ≡ g.B.Board.mark l.fn.board;
}
