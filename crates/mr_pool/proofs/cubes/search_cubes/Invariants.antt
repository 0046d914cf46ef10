use Rattle.std.proofs.Common.{◌≡◌, ◌+◌, ◌-◌, length}
use Rattle.mr_search.specs.Search.{IsReady}
use Rattle.mr_pool.specs.Private.Lists.{HasListed}
use Rattle.mr_pool.proofs.cubes.search_cubes.Given as goal

-- each cube that was claimed is answered, and the pass is ready for the next
abbrev pub invariant-loop-cube : goal.invariant-loop-cube
invariant-loop-cube g l = record {
  frame : (g.B.Board.holding l.board).frame ≡ (g.B.Board.holding l.initial.board).frame;
  problem : (g.B.Board.holding l.board).problem ≡ (g.B.Board.holding l.initial.board).problem;
  mark : g.B.Board.mark l.board ≡ g.B.Board.mark l.initial.board;
  no_end : (g.B.Board.holding l.board).claim_ends ≡ 0;
  ready : IsReady (g.B.Board.holding l.board) l.index;
  served : HasListed (g.B.Board.holding l.board) l.list.items;
}

-- how many cubes are left, and the claim that gives none
abbrev pub decreases-loop-cube : goal.decreases-loop-cube
decreases-loop-cube g l = (g.B.Board.holding l.board).problem.cubes + 1 - length (g.B.Board.holding l.board).cubes
