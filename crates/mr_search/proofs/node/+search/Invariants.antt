-- How far a search goes on, and what it leaves while the values of a position are tried.
use Rattle.std.proofs.Common.{◌≡◌, ◌+◌, ◌-◌, ◌*◌, length}
use Rattle.mr_assign.specs.declared.TheConstants.{POSITIONS}
use Rattle.mr_search.specs.Private.Steps.{Through}
use Rattle.mr_search.proofs.node.+search.Given as goal

abbrev pub decreases-search_node : goal.decreases-search_node
decreases-search_node g l = 3 * (POSITIONS - l.p) + 2

abbrev pub decreases-search_values : goal.decreases-search_values
decreases-search_values g l = 3 * (POSITIONS - l.p) + 1

abbrev pub decreases-search_value : goal.decreases-search_value
decreases-search_value g l = 3 * (POSITIONS - l.p)

abbrev pub invariant-search_values-loop-v : goal.invariant-search_values-loop-v
invariant-search_values-loop-v g l =
    let h = g.B.Board.holding l.fn.board in record {
      through : Through h.frame h (g.B.Board.holding l.board) l.index l.node l.p l.v l.fn.found l.found l.cites;
      long : length l.cites ≡ 8;
      mark : g.B.Board.mark l.board ≡ g.B.Board.mark l.fn.board;
    }
