-- What the pass has after its search.
use Rattle.std.proofs.Common.{◌≡◌, ◌∙◌, ap, sym, Err}
use Rattle.mr_exchange.specs.Board.{Holding}
use Rattle.mr_pool.proofs.Closing.{ready_first}
use Rattle.mr_pool.proofs.Turning.{listed_new, ended_new, ended_all, ended_over, ended_memory}
use Rattle.mr_pool.proofs.desk.search_all.Goals as goal

pub search_cubes-requires-clause-no_end : goal.search_cubes-requires-clause-no_end
search_cubes-requires-clause-no_end g c = ap (λ (h : Holding). h.claim_ends) c.requires.new

pub search_cubes-requires-clause-ready : goal.search_cubes-requires-clause-ready
search_cubes-requires-clause-ready g c = (let h = g.B.Board.holding c.args.board.now in ready_first h c.in-Ok.index h.frame h.problem c.requires.new c.in-Ok.ensures)

pub search_cubes-requires-clause-served : goal.search_cubes-requires-clause-served
search_cubes-requires-clause-served g c = listed_new (g.B.Board.holding c.args.board.now) c.args.list.now.items c.requires.new c.requires.none
