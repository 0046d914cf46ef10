-- One more cube, from what is told of its search.
use Rattle.std.proofs.Common.{sym, ap, subst, ◌∙◌, Ok, Err}
use Rattle.std.proofs.lemmas.Result.{err_from_is_err_and}
use Rattle.mr_pool.specs.Private.Lists.{HasListed}
use Rattle.mr_pool.proofs.Places.{stop_of}
use Rattle.mr_pool.proofs.Serving.{nodes_tried, many_tried, stays_tried}
use Rattle.mr_pool.proofs.Listing.{listed_tried}
use Rattle.mr_pool.proofs.cubes.search_cubes.Goals as goal

pub returns-in_err-searched-clause-nodes : goal.returns-in_err-searched-clause-nodes
returns-in_err-searched-clause-nodes g c = nodes_tried (g.B.Board.holding c.loop-cube.board) (g.B.Board.holding c.claim.new.self) (g.B.Board.holding c.search_cube-searched.new.board) c.in-Some.cube
    (record { gains = c.in-Some.ensures.moves; facts = c.problem-problem.ensures.facts; keeps = c.search_cube-searched.ensures.keeps; nodes = c.search_cube-searched.ensures.nodes })
    c.loop-cube.invariant.served.served.nodes

pub returns-in_err-searched-clause-more : goal.returns-in_err-searched-clause-more
returns-in_err-searched-clause-more g c = λ e.
    let p = err_from_is_err_and c.from_residual.result c.from_residual.ensures.1 in
    many_tried (g.B.Board.holding c.loop-cube.board) (g.B.Board.holding c.claim.new.self) (g.B.Board.holding c.search_cube-searched.new.board) c.in-Some.cube
    (record { gains = c.in-Some.ensures.moves; facts = c.problem-problem.ensures.facts; keeps = c.search_cube-searched.ensures.keeps; nodes = c.search_cube-searched.ensures.nodes })
    c.loop-cube.invariant.served.served.nodes (c.in_err-searched.ensures.fewer (ap Err (sym p.2 ∙ ap stop_of (sym p.1 ∙ e))))

pub returns-in_err-keep-clause-nodes : goal.returns-in_err-keep-clause-nodes
returns-in_err-keep-clause-nodes g c = nodes_tried (g.B.Board.holding c.loop-cube.board) (g.B.Board.holding c.claim.new.self) (g.B.Board.holding c.search_cube-searched.new.board) c.in-Some.cube
    (record { gains = c.in-Some.ensures.moves; facts = c.problem-problem.ensures.facts; keeps = c.search_cube-searched.ensures.keeps; nodes = c.search_cube-searched.ensures.nodes })
    c.loop-cube.invariant.served.served.nodes

pub loop-cube-preserved : goal.loop-cube-preserved
loop-cube-preserved g c =
    let h = g.B.Board.holding c.loop-cube.board in
    let k = g.B.Board.holding c.claim.new.self in
    let after = g.B.Board.holding c.search_cube-searched.new.board in
    let i = c.loop-cube.invariant in
    let stays = stays_tried h k after c.in-Some.cube (record { gains = c.in-Some.ensures.moves; facts = c.problem-problem.ensures.facts; keeps = c.search_cube-searched.ensures.keeps; nodes = c.search_cube-searched.ensures.nodes }) in record {
      frame = stays.frame ∙ i.frame;
      problem = stays.problem ∙ i.problem;
      mark = c.search_cube-searched.ensures.mark ∙ c.in-Some.ensures.mark ∙ i.mark;
      no_end = stays.ends ∙ i.no_end;
      ready = c.in_ok-searched.ensures.ready;
      served = subst (HasListed after) (sym c.in_ok-keep.ensures.ok) (listed_tried h k after c.in-Some.cube
          (record { gains = c.in-Some.ensures.moves; facts = c.problem-problem.ensures.facts; keeps = c.search_cube-searched.ensures.keeps; nodes = c.search_cube-searched.ensures.nodes })
          c.loop-cube.list.items c.in_ok-searched.field-0
          (record { right = c.in_ok-searched.ensures.right; first = λ x e. (c.in_ok-searched.ensures.first.first x (ap Ok e)).0; found = c.in_ok-searched.ensures.opened }) i.served);
    }
