-- A new pass that has claimed a cube is ready.
use Rattle.mr_search.proofs.Stepping.{ready_new}
use Rattle.mr_search_tests.proofs.cube_tests.searched.Goals as goal

pub search_cube-requires-clause-ready : goal.search_cube-requires-clause-ready
search_cube-requires-clause-ready c = ready_new _ _ c.in_ok-index.index c.args.frame.now c.of-problem.result c.in-Some.cube c.in_ok-board.ensures c.in-Some.ensures.moves c.in_ok-index.ensures
