-- A pass that claimed the cube opens it.
use Rattle.std.proofs.Common.{ap}
use Rattle.mr_exchange.specs.declared.problem.Problem.{Problem}
use Rattle.mr_exchange_tests.proofs.Stores.{cube_number, opens_claimed}
use Rattle.mr_exchange_tests.proofs.store_tests.draws.Goals as goal

pub cube_at-node-requires-clause-number : goal.cube_at-node-requires-clause-number
cube_at-node-requires-clause-number g c = cube_number (g.B.Board.holding c.args.board.now) _ _ c.args.cube c.frame.ensures.facts c.requires c.frame.ensures.frame (ap (λ (p : Problem). p.depth) c.problem-depth.ensures.problem)

pub open_node-requires : goal.open_node-requires
open_node-requires g c =
    opens_claimed (g.B.Board.holding c.args.board.now) _ _ c.args.cube c.cube_at-node.result c.requires c.frame.ensures.frame (ap (λ (p : Problem). p.depth) c.problem-depth.ensures.problem) c.cube_at-node.ensures.value c.cube_at-node.ensures.cube
