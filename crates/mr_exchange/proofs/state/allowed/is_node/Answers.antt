-- no cube is in the node
use Rattle.std.proofs.Common.{true≢false, sym, arith}
use Rattle.std.proofs.lemmas.List.Elements.{Contains-get_or}
use Rattle.mr_exchange.proofs.Scanning.{no_cube}
use Rattle.mr_exchange.proofs.state.allowed.is_node.Goals as goal

pub cube_at-requires-clause-number : goal.cube_at-requires-clause-number
cube_at-requires-clause-number c = c.requires.cubes _ (Contains-get_or c.args.cubes.now c.loop-c.c-index 0 c.loop-c-test.true)

pub returns : goal.returns
returns c = (
  λ e. absurd (true≢false (sym e)),
  λ node. absurd (no_cube c.args.frame.now c.args.depth c.args.cubes.now c.args.node.now (λ j lt. c.loop-c.invariant j (omega arith)) node.cube node.claimed node.contains),
)
