-- The problem of splitting one position.
use Rattle.std.proofs.Common.{ap, ◌∙◌, arith}
use Rattle.mr_field.specs.Gf.{order}
use Rattle.mr_exchange_tests.proofs.Boards.{problem_is}
use Rattle.mr_exchange_tests.proofs.board_tests.split_once.Goals as goal

pub returns : goal.returns
returns c =
    let same = c.order.ensures.value ∙ ap order c.field.ensures in
    problem_is c.args.frame.now c.saturating_sub-cubes.result c.args.nodes c.requires.0 c.requires.1 (omega arith) (omega arith)
