-- Both slots are without a row.
use Rattle.std.proofs.Common.{List, [], ◌∷◌, ◌++◌, replicate, Option, None, ap, sym, ◌∙◌}
use Rattle.mr_nogood.specs.declared.row.Row.{Row}
use Rattle.mr_exchange.specs.declared.problem.Problem.{Problem}
use Rattle.mr_exchange_tests.proofs.Boards.{untouched_shown}
use Rattle.mr_exchange_tests.proofs.board_tests.untouched.Goals as goal

pub of_parts-requires : goal.of_parts-requires
of_parts-requires c = untouched_shown c.args.frame.now c.of-problem.result c.push-2.new.self c.of-problem.ensures.problem
    (c.in_ok-push-2.ensures.ok
    ∙ ap (λ (xs : List (Option Row)). xs ++ None ∷ []) (c.in_ok-push.ensures.ok ∙ ap (λ (xs : List (Option Row)). xs ++ None ∷ []) c.new-rows.ensures)
    ∙ ap (λ (p : Problem). replicate {A = Option Row} p.nodes None) (sym c.of-problem.ensures.value))
