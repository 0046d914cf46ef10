-- what the answers of all cubes are merged to, or that the nodes are spent
use Rattle.std.proofs.Common.{ℕ, subst}
use Rattle.std.specs.Prelude.{IfOk}
use Rattle.mr_exchange.specs.declared.problem.Problem.{Problem}
use Rattle.matrep.specs.Private.Searched.{IsSearchedTo}
use Rattle.matrep.proofs.Found.{spent_on}
use Rattle.matrep.proofs.searching.searched_to.Goals as goal

pub returns-in-Ok : goal.returns-in-Ok
returns-in-Ok c = λ nodes split is. subst (λ (p : Problem). IfOk c.merge_answers.result (IsSearchedTo c.args.frame.now p.nodes split)) is (c.merge_answers.ensures split)

pub returns-in-Stopped : goal.returns-in-Stopped
returns-in-Stopped c = λ nodes split is. spent_on c.args.frame.now c.args.problem c.args.ran c.in-Err.stop c.in-Stopped.closed c.opened.result nodes split is c.requires.stopped c.in-Err.is c.in-Stopped.is c.opened.ensures.opened
