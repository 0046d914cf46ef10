-- a full assignment under which no set fails is its only completion
use Rattle.std.proofs.Common.{◌∙◌, List, ℕ, [], ◌∷◌, ◌++◌, sym, ap, subst}
use Rattle.mr_exchange.specs.Right.{AreCompletions}
use Rattle.mr_search_tests.proofs.Answered.{full_completions}
use Rattle.mr_search_tests.proofs.merge_tests.answer_of.Goals as goal

pub returns-in-Ok : goal.returns-in-Ok
returns-in-Ok c = λ rows.
    let is = c.in-Ok.ensures.ok ∙ ap (λ (xs : List (List ℕ)). xs ++ c.args.cube.now ∷ []) c.new-list.ensures in
    let all = full_completions c.args.frame.now c.args.cube.now c.requires.map c.requires.assignment c.requires.full c.in-None.ensures in
    ((λ none. let clash = sym is ∙ none in cc), subst (AreCompletions c.args.frame.now c.args.cube.now) (sym is) all)
