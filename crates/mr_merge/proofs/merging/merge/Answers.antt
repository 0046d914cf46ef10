-- what was found are the forms, and where nothing was there is none
use Rattle.std.proofs.Common.{◌∙◌, sym, ap, subst}
use Rattle.std.specs.Prelude.{flat_map}
use Rattle.mr_assign.specs.Assign.{no_values}
use Rattle.mr_exchange.specs.Right.{AreCompletions}
use Rattle.mr_merge.specs.Answers.{HasFound}
use Rattle.mr_merge.specs.Private.Answers.{found_of}
use Rattle.mr_merge.proofs.Answered.{found_some}
use Rattle.mr_merge.proofs.Boards.{forms_are, some_found, not_empty, is_nil}
use Rattle.mr_merge.proofs.merging.merge.Goals as goal

pub returns-then-not-is_empty-clause-found : goal.returns-then-not-is_empty-clause-found
returns-then-not-is_empty-clause-found c =
    let is = c.in_ok-forms.ensures ∙ ap (flat_map found_of) c.as_slice.ensures in
    let some = not_empty c.as_slice-2.result.now c.if-not-is_empty.ensures in
    some_found c.args.answers.now (λ e. some (c.as_slice-2.ensures ∙ is ∙ e))

pub returns-then-not-is_empty-clause-forms : goal.returns-then-not-is_empty-clause-forms
returns-then-not-is_empty-clause-forms c =
    let is = c.in_ok-forms.ensures ∙ ap (flat_map found_of) c.as_slice.ensures in
    let some = not_empty c.as_slice-2.result.now c.if-not-is_empty.ensures in
    let all = forms_are c.args.frame.now c.args.problem c.args.closed.now c.requires.frame c.requires.problem c.opened-opened.ensures.shown c.args.answers.now c.requires.answers in
    ((λ e. some (c.as_slice-2.ensures ∙ e)), subst (AreCompletions c.args.frame.now no_values) (sym is) all)

pub refutation-requires-clause-none : goal.refutation-requires-clause-none
refutation-requires-clause-none c = λ found.
    let is = c.in_ok-forms.ensures ∙ ap (flat_map found_of) c.as_slice.ensures in
    let none = is_nil c.as_slice-2.result.now c.if-not-is_empty.ensures in
    found_some c.args.frame.now c.args.problem _ c.args.answers.now c.requires.answers (subst HasFound c.as_slice-3.ensures found) (sym is ∙ sym c.as_slice-2.ensures ∙ none)

pub returns-clause-found : goal.returns-clause-found
returns-clause-found c = λ found.
    let is = c.in_ok-forms.ensures ∙ ap (flat_map found_of) c.as_slice.ensures in
    let none = is_nil c.as_slice-2.result.now c.if-not-is_empty.ensures in
    found_some c.args.frame.now c.args.problem _ c.args.answers.now c.requires.answers found (sym is ∙ sym c.as_slice-2.ensures ∙ none)

pub returns-clause-forms : goal.returns-clause-forms
returns-clause-forms c =
    let is = c.in_ok-forms.ensures ∙ ap (flat_map found_of) c.as_slice.ensures in
    let none = is_nil c.as_slice-2.result.now c.if-not-is_empty.ensures in
    let all = forms_are c.args.frame.now c.args.problem c.args.closed.now c.requires.frame c.requires.problem c.opened-opened.ensures.shown c.args.answers.now c.requires.answers in
    subst (AreCompletions c.args.frame.now no_values) (sym is ∙ sym c.as_slice-2.ensures ∙ none) all
