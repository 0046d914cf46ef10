use Rattle.std.proofs.Common.{List, [], ◌∷◌, ◌++◌, ℕ, sym, ap, subst, ◌∙◌}
use Rattle.mr_auto.specs.Private.Trial.{AreAll}
use Rattle.mr_auto.proofs.Trying.{all_alone, all_none}
use Rattle.mr_auto.proofs.tests.form_alone.Goals as goal

pub returns-in-Some : goal.returns-in-Some
returns-in-Some c = subst (AreAll c.args.frame.now c.args.a.now) (sym c.new-forms.ensures) (all_none c.args.frame.now c.args.a.now c.requires _ c.in-Some.ensures.fails)

pub returns-in_ok-push-in-None : goal.returns-in_ok-push-in-None
returns-in_ok-push-in-None c =
    subst (AreAll c.args.frame.now c.args.a.now) (sym (c.in_ok-push-in-None.ensures.ok ∙ ap (λ (xs : List (List ℕ)). xs ++ c.args.a.now ∷ []) c.new-forms.ensures))
    (all_alone c.args.frame.now c.args.a.now c.requires c.in-None.ensures)
