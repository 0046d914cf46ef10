use Rattle.std.proofs.Common.{ℕ, ◌↔◌, List, sym, subst}
use Rattle.std.specs.Prelude.{Contains}
use Rattle.std.specs.List.Sorted.{IsStrictlySortedBy}
use Rattle.std.proofs.lemmas.Result.{IfOk-weaker}
use Rattle.mr_set.specs.Subsets.{list_cmp}
use Rattle.mr_frame.specs.Completion.{IsCompletion}
use Rattle.mr_class.specs.Forms.{IsForm}
use Rattle.mr_auto.specs.Private.Trial.{IsStart, AreAll}
use Rattle.mr_auto.proofs.Trying.{start_none}
use Rattle.mr_auto.proofs.tests.forms_of.Goals as goal

pub forms_from-requires-clause-start : goal.forms_from-requires-clause-start
forms_from-requires-clause-start c = subst (IsStart c.args.frame.now 0) (sym c.empty.ensures) (start_none c.args.frame.now)

pub returns-clause-increasing : goal.returns-clause-increasing
returns-clause-increasing c = IfOk-weaker c.forms_from.result _ (IsStrictlySortedBy list_cmp) (λ (xs : List (List ℕ)). λ (h : AreAll c.args.frame.now c.empty.result xs). h.increasing) c.forms_from.ensures

pub returns-clause-forms : goal.returns-clause-forms
returns-clause-forms c = IfOk-weaker c.forms_from.result _ (λ (xs : List (List ℕ)). (d : List ℕ) → Contains xs d ↔ IsForm c.args.frame.now d)
    (λ (xs : List (List ℕ)). λ (h : AreAll c.args.frame.now c.empty.result xs). subst (λ (b : List ℕ). (d : List ℕ) → Contains xs d ↔ IsCompletion c.args.frame.now b d) c.empty.ensures h.exactly)
    c.forms_from.ensures
