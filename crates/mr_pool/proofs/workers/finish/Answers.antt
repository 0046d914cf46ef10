-- What the first pass has once all others were joined.
use Rattle.std.proofs.Common.{◌≡◌, ◌∙◌, ap, sym, subst, Some}
use Rattle.mr_pool.specs.declared.workers.WorkStop.TheVariants.{Over}
use Rattle.mr_store.specs.Cards.{mark_of}
use Rattle.mr_pool.specs.Work.{IsWorked}
use Rattle.mr_pool.proofs.Finishing.{is_gathered, is_out, is_worked}
use Rattle.mr_pool.proofs.workers.finish.Goals as goal

pub returns-in-Some-clause-gathered : goal.returns-in-Some-clause-gathered
returns-in-Some-clause-gathered c = is_gathered c.args.store.now c.args.gathered c.requires.gathered c.problem-problem.ensures.facts c.requires.all

pub returns-in-Some-clause-over : goal.returns-in-Some-clause-over
returns-in-Some-clause-over c = λ e. (
    let same : c.in-Some.stop ≡ Over = cc in
    is_out c.args.store.now c.args.gathered c.requires.gathered c.problem-problem.ensures.facts c.requires.all (c.in-Some.is ∙ ap Some same))

pub returns-in-Ok-clause-gathered : goal.returns-in-Ok-clause-gathered
returns-in-Ok-clause-gathered c = is_gathered c.args.store.now c.args.gathered c.requires.gathered c.problem-problem.ensures.facts c.requires.all

pub returns-in-Ok-clause-ok : goal.returns-in-Ok-clause-ok
returns-in-Ok-clause-ok c = subst (IsWorked c.args.store.now (mark_of c.args.gathered.card).made c.args.gathered.card) (sym c.in-Ok.ensures)
    (is_worked c.args.store.now c.args.gathered c.requires.gathered c.problem-problem.ensures.facts c.requires.all c.in-None.is)

pub returns-in-Err-clause-gathered : goal.returns-in-Err-clause-gathered
returns-in-Err-clause-gathered c = is_gathered c.args.store.now c.args.gathered c.requires.gathered c.problem-problem.ensures.facts c.requires.all
