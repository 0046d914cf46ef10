-- What the workers leave.
use Rattle.std.proofs.Common.{◌≡◌, ◌∙◌, ap, sym, subst, IfOk}
use Rattle.mr_pool.specs.Work.{IsWorked}
use Rattle.mr_pool.proofs.Finishing.{tickets_most, tickets_fewer, first_gathered}
use Rattle.mr_pool.proofs.workers.work.Goals as goal

pub returns-clause-need : goal.returns-clause-need
returns-clause-need g c = tickets_most c.args.store.now c.finish.result.card c.finish.ensures.gathered

pub returns-clause-ok : goal.returns-clause-ok
returns-clause-ok g c = subst (λ n. IfOk c.finish.result.answers (IsWorked c.args.store.now n c.finish.result.card)) (c.search_desks.ensures.made ∙ c.deal.ensures.count) c.finish.ensures.ok

pub returns-clause-above : goal.returns-clause-above
returns-clause-above g c = λ n need e. tickets_fewer c.args.store.now c.finish.result.card (c.finish.ensures.over e) n need
