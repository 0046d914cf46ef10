-- All desks, the first card's at the end.
use Rattle.std.proofs.Common.{◌≡◌, ◌+◌, ◌<◌, ◌∙◌, ap, sym, subst, arith}
use Rattle.std.specs.Prelude.{All}
use Rattle.mr_store.specs.Cards.{Mark, mark_of}
use Rattle.mr_pool.specs.Private.Desks.{IsOtherDesk}
use Rattle.mr_pool.proofs.Dealing.{all_new, mark_more, all_push, other_desk}
use Rattle.mr_pool.proofs.desk.deal.Goals as goal

pub loop-worker-preserved : goal.loop-worker-preserved
loop-worker-preserved c =
    let number : 0 < (mark_of c.loop-worker.first).made = (let made = ap (λ (m : Mark). m.made) c.loop-worker.invariant.mark in omega arith) in record {
      kept = c.split-card.ensures.kept ∙ c.loop-worker.invariant.kept;
      mark = mark_more (mark_of c.args.first) (mark_of c.loop-worker.first) (mark_of c.split-card.new.first) c.loop-worker.worker c.loop-worker.invariant.mark c.split-card.ensures.first;
      count = omega arith;
      room = omega arith;
      others = subst (All (IsOtherDesk c.args.store.now)) (sym c.push_reserved.ensures.items)
          (all_push (IsOtherDesk c.args.store.now) c.loop-worker.desks.items c.new.result c.loop-worker.invariant.others
          (other_desk c.args.store.now c.new.result c.split-card.result (mark_of c.loop-worker.first).made c.new.ensures.card (c.new.ensures.worker ∙ sym (ap (λ (m : Mark). m.made) c.loop-worker.invariant.mark)) c.new.ensures.list c.split-card.ensures.new number c.split-card.ensures.nothing));
    }

pub returns-clause-new : goal.returns-clause-new
returns-clause-new c =
    let end : c.loop-worker.worker ≡ c.args.workers = omega arith in
    all_new c.args.store.now c.args.workers c.loop-worker.desks.items c.push_reserved-2.new.self.items c.new-2.result c.args.first c.loop-worker.first c.requires.first
    (c.loop-worker.invariant.mark ∙ ap (λ n. record (mark_of c.args.first) { made = n }) end)
    c.loop-worker.invariant.kept c.loop-worker.invariant.others c.push_reserved-2.ensures.items (omega arith) c.new-2.ensures.card c.new-2.ensures.worker c.new-2.ensures.list
