-- Each pass that was split off is dealt, and the first one at the end.
use Rattle.std.proofs.Common.{◌≡◌, sym, subst, rules, arith}
use Rattle.std.specs.Prelude.{All}
use Rattle.std.proofs.lemmas.List.Elements.{All-push}
use Rattle.mr_exchange_tests.specs.declared.racing_tests.Racer.{Racer}
use Rattle.mr_exchange_tests.specs.Private.Stores.{IsFirst, IsReady}
use Rattle.mr_exchange_tests.proofs.Stores.{splits_ready, first_ready}
use Rattle.mr_exchange_tests.proofs.racing_tests.deal.Goals as goal

pub loop-number-preserved : goal.loop-number-preserved
loop-number-preserved c =
    record {
      count = omega arith;
      room = omega arith;
      first = search rules;
      racers = subst (All (λ (racer : Racer). IsReady c.args.store.now c.args.passes racer.number racer.card)) (sym c.push_reserved.ensures.items)
          (All-push (λ (racer : Racer). IsReady c.args.store.now c.args.passes racer.number racer.card) c.loop-number.racers.items _ c.loop-number.invariant.racers
          (splits_ready c.args.store.now c.args.passes c.loop-number.number c.loop-number.first c.split-card.result (omega arith) c.loop-number.invariant.first c.split-card.ensures.new c.split-card.ensures.nothing));
    }

pub returns-clause-racers : goal.returns-clause-racers
returns-clause-racers c =
    let end : c.loop-number.number ≡ c.args.passes = omega arith in
    subst (All (λ (racer : Racer). IsReady c.args.store.now c.args.passes racer.number racer.card)) (sym c.push_reserved-2.ensures.items)
    (All-push (λ (racer : Racer). IsReady c.args.store.now c.args.passes racer.number racer.card) c.loop-number.racers.items _ c.loop-number.invariant.racers
    (first_ready c.args.store.now c.args.passes c.loop-number.first (subst (λ made. IsFirst c.args.store.now made c.loop-number.first) end c.loop-number.invariant.first)))
