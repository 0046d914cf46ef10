-- The first pass begins, and then one more is joined and the others are left.
use Rattle.std.proofs.Common.{◌≡◌, ℕ, List, length, Option, ap, subst, arith}
use Rattle.std.specs.Prelude.{IfSome}
use Rattle.std.proofs.lemmas.List.Elements.{All-pop}
use Rattle.mr_exchange_tests.specs.declared.racing_tests.Racer.{Racer}
use Rattle.mr_exchange_tests.specs.Private.Stores.{IsRacer}
use Rattle.mr_exchange_tests.proofs.racing_tests.gather.Goals as goal

pub loop-other-init : goal.loop-other-init
loop-other-init c =
    let popped = All-pop (λ (racer : Racer). IsRacer c.args.store.now c.args.passes racer.number racer.card) c.args.racers.items c.pop.new.self.items c.pop.result c.pop.ensures.items c.requires.racers in
    let is : IsRacer c.args.store.now c.args.passes c.in-Some.all.number c.in-Some.all.card = subst (λ (o : Option Racer). IfSome o (λ (racer : Racer). IsRacer c.args.store.now c.args.passes racer.number racer.card)) c.in-Some.is popped.1 in
    let zero : c.in-Some.all.number ≡ 0 = omega arith in
    let none = ap (λ (xs : List ℕ). length xs) is.alone in
    let made = is.made_is zero in
    record {
      store = is.store;
      number = omega arith;
      count = omega (arith, c.in-Some.ensures.cases);
      others = popped.0;
    }

pub take_in-requires-clause-other : goal.take_in-requires-clause-other
take_in-requires-clause-other c =
    let popped = All-pop (λ (racer : Racer). IsRacer c.args.store.now c.args.passes racer.number racer.card) c.loop-other.racers.items c.pop-in-loop-other.new.self.items c.pop-in-loop-other.result c.pop-in-loop-other.ensures.items c.loop-other.invariant.others in
    let is : IsRacer c.args.store.now c.args.passes c.in-Some-pop.other.number c.in-Some-pop.other.card = subst (λ (o : Option Racer). IfSome o (λ (racer : Racer). IsRacer c.args.store.now c.args.passes racer.number racer.card)) c.in-Some-pop.is popped.1 in
    (is.store, omega arith)

pub loop-other-preserved : goal.loop-other-preserved
loop-other-preserved c =
    let popped = All-pop (λ (racer : Racer). IsRacer c.args.store.now c.args.passes racer.number racer.card) c.loop-other.racers.items c.pop-in-loop-other.new.self.items c.pop-in-loop-other.result c.pop-in-loop-other.ensures.items c.loop-other.invariant.others in
    record {
      store = c.take_in.ensures.first.0;
      number = c.take_in.ensures.first.1;
      count = omega (arith, c.in-Some-pop.ensures.cases);
      others = popped.0;
    }
