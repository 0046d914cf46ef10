-- the slot is one of the slots
use Rattle.std.proofs.Common.{sym, subst, length-set, arith}
use Rattle.mr_exchange.specs.contracts.state.State.{the_view}
use Rattle.mr_exchange.specs.declared.event.Event.TheVariants.{Publish}
use Rattle.mr_exchange.specs.Events.{MayPublish}
use Rattle.mr_exchange.specs.Held.{Held, state_of}
use Rattle.mr_exchange.proofs.Bounds.{own_within}
use Rattle.mr_exchange.proofs.Changing.{publish_same, then_held, then_same}
use Rattle.mr_exchange.proofs.state.State.publish.Goals as goal

pub index_mut-requires-2 : goal.index_mut-requires-2
index_mut-requires-2 c =
    let may = subst (λ (h : Held). MayPublish (state_of h) c.args.k c.args.slot c.args.row.now) (sym c.self.view_is) c.requires in
    let lt = own_within (the_view c.self.inside) c.self.invariant c.args.k c.args.slot may.live may.own in omega arith

pub invariant_of-self-2 : goal.invariant_of-self-2
invariant_of-self-2 c =
    then_held (the_view c.self.inside) c.args.self.now _ (Publish c.args.k c.args.slot c.args.row.now) c.self.view_is c.self.invariant c.requires
    (λ may. publish_same (the_view c.self.inside) c.args.k c.index_mut.result.now c.publish.new.self c.index_mut.ensures.value c.args.slot c.args.row.now c.self.invariant may c.in_ok-publish.ensures.ok)
    (length-set c.self.inside.slots.items c.args.slot _)

pub returns-clause-after : goal.returns-clause-after
returns-clause-after c =
    then_same (the_view c.self.inside) c.args.self.now _ (Publish c.args.k c.args.slot c.args.row.now) c.self.view_is c.requires
    (λ may. publish_same (the_view c.self.inside) c.args.k c.index_mut.result.now c.publish.new.self c.index_mut.ensures.value c.args.slot c.args.row.now c.self.invariant may c.in_ok-publish.ensures.ok)
