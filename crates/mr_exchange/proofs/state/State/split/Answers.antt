-- the new pass stands at the end
use Rattle.std.proofs.Common.{refl}
use Rattle.mr_exchange.specs.contracts.state.State.{the_view}
use Rattle.mr_exchange.specs.contracts.pass.PassData as pass
use Rattle.mr_exchange.specs.declared.event.Event.TheVariants.{Split}
use Rattle.mr_exchange.proofs.Changing.{as_read, split_same, then_held}
use Rattle.mr_exchange.proofs.state.State.split.Goals as goal

pub invariant_of-self-2 : goal.invariant_of-self-2
invariant_of-self-2 c =
    then_held (the_view c.self.inside) c.args.self.now _ Split c.self.view_is c.self.invariant c.requires
    (λ may. split_same (the_view c.self.inside) (pass.the_view c.first.inside) (pass.the_view c.first-2.inside) c.new.result c.push.new.self.items c.self.invariant
    (as_read c.self.inside.passes.items 0 (pass.the_view c.first.inside) c.index-first.result.now c.first.view_is c.index-first.ensures) c.in_ok-push.ensures.items c.new.ensures
    (as_read c.push.new.self.items 0 (pass.the_view c.first-2.inside) c.index_mut-first.result.now c.first-2.view_is c.index_mut-first.ensures.value)) refl
