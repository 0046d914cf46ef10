-- the claim word is small
use Rattle.std.proofs.Common.{refl, arith}
use Rattle.mr_exchange.specs.contracts.state.State.{the_view}
use Rattle.mr_exchange.specs.declared.event.Event.TheVariants.{Claim}
use Rattle.mr_exchange.proofs.Bounds.{small_words}
use Rattle.mr_exchange.proofs.Changing.{claim_same, then_held}
use Rattle.mr_exchange.proofs.state.State.claim.Goals as goal

pub overflow_add-self : goal.overflow_add-self
overflow_add-self c = let small = (small_words (the_view c.self.inside) c.self.invariant).0 in omega arith

pub invariant_of-self-2 : goal.invariant_of-self-2
invariant_of-self-2 c =
    then_held (the_view c.self.inside) c.args.self.now _ (Claim c.args.k) c.self.view_is c.self.invariant c.requires
    (λ may. claim_same (the_view c.self.inside) c.args.k c.index_mut.result.now c.claim.new.self c.index_mut.ensures.value may c.in_ok-claim.ensures.ok) refl
