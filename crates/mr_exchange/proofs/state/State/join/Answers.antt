-- the other pass is put back where there was no room
use Rattle.std.proofs.Common.{refl, sym, ap, ◌∙◌, subst, arith}
use Rattle.mr_exchange.specs.contracts.state.State.{the_view}
use Rattle.mr_exchange.specs.declared.event.Event.TheVariants.{Join}
use Rattle.mr_exchange.specs.State.{Pass}
use Rattle.mr_exchange.specs.Events.{MayJoin}
use Rattle.mr_exchange.specs.Held.{Held, state_of}
use Rattle.mr_exchange.specs.Private.Held.{IsHeld}
use Rattle.mr_exchange.proofs.Bounds.{small_words, few_claim_ends}
use Rattle.mr_exchange.proofs.Changing.{as_read, read_pass, first_read, join_same, join_undone, then_held}
use Rattle.mr_exchange.proofs.state.State.join.Goals as goal

pub join-requires-clause-claim_ends : goal.join-requires-clause-claim_ends
join-requires-clause-claim_ends c =
    let may = subst (λ (h : Held). MayJoin (state_of h) c.args.k) (sym c.self.view_is) c.requires in
    let last = as_read c.self.inside.passes.items c.args.k c.replace-other.result c.index_mut.result.now c.replace-other.ensures.value c.index_mut.ensures.value in
    let p = ap (λ (x : Pass). x.claim_ends) (first_read (the_view c.self.inside) c.args.k c.replace-other.new.dest c.index_mut-2.result.now c.replace-other.result c.replace-other.result may (c.replace-other.ensures.after ∙ c.spent.ensures) c.index_mut-2.ensures.value last) in
    let q = ap (λ (x : Pass). x.claim_ends) (read_pass (the_view c.self.inside) c.args.k c.replace-other.result may.live last) in
    let few = few_claim_ends (the_view c.self.inside) c.self.invariant c.args.k may in
    let small = (small_words (the_view c.self.inside) c.self.invariant).0 in
    omega arith

pub invariant_of-self : goal.invariant_of-self
invariant_of-self c =
    let last = as_read c.self.inside.passes.items c.args.k c.replace-other.result c.index_mut.result.now c.replace-other.ensures.value c.index_mut.ensures.value in
    then_held (the_view c.self.inside) c.args.self.now _ (Join c.args.k) c.self.view_is c.self.invariant c.requires
    (λ may. join_same (the_view c.self.inside) c.args.k c.replace-other.new.dest c.index_mut-2.result.now c.replace-other.result c.join.new.self may (c.replace-other.ensures.after ∙ c.spent.ensures) c.index_mut-2.ensures.value last c.in-Ok.ensures.ok) refl

pub invariant_of-self-in-Err : goal.invariant_of-self-in-Err
invariant_of-self-in-Err c =
    let may = subst (λ (h : Held). MayJoin (state_of h) c.args.k) (sym c.self.view_is) c.requires in
    let last = as_read c.self.inside.passes.items c.args.k c.replace-other.result c.index_mut.result.now c.replace-other.ensures.value c.index_mut.ensures.value in
    subst IsHeld (sym (join_undone (the_view c.self.inside) c.args.k c.replace-other.new.dest c.index_mut-2.result.now c.replace-other.result c.join.new.self may (c.replace-other.ensures.after ∙ c.spent.ensures) c.index_mut-2.ensures.value last c.in-Err.ensures.err)) c.self.invariant

pub returns-in-Err-clause-err : goal.returns-in-Err-clause-err
returns-in-Err-clause-err c =
    let may = subst (λ (h : Held). MayJoin (state_of h) c.args.k) (sym c.self.view_is) c.requires in
    let last = as_read c.self.inside.passes.items c.args.k c.replace-other.result c.index_mut.result.now c.replace-other.ensures.value c.index_mut.ensures.value in
    join_undone (the_view c.self.inside) c.args.k c.replace-other.new.dest c.index_mut-2.result.now c.replace-other.result c.join.new.self may (c.replace-other.ensures.after ∙ c.spent.ensures) c.index_mut-2.ensures.value last c.in-Err.ensures.err ∙ c.self.view_is
