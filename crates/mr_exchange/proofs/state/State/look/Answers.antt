-- the cursor is at one of the slots
use Rattle.std.proofs.Common.{◌≡◌, refl, sym, ap, subst, arith, get_or}
use Rattle.mr_exchange.specs.contracts.state.State.{the_view}
use Rattle.mr_exchange.specs.declared.event.Event.TheVariants.{LookAt}
use Rattle.mr_exchange.specs.State.{Pass}
use Rattle.mr_exchange.specs.Events.{MayLook, seen}
use Rattle.mr_exchange.specs.Held.{Held, state_of}
use Rattle.mr_exchange.proofs.Bounds.{few_slots}
use Rattle.mr_exchange.proofs.Changing.{cursor_read, look_same, look_answers, then_held, then_same, then_answers}
use Rattle.mr_exchange.proofs.state.State.look.Goals as goal

pub index-row-requires : goal.index-row-requires
index-row-requires c =
    let may = subst (λ (h : Held). MayLook (state_of h) c.args.k) (sym c.self.view_is) c.requires in
    let lt = cursor_read (the_view c.self.inside) c.args.k c.index_mut-pass.result.now c.index_mut-pass.result.now c.index_mut-pass.ensures.value c.self.invariant may in
    let e = ap (λ (p : Pass). p.cursor) c.pass.view_is in omega arith

pub look-requires-clause-cursor : goal.look-requires-clause-cursor
look-requires-clause-cursor c =
    let may = subst (λ (h : Held). MayLook (state_of h) c.args.k) (sym c.self.view_is) c.requires in
    let lt = cursor_read (the_view c.self.inside) c.args.k c.index_mut-pass.result.now c.index_mut-pass.result.now c.index_mut-pass.ensures.value c.self.invariant may in
    let few = few_slots (the_view c.self.inside) c.self.invariant in omega arith

pub invariant_of-self-2 : goal.invariant_of-self-2
invariant_of-self-2 c =
    let found = subst (λ (p : Pass). c.index-row.result.now ≡ get_or c.self.inside.slots.items p.cursor c.index-row.result.now) c.pass.view_is c.index-row.ensures in
    then_held (the_view c.self.inside) c.args.self.now _ (LookAt c.args.k) c.self.view_is c.self.invariant c.requires
    (λ may. look_same (the_view c.self.inside) c.args.k c.index_mut-pass.result.now c.look.new.self c.index_mut-pass.ensures.value c.index-row.result.now c.self.invariant may found c.in_ok-look.ensures.ok) refl

pub returns-clause-reply : goal.returns-clause-reply
returns-clause-reply c =
    let found = subst (λ (p : Pass). c.index-row.result.now ≡ get_or c.self.inside.slots.items p.cursor c.index-row.result.now) c.pass.view_is c.index-row.ensures in
    let shown = subst (λ (p : Pass). c.seen.result ≡ seen p.cursor c.index-row.result.now) c.pass.view_is c.seen.ensures in
    then_answers (the_view c.self.inside) c.args.self.now _ (LookAt c.args.k) c.self.view_is c.requires
    (λ may. look_answers (the_view c.self.inside) c.args.k c.index_mut-pass.result.now c.index_mut-pass.result.now c.index_mut-pass.ensures.value c.index-row.result.now c.seen.result c.self.invariant may found shown)

pub returns-clause-after : goal.returns-clause-after
returns-clause-after c =
    let found = subst (λ (p : Pass). c.index-row.result.now ≡ get_or c.self.inside.slots.items p.cursor c.index-row.result.now) c.pass.view_is c.index-row.ensures in
    then_same (the_view c.self.inside) c.args.self.now _ (LookAt c.args.k) c.self.view_is c.requires
    (λ may. look_same (the_view c.self.inside) c.args.k c.index_mut-pass.result.now c.look.new.self c.index_mut-pass.ensures.value c.index-row.result.now c.self.invariant may found c.in_ok-look.ensures.ok)
