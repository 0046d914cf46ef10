-- the parts of the pass are looked at one by one
use Rattle.std.proofs.Common.{List, ℕ, sym, ap, ◌∙◌, subst, Contains}
use Rattle.mr_nogood.specs.Follows.{in_slots}
use Rattle.mr_exchange.specs.State.{Pass}
use Rattle.mr_exchange.specs.Events.{IsNodeOf}
use Rattle.mr_exchange.specs.Private.Deciding.{AvoidsSlots}
use Rattle.mr_exchange.proofs.state.allowed.may_use.Goals as goal

pub is_node-requires-clause-cubes : goal.is_node-requires-clause-cubes
is_node-requires-clause-cubes c = λ x has. c.requires.cubes x (subst (λ (xs : List ℕ). Contains xs x) (c.deref.ensures.value ∙ ap (λ (p : Pass). p.cubes) c.pass.view_is) has)

pub returns : goal.returns
returns c =
    let cubes = c.deref.ensures.value ∙ ap (λ (p : Pass). p.cubes) c.pass.view_is in
    let known = c.deref-2.ensures.value ∙ ap (λ (p : Pass). p.known) c.pass.view_is in (
      (λ t. record {
        draws = c.may_draw.ensures.0 c.if-not-may_draw.false;
        is_node = subst (λ (xs : List ℕ). IsNodeOf c.args.frame.now c.args.depth xs c.args.node.now) cubes (c.is_node.ensures.0 c.if-not-is_node.false);
        avoids = subst (λ (xs : List ℕ). AvoidsSlots (in_slots c.args.slots.now) xs c.args.node.now) known (c.avoids.ensures.0 t);
      }),
      λ may. c.avoids.ensures.1 (subst (λ (xs : List ℕ). AvoidsSlots (in_slots c.args.slots.now) xs c.args.node.now) (sym known) may.avoids),
    )
