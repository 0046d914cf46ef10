-- what was looked at is what is asked of the pass
use Rattle.mr_exchange.specs.contracts.state.State.{the_view}
use Rattle.mr_exchange.specs.Private.Deciding.{MayUse}
use Rattle.mr_exchange.proofs.Allowing.{opens, opened_by, there, back, cubes_within}
use Rattle.mr_exchange.proofs.state.State.may_open.Goals as goal

pub may_use-requires-clause-cubes : goal.may_use-requires-clause-cubes
may_use-requires-clause-cubes c = cubes_within (the_view c.self.inside) c.args.self.now c.args.frame.now c.args.k c.in-Some.pass.now c.self.view_is c.requires c.in-Some.ensures.1 c.self.invariant c.in-Some.ensures.0

pub returns-in-Some : goal.returns-in-Some
returns-in-Some c = (
  (λ t. opens c.args.self.now c.args.k c.in-Some.ensures.0 c.args.node.now
      (there (λ f depth rows p. MayUse f depth rows p c.args.node.now) (the_view c.self.inside) c.args.self.now c.args.frame.now c.args.k c.in-Some.pass.now c.deref.result.now c.self.view_is c.requires c.in-Some.ensures.1 c.deref.ensures.value (c.may_use.ensures.0 t))),
  λ may. c.may_use.ensures.1 (back (λ f depth rows p. MayUse f depth rows p c.args.node.now) (the_view c.self.inside) c.args.self.now c.args.frame.now c.args.k c.in-Some.pass.now c.deref.result.now c.self.view_is c.requires c.in-Some.ensures.1 c.deref.ensures.value
      (opened_by c.args.self.now c.args.k c.in-Some.ensures.0 c.args.node.now may)),
)
