-- what was looked at is what is asked of the pass
use Rattle.std.specs.Prelude.{IsTrue, ◌↔◌}
use Rattle.std.proofs.lemmas.Result.{IfOk-weaker}
use Rattle.mr_exchange.specs.contracts.state.State.{the_view}
use Rattle.mr_exchange.specs.Events.{MayPublish}
use Rattle.mr_exchange.specs.Held.{state_of}
use Rattle.mr_exchange.specs.Private.Deciding.{MayFill}
use Rattle.mr_exchange.proofs.Allowing.{publishes, published_by, there, back}
use Rattle.mr_exchange.proofs.state.State.may_publish.Goals as goal

pub returns-in-Some : goal.returns-in-Some
returns-in-Some c = IfOk-weaker c.may_fill.result _ (λ b. IsTrue b ↔ MayPublish (state_of c.args.self.now) c.args.k c.args.slot c.args.row.now)
    (λ b h. (
      (λ t. publishes c.args.self.now c.args.k c.in-Some.ensures.0 c.args.slot c.args.row.now
          (there (λ f depth rows p. MayFill f rows p c.args.slot c.args.row.now) (the_view c.self.inside) c.args.self.now c.args.frame.now c.args.k c.in-Some.pass.now c.deref.result.now c.self.view_is c.requires c.in-Some.ensures.1 c.deref.ensures.value (h.0 t))),
      λ may. h.1 (back (λ f depth rows p. MayFill f rows p c.args.slot c.args.row.now) (the_view c.self.inside) c.args.self.now c.args.frame.now c.args.k c.in-Some.pass.now c.deref.result.now c.self.view_is c.requires c.in-Some.ensures.1 c.deref.ensures.value
          (published_by c.args.self.now c.args.k c.in-Some.ensures.0 c.args.slot c.args.row.now may)),
    )) c.may_fill.ensures
