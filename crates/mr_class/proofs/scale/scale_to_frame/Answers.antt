-- to the identity, along the forest, and read off
use Rattle.std.proofs.Common.{ℕ, List, sym, subst}
use Rattle.mr_graph.specs.declared.edge.Edge.{Edge}
use Rattle.mr_graph.specs.Forest.{HasEdge}
use Rattle.mr_graph.specs.Order.{IsForestOrder}
use Rattle.mr_frame.specs.Frame.{IsExchange}
use Rattle.mr_class.specs.Private.Scaling.{IsScaledOn}
use Rattle.mr_class.proofs.Sequence.{basis-columns_independent, started, order-exchanges, forest-scaled, all_led, led-field, ended}
use Rattle.mr_class.proofs.scale.scale_to_frame.Goals as goal

pub reduce_to_identity-requires-clause-independent : goal.reduce_to_identity-requires-clause-independent
reduce_to_identity-requires-clause-independent c =
    basis-columns_independent c.args.frame.now c.basis.ensures.frame c.args.a.now c.requires.represents c.in_ok-work.work c.basis.result c.in_ok-work.ensures c.basis.ensures.value

pub scale_forest-requires-clause-exchanges : goal.scale_forest-requires-clause-exchanges
scale_forest-requires-clause-exchanges c =
    subst (λ (xs : List Edge). (i e : ℕ) → HasEdge xs i e → IsExchange c.args.frame.now.matroid c.args.frame.now.basis i e) (sym c.as_slice.ensures)
    (order-exchanges c.args.frame.now c.basis.ensures.frame c.args.a.now c.requires.represents c.in_ok-order.order c.in_ok-order.ensures.same)

pub scale_forest-requires-clause-order : goal.scale_forest-requires-clause-order
scale_forest-requires-clause-order c =
    subst (IsForestOrder (IsExchange c.args.frame.now.matroid c.args.frame.now.basis)) (sym c.as_slice.ensures) c.in_ok-order.ensures.order

pub scale_forest-requires-clause-scaled : goal.scale_forest-requires-clause-scaled
scale_forest-requires-clause-scaled c =
    started c.args.frame.now c.basis.ensures.frame c.args.a.now c.requires.represents c.in_ok-work.work c.reduce_to_identity.new.self c.basis.result c.in_ok-ops.ops c.in_ok-work.ensures c.basis.ensures.value c.in_ok-ops.ensures.leads c.in_ok-ops.ensures.identity

pub read_form-form-requires-clause-field : goal.read_form-form-requires-clause-field
read_form-form-requires-clause-field c =
    led-field c.args.frame.now c.basis.ensures.frame c.args.a.now c.requires.represents c.scale_forest.new.work c.scale_forest.new.ops c.requires.field
    (all_led c.args.frame.now c.basis.ensures.frame c.args.a.now c.requires.represents c.in_ok-work.work c.reduce_to_identity.new.self c.scale_forest.new.work c.in_ok-ops.ops c.scale_forest.new.ops
    c.in_ok-work.ensures c.in_ok-ops.ensures.leads c.in_ok-scale_forest.ensures.leads)

pub read_form-form-requires-clause-scaled : goal.read_form-form-requires-clause-scaled
read_form-form-requires-clause-scaled c =
    forest-scaled c.args.frame.now c.basis.ensures.frame c.args.a.now c.requires.represents c.in_ok-order.order c.scale_forest.new.work c.in_ok-order.ensures.same
    (subst (λ (xs : List Edge). IsScaledOn c.args.frame.now.matroid c.args.frame.now.basis xs c.scale_forest.new.work) c.as_slice.ensures c.in_ok-scale_forest.ensures.scaled)

pub returns-clause-form : goal.returns-clause-form
returns-clause-form c =
    (ended c.args.frame.now c.basis.ensures.frame c.args.a.now c.requires.represents c.in_ok-work.work c.reduce_to_identity.new.self c.scale_forest.new.work c.in_ok-ops.ops c.scale_forest.new.ops
    c.in_ok-order.order c.as_slice.result.now c.read_form-form.result c.in_ok-work.ensures c.in_ok-ops.ensures.leads c.in_ok-scale_forest.ensures.leads c.requires.field
    c.in_ok-order.ensures.same c.as_slice.ensures c.in_ok-scale_forest.ensures.scaled c.read_form-form.ensures).0

pub returns-clause-leads : goal.returns-clause-leads
returns-clause-leads c =
    let end =
    ended c.args.frame.now c.basis.ensures.frame c.args.a.now c.requires.represents c.in_ok-work.work c.reduce_to_identity.new.self c.scale_forest.new.work c.in_ok-ops.ops c.scale_forest.new.ops
    c.in_ok-order.order c.as_slice.result.now c.read_form-form.result c.in_ok-work.ensures c.in_ok-ops.ensures.leads c.in_ok-scale_forest.ensures.leads c.requires.field
    c.in_ok-order.ensures.same c.as_slice.ensures c.in_ok-scale_forest.ensures.scaled c.read_form-form.ensures in
    (c.scale_forest.new.work, end.1, end.2)
