-- the next edge keeps the order
use Rattle.std.proofs.Common.{ℕ, List, ◌<◌, ◌++◌, [], ◌∷◌, length, sym, subst}
use Rattle.mr_graph.specs.declared.edge.Edge.{Edge}
use Rattle.mr_graph.specs.Private.Order.{IsNextEdge}
use Rattle.mr_graph.proofs.Ordering.{IsOrdered, ordered_more}
use Rattle.mr_graph.proofs.bipartite.Bipartite.forest_order.Goals as goal

pub loop-order-preserved : goal.loop-order-preserved
loop-order-preserved c =
    let left : List Edge = c.loop-order.left.items in
    let k : ℕ = c.next_place-k.result in
    let x : Edge = c.remove-edge.result in
    let next : IsNextEdge c.loop-order.order left k =
    subst (λ (out : List Edge). IsNextEdge out left k) c.as_slice-in-loop-order.ensures (subst (λ (xs : List Edge). IsNextEdge c.as_slice-in-loop-order.result.now xs k) c.deref.ensures.value c.next_place-k.ensures.next) in
    let within : k < length left = subst (λ (xs : List Edge). k < length xs) c.deref.ensures.value c.next_place-k.ensures.within in
    subst (λ (out : List Edge). IsOrdered c.args.self.now c.args.forest.now out c.remove-edge.new.self.items) (sym c.in_ok-push.ensures.ok)
    (subst (λ (rest : List Edge). IsOrdered c.args.self.now c.args.forest.now (c.loop-order.order ++ x ∷ []) rest) (sym c.remove-edge.ensures.items)
    (ordered_more c.args.self.now c.args.forest.now c.loop-order.order left k x c.requires c.loop-order.invariant within c.remove-edge.ensures.value next))
