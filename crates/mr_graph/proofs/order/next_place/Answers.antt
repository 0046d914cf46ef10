-- the first edge with exactly one end touched, or there is none
use Rattle.std.proofs.Common.{◌≡◌, inr, sym, ◌∙◌, true, false, arith}
use Rattle.mr_graph.proofs.Ordering.{no_next, next_at, no_leaf_more}
use Rattle.mr_graph.proofs.order.next_place.Goals as goal

pub returns-then-is_leaf-clause-next : goal.returns-then-is_leaf-clause-next
returns-then-is_leaf-clause-next c =
    next_at c.args.taken.now c.args.left.now c.loop-k.k (record { row = 0; col = 0 }) c.loop-k-test.true (c.is_leaf.ensures.0 c.if-is_leaf.true)

pub loop-k-preserved : goal.loop-k-preserved
loop-k-preserved c =
    no_leaf_more c.args.taken.now c.args.left.now c.loop-k.k (record { row = 0; col = 0 }) c.loop-k-test.true c.loop-k.invariant
    (λ l. let both : true ≡ false = sym (c.is_leaf.ensures.1 l) ∙ c.if-is_leaf.false in absurd cc)

pub returns-clause-next : goal.returns-clause-next
returns-clause-next c = inr (no_next c.args.taken.now c.args.left.now (λ k d lt. c.loop-k.invariant k d (omega arith)))
