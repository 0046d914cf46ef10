use Rattle.std.proofs.Common.{ℕ, ◌<◌, sym, subst, get_or, arith}
use Rattle.mr_class.proofs.InOrder.{less_at}
use Rattle.mr_auto.proofs.Stepping.{greater_at, equal_all}
use Rattle.mr_auto.proofs.image.compare.Goals as goal

pub returns-then-v-w : goal.returns-then-v-w
returns-then-v-w c =
    let a = c.words-words_of_a.ensures.assign.positions in
    let b = c.words-words_of_b.ensures.assign.positions in
    sym (less_at c.args.a.now c.args.b.now c.loop-p.p (omega arith) (omega arith) c.loop-p.invariant
    (subst (λ (x : ℕ). x < get_or c.args.b.now c.loop-p.p 0) c.get-v.ensures.value (subst (λ (y : ℕ). c.get-v.result < y) c.get-w.ensures.value c.if-v-w.true)))

pub returns-then-w-v : goal.returns-then-w-v
returns-then-w-v c =
    let a = c.words-words_of_a.ensures.assign.positions in
    let b = c.words-words_of_b.ensures.assign.positions in
    sym (greater_at c.args.a.now c.args.b.now c.loop-p.p (omega arith) (omega arith) c.loop-p.invariant
    (subst (λ (x : ℕ). x < get_or c.args.a.now c.loop-p.p 0) c.get-w.ensures.value (subst (λ (y : ℕ). c.get-w.result < y) c.get-v.ensures.value c.if-w-v.true)))

pub returns : goal.returns
returns c =
    let a = c.words-words_of_a.ensures.assign.positions in
    let b = c.words-words_of_b.ensures.assign.positions in
    sym (equal_all c.args.a.now c.args.b.now c.loop-p.p (omega arith) (omega arith) c.loop-p.invariant)
