use Rattle.std.proofs.Common.{ℕ, ◌≤◌, ◌+◌, ◌++◌, List, sym, ap, subst, ◌∙◌, arith}
use Rattle.mr_field.specs.Gf.{Gf, order}
use Rattle.mr_auto.specs.Private.Trial.{AreAll}
use Rattle.mr_auto.proofs.Trying.{AreAllBelow, below_one, below_more, below_all}
use Rattle.mr_auto.proofs.tests.+forms_from.Goals as goal

pub loop-v-init : goal.loop-v-init
loop-v-init t c =
    let free = c.free.ensures.value in
    subst (AreAllBelow c.args.frame.now c.args.a.now c.args.p 1) (sym c.new-forms.ensures) (below_one c.args.frame.now c.basis-basis.ensures.frame c.args.p c.args.a.now c.requires.start (omega arith))

pub loop-v-preserved : goal.loop-v-preserved
loop-v-preserved t c =
    let free = c.free.ensures.value in
    subst (AreAllBelow c.args.frame.now c.args.a.now c.args.p (c.loop-v.v + 1)) (sym (c.in_ok-append.ensures ∙ ap (λ (ys : List (List ℕ)). c.loop-v.forms ++ ys) c.as_slice.ensures))
    (below_more c.args.frame.now c.basis-basis.ensures.frame c.args.p c.args.a.now c.requires.start (omega arith) c.loop-v.v c.loop-v.forms c.in_ok-more.more c.loop-v.auto.v c.loop-v.invariant
    (subst (λ (b : List ℕ). AreAll c.args.frame.now b c.in_ok-more.more) c.with.ensures c.in_ok-more.ensures))

pub returns : goal.returns
returns t c =
    let free = c.free.ensures.value in
    let many : order c.args.frame.now.field ≤ c.loop-v.v =
    subst (λ (f : Gf). order f ≤ c.loop-v.v) c.field.ensures (subst (λ (n : ℕ). n ≤ c.loop-v.v) c.order-v-end.ensures.value c.loop-v-test.false) in
    below_all c.args.frame.now c.basis-basis.ensures.frame c.args.p c.args.a.now c.requires.start (omega arith) c.loop-v.v c.loop-v.forms many c.loop-v.invariant
