-- They are in order where none was found that does not stand before the next.
use Rattle.std.proofs.Common.{refl, sym, ◌∙◌, true≢false, arith}
use Rattle.std.proofs.lemmas.Cmp.{nat_list_cmp_total}
use Rattle.mr_set.specs.Subsets.{list_cmp}
use Rattle.mr_set.proofs.Ordered.{sorted-from_rising, rising-at}
use Rattle.mr_set.proofs.lists.is_rising.Goals as goal

pub returns : goal.returns
returns c = ((λ _. sorted-from_rising nat_list_cmp_total c.args.sets.now (λ k d lt. c.loop-i.invariant k d (omega arith))), (λ _. refl))

pub returns-then-not-is_before : goal.returns-then-not-is_before
returns-then-not-is_before c = (
  λ no_set. absurd (true≢false (sym no_set)),
  λ sorted. absurd (true≢false (sym (c.is_before.ensures.1 (rising-at list_cmp c.args.sets.now c.loop-i.i c.index-sets-i.result c.index-sets-i-in-loop-i.result sorted c.loop-i.auto.i c.loop-i-test.true c.index-sets-i.is c.index-sets-i-in-loop-i.is)) ∙ c.if-not-is_before.true)),
)
