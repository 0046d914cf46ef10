-- One element more, and all.
use Rattle.std.proofs.Common.{◌≡◌, subst, arith}
use Rattle.mr_matroid.specs.Private.Search.{IsBestBelow}
use Rattle.mr_matroid.proofs.Failures.{untrue}
use Rattle.mr_matroid.proofs.Best.{best_kept, first_second_from_best}
use Rattle.mr_matroid.proofs.exchange.first_second.Goals as goal
use Rattle.mr_matroid.proofs.exchange.first_second.Goals.{then-has, else-has}

pub loop-x-preserved : goal.loop-x-preserved
loop-x-preserved c = elim c.if-has.branch [
  | then-has w ↦ rw w.best-is (w.earlier-best.ensures c.args.table.now c.args.b1 c.loop-x.invariant w.second_at.ensures)
  | else-has w ↦ rw w.best-is (best_kept c.args.table.now c.args.b1 c.loop-x.x c.loop-x.best c.loop-x.invariant (λ d fails. untrue c.has.result c.has.ensures w.if-has.false fails.inside))
]

pub returns : goal.returns
returns c =
    let end : c.loop-x.x ≡ c.args.table.now.elements = omega (arith, c.loop-x-test.false, c.loop-x.auto, c.elements-x-end.ensures.value) in
    first_second_from_best c.args.table.now c.args.b1 c.loop-x.best c.requires.basis (subst (λ k. IsBestBelow c.args.table.now c.args.b1 k c.loop-x.best) end c.loop-x.invariant)
