-- row by row
use Rattle.std.proofs.Common.{List, ℕ, ◌≡◌, ◌+◌, ◌∙◌, length, sym, subst, arith}
use Rattle.mr_matroid.proofs.Failures.{untrue}
use Rattle.mr_frame.proofs.Keeping.{AreRowsBelow, rows_same, rows_more}
use Rattle.mr_frame.proofs.part_list.rows_of.Goals.{then-not-has, else-not-has}
use Rattle.mr_frame.proofs.part_list.rows_of.Goals as goal

pub loop-row-preserved : goal.loop-row-preserved
loop-row-preserved c =
    let b : List ℕ = c.args.members.now in
    elim c.if-not-has.branch [
      | then-not-has w ↦ rows_more b c.args.x c.loop-row.rows c.if-not-has.rows c.loop-row.row c.loop-row.invariant
          (λ inside. untrue c.has.result c.has.ensures w.if-not-has.true inside) (w.rows-is ∙ w.with-rows.ensures)
      | else-not-has w ↦ subst (λ (ys : List ℕ). AreRowsBelow b c.args.x ys (c.loop-row.row + 1)) (sym w.rows-is)
          (rows_same b c.args.x c.loop-row.rows c.loop-row.row c.loop-row.invariant (c.has.ensures.0 w.if-not-has.false))
    ]

pub returns : goal.returns
returns c =
    let end : c.loop-row.row ≡ length c.args.members.now = omega arith in
    subst (AreRowsBelow c.args.members.now c.args.x c.loop-row.rows) end c.loop-row.invariant
