-- the entries before this one are copied
use Rattle.std.proofs.Common.{◌+◌, ◌*◌}
use Rattle.mr_linear.specs.declared.elimination.TheConstants.{STRIDE}
use Rattle.mr_frame.specs.Private.Filling.{IsCopiedTo}
use Rattle.mr_frame.proofs.frame.Frame.copy_row.Given as goal

abbrev pub invariant-loop-e : goal.invariant-loop-e
invariant-loop-e l = IsCopiedTo l.self l.a l.fn.rows l.fn.columns l.w (l.row * STRIDE + l.e)
