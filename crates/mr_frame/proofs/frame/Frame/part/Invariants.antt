-- the rows before this one are copied
use Rattle.std.proofs.Common.{◌*◌}
use Rattle.mr_linear.specs.declared.elimination.TheConstants.{STRIDE}
use Rattle.mr_frame.specs.Private.Filling.{IsCopiedTo}
use Rattle.mr_frame.proofs.frame.Frame.part.Given as goal

abbrev pub invariant-loop-row : goal.invariant-loop-row
invariant-loop-row l = IsCopiedTo l.self l.a l.rows l.columns l.w (l.row * STRIDE)
