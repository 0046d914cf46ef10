-- the entries at the edges before this one are 1
use Rattle.std.proofs.Common.{take}
use Rattle.mr_linear.specs.Private.Reduction.{Continues}
use Rattle.mr_class.specs.Private.Scaling.{IsScaledOn}
use Rattle.mr_class.proofs.scale.scale_forest.Given as goal

abbrev pub invariant-loop-k : goal.invariant-loop-k
invariant-loop-k l = record {
  leads : Continues l.initial.work l.initial.ops l.work l.ops;
  scaled : IsScaledOn l.frame.matroid l.frame.basis (take l.k l.edges) l.work;
}
