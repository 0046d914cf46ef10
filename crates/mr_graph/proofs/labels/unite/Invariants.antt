-- the labels so far are changed, the others still as they were
use Rattle.std.proofs.Common.{◌≡◌, ℕ, ◌<◌, ◌≤◌, get_or}
use Rattle.mr_graph.specs.Private.Labels.{relabelled}
use Rattle.mr_graph.proofs.labels.unite.Given as goal

abbrev pub invariant-loop-label : goal.invariant-loop-label
invariant-loop-label l = record {
  done : (k : ℕ) → k < l.label-index → get_or l.labels k 0 ≡ relabelled l.was l.now (get_or l.fn.labels k 0);
  left : (k : ℕ) → l.label-index ≤ k → get_or l.labels k 0 ≡ get_or l.fn.labels k 0;
}
