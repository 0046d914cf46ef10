-- each vertex so far has a label of its own
use Rattle.std.proofs.Common.{◌≡◌, ℕ, ◌<◌, get_or, length}
use Rattle.mr_graph.proofs.labels.apart.Given as goal

abbrev pub invariant-loop-k : goal.invariant-loop-k
invariant-loop-k l = (length l.labels.items ≡ l.k) × ((k : ℕ) → k < l.k → get_or l.labels.items k 0 ≡ k)
