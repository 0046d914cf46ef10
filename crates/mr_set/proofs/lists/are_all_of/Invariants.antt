-- The sets so far have that size.
use Rattle.std.proofs.Common.{ℕ, ◌<◌, List, get_or}
use Rattle.mr_set.specs.Subsets.{IsSetOf}
use Rattle.mr_set.proofs.lists.are_all_of.Given as goal

abbrev pub invariant-loop-x : goal.invariant-loop-x
invariant-loop-x l = (k : ℕ) (d : List ℕ) → k < l.x-index → IsSetOf l.n l.r (get_or l.sets k d)
