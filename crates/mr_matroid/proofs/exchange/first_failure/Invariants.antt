-- No exchange from a basis so far fails.
use Rattle.std.proofs.Common.{◌<◌, ℕ, List, get_or}
use Rattle.mr_matroid.specs.Private.Search.{NoneFrom}
use Rattle.mr_matroid.proofs.exchange.first_failure.Given as goal

abbrev pub invariant-loop-b1 : goal.invariant-loop-b1
invariant-loop-b1 l = (k : ℕ) (d : List ℕ) → k < l.b1-index → NoneFrom l.table (get_or l.bases k d)
