-- The number is the least above the ranks of the rows that the cites before name.
use Rattle.std.proofs.Common.{ℕ, ◌<◌, ◌≤◌, get_or}
use Rattle.mr_nogood.specs.Follows.{in_slots}
use Rattle.mr_nogood.specs.declared.row.Cite.TheVariants.{Nothing}
use Rattle.mr_search.specs.Private.Citing.{above_cite, IsAboveCites}
use Rattle.mr_search.proofs.deducing.rank_above.Given as goal

abbrev pub invariant-loop-cite : goal.invariant-loop-cite
invariant-loop-cite l = record {
  above : (k : ℕ) → k < l.cite-index → above_cite (in_slots l.index) (get_or l.cites k Nothing) ≤ l.rank;
  least : (m : ℕ) → IsAboveCites (in_slots l.index) l.cites m → l.rank ≤ m;
}
