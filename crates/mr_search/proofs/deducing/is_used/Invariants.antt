-- No cite before uses the position.
use Rattle.std.proofs.Common.{ℕ, ◌<◌, get_or}
use Rattle.mr_nogood.specs.Follows.{in_slots}
use Rattle.mr_nogood.specs.declared.row.Cite.TheVariants.{Nothing}
use Rattle.mr_search.specs.Private.Citing.{Uses}
use Rattle.mr_search.proofs.deducing.is_used.Given as goal

abbrev pub invariant-loop-cite : goal.invariant-loop-cite
invariant-loop-cite l = (k : ℕ) → k < l.cite-index → ¬ (Uses l.frame (in_slots l.index) (get_or l.cites k Nothing) l.q)
