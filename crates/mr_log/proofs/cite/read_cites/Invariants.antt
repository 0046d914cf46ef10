-- The cites so far.
use Rattle.mr_file.specs.Reading.{listing}
use Rattle.mr_log.proofs.CiteLists.{FirstCites}
use Rattle.mr_log.proofs.cite.read_cites.Given as goal

abbrev pub invariant-loop-k : goal.invariant-loop-k
invariant-loop-k l = FirstCites (listing l.listed) l.k l.cites l.fn.words l.words
