-- The cites before number k were written.
use Rattle.std.proofs.Common.{map, take}
use Rattle.mr_log.specs.Lines.{cite_text}
use Rattle.mr_log.proofs.Pieces.{Joined}
use Rattle.mr_log.proofs.write.write_cites.Given as goal

abbrev pub invariant-loop-k : goal.invariant-loop-k
invariant-loop-k l = Joined l.first (map cite_text (take l.k l.cites)) l.fn.out l.out
