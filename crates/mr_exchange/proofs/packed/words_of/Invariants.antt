-- The words before this one are read.
use Rattle.std.proofs.Common.{ℕ, ◌≡◌, ◌<◌, ◌+◌, ◌*◌, get_or, length}
use Rattle.mr_nogood.specs.declared.TheConstants.{ROW_WORDS}
use Rattle.mr_exchange.proofs.packed.words_of.Given as goal

abbrev pub invariant-loop-j : goal.invariant-loop-j
invariant-loop-j l = record {
  size : length l.row ≡ ROW_WORDS;
  read : (k : ℕ) → k < l.j → get_or l.row k 0 ≡ get_or l.words (ROW_WORDS * l.slot + k) 0;
}
