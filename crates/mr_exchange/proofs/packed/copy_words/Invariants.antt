-- The words before this one are written, and those outside of the slot are as they were.
use Rattle.std.proofs.Common.{ℕ, ◌≡◌, ◌<◌, ◌≤◌, ◌+◌, ◌*◌, ◌⊎◌, get_or, length}
use Rattle.mr_nogood.specs.declared.TheConstants.{ROW_WORDS}
use Rattle.mr_exchange.proofs.packed.copy_words.Given as goal

abbrev pub invariant-loop-j : goal.invariant-loop-j
invariant-loop-j l = record {
  size : length l.words.items ≡ length l.initial.words.items;
  here : (k : ℕ) → k < l.j → get_or l.words.items (ROW_WORDS * l.slot + k) 0 ≡ get_or l.row k 0;
  others : (i : ℕ) → (i < ROW_WORDS * l.slot) ⊎ (ROW_WORDS * l.slot + ROW_WORDS ≤ i) → get_or l.words.items i 0 ≡ get_or l.initial.words.items i 0;
}
