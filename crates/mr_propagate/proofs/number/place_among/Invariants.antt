-- the place lies between these two
use Rattle.std.proofs.Common.{ℕ, ◌-◌, ◌<◌, ◌≤◌, length, get_or}
use Rattle.mr_propagate.proofs.number.place_among.Given as goal

abbrev pub invariant-loop-low : goal.invariant-loop-low
invariant-loop-low l = (l.low ≤ l.high) × (l.high ≤ length l.items) × ((k : ℕ) → k < l.low → get_or l.items k 0 < l.n) × ((k : ℕ) → l.high ≤ k → k < length l.items → l.n ≤ get_or l.items k 0)

abbrev pub decreases-loop-low : goal.decreases-loop-low
decreases-loop-low l = l.high - l.low
