-- the positions before this one have values just where they are below p
use Rattle.std.proofs.Common.{ℕ, ◌≢◌, ◌<◌, ◌↔◌, get_or}
use Rattle.mr_search_tests.proofs.index_tests.is_filled_below.Given as goal

abbrev pub invariant-loop-q : goal.invariant-loop-q
invariant-loop-q l = (r : ℕ) → r < l.q → get_or l.a r 0 ≢ 0 ↔ r < l.p
