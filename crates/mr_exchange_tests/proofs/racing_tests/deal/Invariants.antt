-- So many passes were made, and all but the first are dealt.
use Rattle.std.proofs.Common.{◌≡◌, ◌≤◌, ◌+◌, vec_len, vec_capacity}
use Rattle.std.specs.Prelude.{All}
use Rattle.mr_exchange_tests.specs.Private.Stores.{IsFirst, IsReady}
use Rattle.mr_exchange_tests.proofs.racing_tests.deal.Given as goal

abbrev pub invariant-loop-number : goal.invariant-loop-number
invariant-loop-number l = record {
  count : vec_len l.racers + 1 ≡ l.number;
  room : l.passes ≤ vec_capacity l.racers;
  first : IsFirst l.store l.number l.first;
  racers : All (λ racer. IsReady l.store l.passes racer.number racer.card) l.racers.items;
}
