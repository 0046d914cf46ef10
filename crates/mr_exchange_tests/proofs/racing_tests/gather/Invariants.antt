-- All but those that are left are together.
use Rattle.std.proofs.Common.{◌≡◌, ◌+◌, length, vec_len}
use Rattle.std.specs.Prelude.{All}
use Rattle.mr_store.specs.Cards.{store_of, mark_of}
use Rattle.mr_exchange_tests.specs.Private.Stores.{IsRacer}
use Rattle.mr_exchange_tests.proofs.racing_tests.gather.Given as goal

abbrev pub invariant-loop-other : goal.invariant-loop-other
invariant-loop-other l = record {
  store : store_of l.all.card ≡ l.store;
  number : (mark_of l.all.card).number ≡ 0;
  count : 1 + length (mark_of l.all.card).joined + vec_len l.racers ≡ (mark_of l.all.card).made;
  others : All (λ racer. IsRacer l.store l.passes racer.number racer.card) l.racers.items;
}

-- how many are left
abbrev pub decreases-loop-other : goal.decreases-loop-other
decreases-loop-other l = vec_len l.racers
