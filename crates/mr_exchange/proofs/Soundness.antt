-- A state is sound just where it balances.
use Rattle.std.proofs.Common.{◌≡◌, ℕ, zero, suc, ◌+◌, ◌<◌, ◌≤◌, min, Bool, false, not, true≢false, IsTrue, ◌==◌, List, [], length, Contains, count_by, sym, refl, ap, ◌∙◌, subst, arith, lt_of_not-le}
use native.Mathlib.Decide.{dec_le, ℕ_discrete}
use Rattle.mr_exchange.specs.State.{Pass, State, spent, pass_at, IsLive, slots_of}
use Rattle.mr_exchange.specs.Sound.{AreDealt, ArePasses, IsSound}
use Rattle.mr_exchange.proofs.Balance.{total, times, one_if, once_below, weight, PassBalance, Balances}
use Rattle.mr_exchange.proofs.Totals.{bool_cases, total_at, total_two, total_only, total_zero, total_some, times_of, of_times, once_at, once_is, once_not, once_yes}
use Rattle.mr_exchange.proofs.Lookups.{within, live_weight, length-slots_of}
use Rattle.mr_exchange.proofs.Making.{times_none, spent_balance}
use Rattle.mr_exchange.proofs.Steps.{is_live}
use Rattle.mr_exchange.proofs.Counting.{times-count, total-sum_by, count_all, total_same, total-add, total_ones, total_by_place, length-times, sum_to_same}

-- by whether a pass is live
pub by_live : {X : Type 0} (s : State) (k : ℕ) → (IsLive s k → X) → ((pass_at s k).live ≡ false → X) → X
by_live {X} s k yes_ no_ = bool_cases (pass_at s k).live (λ b. X) yes_ no_

-- a pass that isn't live is none of the live ones
not_live : (s : State) (k : ℕ) → (pass_at s k).live ≡ false → IsLive s k → ⊥
not_live s k dead live = true≢false (sym live ∙ dead)

-- what passes have, where it is counted once all together
module _ (have : Pass → List ℕ) (none : have spent ≡ []) (s : State) (n : ℕ) where
  -- it is dealt out
  pub dealt_of : ((k : ℕ) → (pass_at s k).live ≡ false → pass_at s k ≡ spent) → ((c : ℕ) → total (λ p. times c (have p)) s.passes ≡ once_below c n) → AreDealt have s n
  dealt_of gone once = record {
    below = λ k c live has. (let a = total_at (λ (p : Pass). times c (have p)) s.passes k spent (within s.passes k live) in let b = once c in let d = times_of (have (pass_at s k)) c has in once_yes c n (omega arith));
    each = λ c lt. (let a = once c in let b = once_is c n lt in let r = total_some (λ (p : Pass). times c (have p)) s.passes spent (omega arith) in
        (r.0, by_live s r.0 (λ live. live) (λ dead. absurd (let z : times c (have (pass_at s r.0)) ≡ 0 = ap (λ (p : Pass). times c (have p)) (gone r.0 dead) ∙ ap (times c) none in let m = r.2 in omega arith)), of_times (have (pass_at s r.0)) c r.2));
    one = λ j k c a b x y. same_place j k c (within s.passes j a) (within s.passes k b) (times_of (have (pass_at s j)) c x) (times_of (have (pass_at s k)) c y) (once c) (ℕ_discrete j k);
    once = λ k c live. (let a = total_at (λ (p : Pass). times c (have p)) s.passes k spent (within s.passes k live) in let b = once c in let d = once_at c n in let e = times-count c (have (pass_at s k)) in omega arith);
  }
    where
      same_place : (j k c : ℕ) → j < length s.passes → k < length s.passes → 0 < times c (have (pass_at s j)) → 0 < times c (have (pass_at s k)) → total (λ p. times c (have p)) s.passes ≡ once_below c n → Dec (j ≡ k) → j ≡ k
      same_place j k c a b x y all (yes e) = e
      same_place j k c a b x y all (no d) = absurd (let t = total_two (λ (p : Pass). times c (have p)) s.passes j k spent d a b in let o = once_at c n in omega arith)

  -- and it is counted once, where it is so dealt
  pub once_of : ((k : ℕ) → (pass_at s k).live ≡ false → pass_at s k ≡ spent) → AreDealt have s n → (c : ℕ) → total (λ p. times c (have p)) s.passes ≡ once_below c n
  once_of gone dealt c = by_size (dec_le n c)
    where
      nowhere : (k : ℕ) → (IsLive s k → Contains (have (pass_at s k)) c → ⊥) → times c (have (pass_at s k)) ≡ 0
      nowhere k h = by_live s k (λ live. times_none (have (pass_at s k)) c (h live)) (λ dead. ap (λ (p : Pass). times c (have p)) (gone k dead) ∙ ap (times c) none)

      by_size : Dec (n ≤ c) → total (λ p. times c (have p)) s.passes ≡ once_below c n
      by_size (yes le) = total_zero (λ (p : Pass). times c (have p)) s.passes spent (λ k lt. nowhere k (λ live has. let b = dealt.below k c live has in omega arith)) ∙ sym (once_not c n le)
      by_size (no d) =
          let lt = lt_of_not-le d in
          let r = dealt.each c lt in
          let only = total_only (λ (p : Pass). times c (have p)) s.passes r.0 spent (within s.passes r.0 r.1) (λ k l apart. nowhere k (λ live has. apart (dealt.one k r.0 c live r.1 has r.2))) in
          let some = times_of (have (pass_at s r.0)) c r.2 in
          let one = dealt.once r.0 c r.1 in
          let count = times-count c (have (pass_at s r.0)) in
          let is = once_is c n lt in
          omega arith

-- one number is at most once in a list where it is just once if it stands there
at_most_once : (xs : List ℕ) (c : ℕ) → (Contains xs c → times c xs ≤ 1) → count_by (λ x. x == c) xs ≤ 1
at_most_once xs c h = read (times c xs) refl
  where
    read : (m : ℕ) → times c xs ≡ m → count_by (λ x. x == c) xs ≤ 1
    read zero e = let a = times-count c xs in omega arith
    read (suc m) e = let a = times-count c xs in let b = h (of_times xs c (omega arith)) in omega arith

-- a flag is 1 at most
one_if_le : (b : Bool) → one_if b ≤ 1
one_if_le b = bool_cases b (λ x. one_if x ≤ 1) (λ e. omega arith) (λ e. omega arith)

-- what a state that balances says of its passes
passes_of : (s : State) → Balances s → ArePasses s
passes_of s h = let mine = h.each 0 in record {
  first = (mine.first refl).0;
  made = (mine.first refl).1;
  few = h.few;
  joined = h.joined;
  joined_once = λ k. at_most_once (pass_at s 0).joined k (λ m. let r = h.joined k m in let a = h.joined_once k r.0 r.1 in let b = one_if_le (not (pass_at s k).live) in omega arith);
  live = λ k low high. (
    (λ live m. (let a = h.joined_once k low high in let b = times_of (pass_at s 0).joined k m in let c = ap (λ x. one_if (not x)) live in omega arith)),
    λ out. bool_cases (pass_at s k).live (λ b. (pass_at s k).live ≡ b → IsTrue (pass_at s k).live) (λ e d. e) (λ e d. absurd (let a = h.joined_once k low high in let b = times_none (pass_at s 0).joined k out in let c = ap (λ x. one_if (not x)) e in omega arith)) refl,
  );
  numbers = λ k live. (h.each k).number live;
  others = λ k apart. (h.each k).joined apart;
  claim_ends = λ k live. (let a = (h.each k).claim_ends in let b = live_weight (pass_at s k) live in omega arith);
  ticket_ends = λ k live. (let a = (h.each k).ticket_ends in let b = live_weight (pass_at s k) live in omega arith);
  spent = λ k gone. by_live s k (λ live. absurd (gone live)) (λ dead. (h.each k).spent dead);
}

-- a state that balances is sound
pub sound_of : (s : State) → Balances s → IsSound s
sound_of s h = record {
  cubes = dealt_of (λ p. p.cubes) refl s (min s.claim s.problem.cubes) (λ k dead. (h.each k).spent dead) h.cubes;
  claim_word = (let a = total-sum_by (λ (p : Pass). p.claim_ends) s.passes in let b = h.claim in omega arith);
  tickets = dealt_of (λ p. slots_of p.tickets) refl s (min s.ticket s.problem.nodes) (λ k dead. (h.each k).spent dead) h.tickets;
  ticket_word = (let a = total-sum_by (λ (p : Pass). p.ticket_ends) s.passes in let b = h.ticket in omega arith);
  passes = passes_of s h;
  rows = record { owned = h.owned; known = λ k slot live m. (h.each k).known slot m };
  proved = h.proved;
  nodes = λ k t live m. (h.each k).nodes t m;
  rest = λ k. (h.each k).rest;
  turns = λ k live alone. (h.each k).turn alone;
}

-- a pass that isn't live, of a sound state, is spent
gone : (s : State) → IsSound s → (k : ℕ) → (pass_at s k).live ≡ false → pass_at s k ≡ spent
gone s h k dead = h.passes.spent k (not_live s k dead)

-- just the passes that are not live were joined into the first
joined_once_of : (s : State) → IsSound s → (k : ℕ) → 1 ≤ k → k < length s.passes → times k (pass_at s 0).joined ≡ one_if (not (pass_at s k).live)
joined_once_of s h k low high = by_live s k
    (λ live. times_none (pass_at s 0).joined k ((h.passes.live k low high).0 live) ∙ sym (ap (λ b. one_if (not b)) live))
    (λ dead. (let some = read dead (times k (pass_at s 0).joined) refl in let one = h.passes.joined_once k in let count = times-count k (pass_at s 0).joined in let is = ap (λ b. one_if (not b)) dead in omega arith))
  where
    read : (pass_at s k).live ≡ false → (m : ℕ) → times k (pass_at s 0).joined ≡ m → 0 < times k (pass_at s 0).joined
    read dead zero e = absurd (not_live s k dead ((h.passes.live k low high).1 (λ m. let a = times_of (pass_at s 0).joined k m in omega arith)))
    read dead (suc m) e = omega arith

-- as many are not live as were joined
count_joined : (s : State) → IsSound s → total (λ p. one_if (not p.live)) s.passes ≡ length (pass_at s 0).joined
count_joined s h =
    total_by_place (λ (p : Pass). one_if (not p.live)) s.passes spent
    ∙ sum_to_same (length s.passes) (λ k. one_if (not (pass_at s k).live)) (λ k. times k (pass_at s 0).joined) at_place
    ∙ sym (length-times (length s.passes) (pass_at s 0).joined (λ k some. (h.passes.joined k (of_times (pass_at s 0).joined k some)).1))
  where
    at_place : (k : ℕ) → k < length s.passes → one_if (not (pass_at s k).live) ≡ times k (pass_at s 0).joined
    at_place zero lt = ap (λ b. one_if (not b)) h.passes.first ∙ sym (times_none (pass_at s 0).joined 0 (λ m. let a = (h.passes.joined 0 m).0 in omega arith))
    at_place (suc k) lt = sym (joined_once_of s h (suc k) (omega arith) lt)

-- each pass that was made has its right to an end, also after it was joined
weights_of : (s : State) → IsSound s → total weight s.passes ≡ length s.passes
weights_of s h =
    let first = within s.passes 0 h.passes.first in
    let each = total_same (λ (p : Pass). weight p + one_if (not p.live)) (λ p. 1 + length p.joined) s.passes spent (λ j lt. by_live s j
    (λ live. (let a = live_weight (pass_at s j) live in let b = ap (λ x. one_if (not x)) live in omega arith))
    (λ dead. ap (λ (p : Pass). weight p + one_if (not p.live)) (gone s h j dead) ∙ sym (ap (λ (p : Pass). 1 + length p.joined) (gone s h j dead)))) in
    let left = total-add weight (λ (p : Pass). one_if (not p.live)) s.passes in
    let right = total-add (λ (p : Pass). 1) (λ p. length p.joined) s.passes in
    let ones = total_ones s.passes in
    let only = total_only (λ (p : Pass). length p.joined) s.passes 0 spent first (λ j lt apart. ap length (h.passes.others j apart)) in
    let dead = count_joined s h in
    omega arith

-- what a sound state says of a pass by itself
pass_balance_of : (s : State) → IsSound s → (k : ℕ) → PassBalance s.frame s.problem (length s.passes) s.rows k (pass_at s k)
pass_balance_of s h k = by_live s k
    (λ live. record {
      number = h.passes.numbers k;
      spent = λ d. is_live (pass_at s k) live d;
      claim_ends = (let a = h.passes.claim_ends k live in let b = live_weight (pass_at s k) live in omega arith);
      ticket_ends = (let a = h.passes.ticket_ends k live in let b = live_weight (pass_at s k) live in omega arith);
      first = λ e. (live, ap (λ j. (pass_at s j).made) e ∙ h.passes.made);
      joined = h.passes.others k;
      known = λ slot m. h.rows.known k slot live m;
      nodes = λ t m. h.nodes k t live m;
      rest = h.rest k;
      turn = h.turns k live;
    })
    (λ dead. subst (PassBalance s.frame s.problem (length s.passes) s.rows k) (sym (gone s h k dead)) (spent_balance s.frame s.problem (length s.passes) s.rows k (λ e. not_live s k dead (subst (λ j. IsLive s j) (sym e) h.passes.first))))

-- as many as were dealt
counted : (have : Pass → List ℕ) (s : State) (n : ℕ) → have spent ≡ [] → IsSound s → AreDealt have s n → total (λ p. length (have p)) s.passes ≡ n
counted have s n none h dealt = count_all have s.passes spent n (once_of have none s n (gone s h) dealt)
    (λ j c lt some. by_live s j (λ live. dealt.below j c live (of_times (have (pass_at s j)) c some)) (λ dead. absurd (let z : times c (have (pass_at s j)) ≡ 0 = ap (λ (p : Pass). times c (have p)) (gone s h j dead) ∙ ap (times c) none in omega arith)))

-- a sound state balances
pub balance_of : (s : State) → IsSound s → Balances s
balance_of s h = record {
  cubes = once_of (λ p. p.cubes) refl s (min s.claim s.problem.cubes) (gone s h) h.cubes;
  cube_count = counted (λ p. p.cubes) s (min s.claim s.problem.cubes) refl h h.cubes;
  claim = (let a = total-sum_by (λ (p : Pass). p.claim_ends) s.passes in let b = h.claim_word in omega arith);
  tickets = once_of (λ p. slots_of p.tickets) refl s (min s.ticket s.problem.nodes) (gone s h) h.tickets;
  ticket_count = total_same (λ (p : Pass). length p.tickets) (λ p. length (slots_of p.tickets)) s.passes spent (λ j lt. sym (length-slots_of (pass_at s j).tickets)) ∙ counted (λ p. slots_of p.tickets) s (min s.ticket s.problem.nodes) refl h h.tickets;
  ticket = (let a = total-sum_by (λ (p : Pass). p.ticket_ends) s.passes in let b = h.ticket_word in omega arith);
  some_made = within s.passes 0 h.passes.first;
  few = h.passes.few;
  weights = weights_of s h;
  joined = h.passes.joined;
  joined_once = joined_once_of s h;
  each = pass_balance_of s h;
  owned = h.rows.owned;
  proved = h.proved;
}
