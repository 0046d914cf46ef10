-- What a sound state says of one live pass by itself.
use Rattle.std.proofs.Common.{◌≡◌, ℕ, zero, suc, ◌+◌, ◌<◌, ◌≤◌, ◌↔◌, min, true, true≢false, IsSome, is_some, ◌==◌, List, [], ◌∷◌, length, length-append, get_or, Option, Some, None, Contains, count_by, sym, refl, ap, ◌∙◌, subst, arith}
use native.Mathlib.Decide.{ℕ_discrete}
use Rattle.std.proofs.lemmas.List.Sums.{count_by-le-length}
use Rattle.mr_set.specs.Elements.{numbers_below}
use Rattle.mr_set.proofs.Ordered.{member_none}
use Rattle.mr_nogood.specs.declared.row.Row.{Row}
use Rattle.mr_nogood.specs.Follows.{Rows}
use Rattle.mr_exchange.specs.State.{Pass, State, spent, pass_at, IsLive, slots_of, row_count}
use Rattle.mr_exchange.specs.Sound.{ArePasses}
use Rattle.mr_exchange.specs.Facts.{IsWhole}
use Rattle.mr_exchange.specs.Laws.{PassesHaveFacts, WordsAreSmall}
use Rattle.mr_exchange.proofs.Balance.{total, times, once_below, weight, Balances}
use Rattle.mr_exchange.proofs.Totals.{total_at, total_two, total_alone, times_of, of_times, once_at, once_is, once_yes}
use Rattle.mr_exchange.proofs.Lookups.{within, live_weight, length-slots_of}
use Rattle.mr_exchange.proofs.Counting.{times-count}
use Rattle.mr_exchange.proofs.Steps.{drawn, few_tickets}
use Rattle.mr_exchange.proofs.Soundness.{by_live, balance_of}
use Rattle.mr_exchange.proofs.Runs.{rows_of_sound_states_exclude}

-- a slot that has a row has just this one
row_of : {X : Type 0} (rows : Rows) (slot : ℕ) → IsSome (rows slot) → ((row : Row) → rows slot ≡ Some row → X) → X
row_of {X} rows slot some use_ = read (rows slot) refl some
  where
    read : (o : Option Row) → rows slot ≡ o → IsSome o → X
    read None e h = absurd (let apart : is_some {T = Row} None ≡ true = h in true≢false (sym apart))
    read (Some row) e h = use_ row e

-- there are n numbers below n
pub length-numbers_below : (n : ℕ) → length (numbers_below n) ≡ n
length-numbers_below zero = refl
length-numbers_below (suc n) = omega (arith, length-append (numbers_below n) (n ∷ []), length-numbers_below n)

-- there are no more rows than slots
row_count-le : (n : ℕ) (rows : Rows) → row_count n rows ≤ n
row_count-le n rows = let a = count_by-le-length (λ slot. is_some (rows slot)) (numbers_below n) in let b = length-numbers_below n in omega arith

-- a number that stands in what a pass has is below the count, and no other pass has it
module _ (have : Pass → List ℕ) (s : State) (n : ℕ) (once : (c : ℕ) → total (λ p. times c (have p)) s.passes ≡ once_below c n) where
  -- it is below n
  has_below : (k c : ℕ) → IsLive s k → Contains (have (pass_at s k)) c → c < n
  has_below k c live has = let a = total_at (λ (p : Pass). times c (have p)) s.passes k spent (within s.passes k live) in let b = once c in let d = times_of (have (pass_at s k)) c has in once_yes c n (omega arith)

  -- the pass has it once
  has_once : (k c : ℕ) → IsLive s k → count_by (λ x. x == c) (have (pass_at s k)) ≤ 1
  has_once k c live = let a = total_at (λ (p : Pass). times c (have p)) s.passes k spent (within s.passes k live) in let b = once c in let d = once_at c n in let e = times-count c (have (pass_at s k)) in omega arith

  -- and it is one pass
  one_has : (j k c : ℕ) → IsLive s j → IsLive s k → Contains (have (pass_at s j)) c → Contains (have (pass_at s k)) c → j ≡ k
  one_has j k c a b x y = same_place (ℕ_discrete j k)
    where
      same_place : Dec (j ≡ k) → j ≡ k
      same_place (yes e) = e
      same_place (no d) = absurd (let t = total_two (λ (p : Pass). times c (have p)) s.passes j k spent d (within s.passes j a) (within s.passes k b) in let o = once_at c n in let u = times_of (have (pass_at s j)) c x in let v = times_of (have (pass_at s k)) c y in let w = once c in omega arith)

-- the owner of a slot
owner_of : (s : State) (h : Balances s) (k slot : ℕ) → IsLive s k → Contains (slots_of (pass_at s k).tickets) slot → (row : Row) → s.rows slot ≡ Some row → Contains (pass_at s k).known slot
owner_of s h k slot live has row at =
    let o = h.owned slot row at in
    subst (λ j. Contains (pass_at s j).known slot) (one_has (λ p. slots_of p.tickets) s (min s.ticket s.problem.nodes) h.tickets o.owner k slot o.live live o.has has) o.knows

-- where every right to an end is the first pass's, it has the whole
module _ (s : State) (h : Balances s) (all : 1 + length (pass_at s 0).joined ≡ length s.passes) where
  -- it is live
  first_live : IsLive s 0
  first_live = ((h.each 0).first refl).0

  -- it was made
  first_within : 0 < length s.passes
  first_within = h.some_made

  -- its right is all of it
  only_first : total weight s.passes ≡ weight (pass_at s 0)
  only_first = let a = live_weight (pass_at s 0) first_live in let b = h.weights in omega arith

  -- what spent passes don't have, only the first has
  alone : (f : Pass → ℕ) → f spent ≡ 0 → total f s.passes ≡ f (pass_at s 0)
  alone f none = total_alone f weight s.passes 0 spent first_within only_first
      (λ j lt idle. by_live s j (λ live. absurd (let a = live_weight (pass_at s j) live in omega arith)) (λ dead. ap f ((h.each j).spent dead) ∙ none))

  -- no other pass is live
  only_live : (j : ℕ) → IsLive s j → j ≡ 0
  only_live j live = first_place (ℕ_discrete j 0)
    where
      first_place : Dec (j ≡ 0) → j ≡ 0
      first_place (yes e) = e
      first_place (no d) = absurd (let a = live_weight (pass_at s j) live in let b = total_two weight s.passes j 0 spent d (within s.passes j live) first_within in let c = only_first in omega arith)

  -- numbers that are counted once, all in the first
  numbers_of : (have : Pass → List ℕ) (n : ℕ) → have spent ≡ [] → ((c : ℕ) → total (λ p. times c (have p)) s.passes ≡ once_below c n) → length (have (pass_at s 0)) ≡ n → (c : ℕ) → Contains (have (pass_at s 0)) c ↔ (c < length (have (pass_at s 0)))
  numbers_of have n none once count c =
      let a = alone (λ p. times c (have p)) (ap (times c) none) in
      let b = once c in (
        (λ has. (let d = has_below have s n once 0 c first_live has in omega arith)),
        λ lt. of_times (have (pass_at s 0)) c (let d = once_is c n (omega arith) in omega arith),
      )

  -- it has the whole
  whole_of : IsWhole s (pass_at s 0)
  whole_of =
      let p = pass_at s 0 in
      let cubes : length p.cubes ≡ min s.claim s.problem.cubes = sym (alone (λ q. length q.cubes) refl) ∙ h.cube_count in
      let tickets : length p.tickets ≡ min s.ticket s.problem.nodes = sym (alone (λ q. length q.tickets) refl) ∙ h.ticket_count in
      let slots : length (slots_of p.tickets) ≡ length p.tickets = length-slots_of p.tickets in record {
        cubes = numbers_of (λ q. q.cubes) (min s.claim s.problem.cubes) refl h.cubes cubes;
        claimed = cubes;
        claim_end = λ some. (let a = total_at (λ (q : Pass). q.claim_ends) s.passes 0 spent first_within in let b = h.claim in omega arith);
        tickets = λ t. subst (λ n. Contains (slots_of p.tickets) t ↔ (t < n)) slots (numbers_of (λ q. slots_of q.tickets) (min s.ticket s.problem.nodes) refl h.tickets (slots ∙ tickets) t);
        opened = tickets;
        ticket_end = λ some. (let a = total_at (λ (q : Pass). q.ticket_ends) s.passes 0 spent first_within in let b = h.ticket in omega arith);
        rows = λ slot. ((λ some. row_of s.rows slot some (λ row at. (let o = h.owned slot row at in subst (λ j. Contains (pass_at s j).known slot) (only_live o.owner o.live) o.knows))), (h.each 0).known slot);
      }

-- no pass is told more often that nothing is left than it has a right to
ends_within : (f : Pass → ℕ) (xs : List Pass) → ((j : ℕ) → j < length xs → f (get_or xs j spent) ≤ weight (get_or xs j spent)) → total f xs ≤ total weight xs
ends_within f [] h = omega arith
ends_within f (x ∷ xs) h = let a = h 0 (omega arith) in let b = ends_within f xs (λ j lt. h (suc j) (omega arith)) in omega arith

-- so neither word is far above what it counts
pub words_are_small : WordsAreSmall
words_are_small s sound =
    let h = balance_of s sound in
    let claims = ends_within (λ p. p.claim_ends) s.passes (λ j lt. (h.each j).claim_ends) in
    let tickets = ends_within (λ p. p.ticket_ends) s.passes (λ j lt. (h.each j).ticket_ends) in
    let all = h.weights in
    let few = h.few in
    let claim = h.claim in
    let ticket = h.ticket in
    (omega arith, omega arith)

-- what was joined into a pass is no first pass, and was made
joined_of : (s : State) (k : ℕ) → ArePasses s → (j : ℕ) → Contains (pass_at s k).joined j → (1 ≤ j) × (j < (pass_at s k).made)
joined_of s k passes j has = by_place (ℕ_discrete k 0)
  where
    by_place : Dec (k ≡ 0) → (1 ≤ j) × (j < (pass_at s k).made)
    by_place (yes e) =
        let of_first = passes.joined j (subst (λ n. Contains (pass_at s n).joined j) e has) in
        let made : (pass_at s k).made ≡ length s.passes = ap (λ n. (pass_at s n).made) e ∙ passes.made in
        (of_first.0, (let lt = of_first.1 in omega (arith, lt, made)))
    by_place (no d) = absurd (member_none j (subst (λ xs. Contains xs j) (passes.others k d) has))

-- and none twice
joined_once_of : (s : State) (k : ℕ) → ArePasses s → (j : ℕ) → count_by (λ x. x == j) (pass_at s k).joined ≤ 1
joined_once_of s k passes j = by_place (ℕ_discrete k 0)
  where
    by_place : Dec (k ≡ 0) → count_by (λ x. x == j) (pass_at s k).joined ≤ 1
    by_place (yes e) = subst (λ n. count_by (λ x. x == j) (pass_at s n).joined ≤ 1) (sym e) (passes.joined_once j)
    by_place (no d) = subst (λ xs. count_by (λ x. x == j) xs ≤ 1) (sym (passes.others k d)) (omega arith)

-- what a sound state says of a live pass
pub passes_have_facts : PassesHaveFacts
passes_have_facts s k frame sound live =
    let h = balance_of s sound in
    let p = pass_at s k in
    let mine = h.each k in
    let lt = within s.passes k live in record {
      cubes = λ c has. has_below (λ q. q.cubes) s (min s.claim s.problem.cubes) h.cubes k c live has;
      cubes_once = λ c. has_once (λ q. q.cubes) s (min s.claim s.problem.cubes) h.cubes k c live;
      few_cubes = (let a = total_at (λ (q : Pass). length q.cubes) s.passes k spent lt in let b = h.cube_count in omega arith);
      tickets = λ t has. drawn s k t h live has;
      tickets_once = λ t. has_once (λ q. slots_of q.tickets) s (min s.ticket s.problem.nodes) h.tickets k t live;
      few_tickets = (let a = few_tickets s k h live in omega arith);
      looks = mine.rest;
      turn = mine.turn;
      nodes = mine.nodes;
      known = λ slot knows. row_of s.rows slot (mine.known slot knows) (λ row at. record { row = row; at = at; excludes = rows_of_sound_states_exclude s slot row frame sound at; rank = (let a = h.proved.low slot row at in let b = row_count-le s.problem.nodes s.rows in omega arith) });
      drawn = λ slot knows. row_of s.rows slot (mine.known slot knows) (λ row at. (let o = h.owned slot row at in drawn s o.owner slot h o.live o.has));
      own = λ slot has. ((λ some. row_of s.rows slot some (owner_of s h k slot live has)), mine.known slot);
      joined = joined_of s k sound.passes;
      joined_once = joined_once_of s k sound.passes;
      claim_ends = sound.passes.claim_ends k live;
      ticket_ends = sound.passes.ticket_ends k live;
      whole = λ first all. (
          let place : k ≡ 0 = sym (mine.number live) ∙ first in
          let made : p.made ≡ length s.passes = (mine.first place).1 in
          subst (λ j. IsWhole s (pass_at s j)) (sym place) (whole_of s h (ap (λ j. 1 + length (pass_at s j).joined) (sym place) ∙ all ∙ made)));
    }
