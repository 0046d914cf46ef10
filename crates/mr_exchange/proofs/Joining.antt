-- A state in which a pass is joined into the first balances.
use Rattle.std.proofs.Common.{◌≡◌, ◌≢◌, ℕ, ◌+◌, ◌<◌, ◌≤◌, not, IsTrue, nat_eq, List, [], ◌∷◌, ◌++◌, length, length-append, length-set, get_or, set, Contains, sym, refl, ap, ◌∙◌, ⊎_elim, subst, arith}
use native.Mathlib.Decide.{ℕ_discrete}
use Rattle.std.proofs.lemmas.List.{get_or-set_same, get_or-set_other}
use Rattle.std.proofs.lemmas.List.Elements.{Contains-append_left, Contains-append_right, Contains-append_cases, Contains-push_cases}
use Rattle.mr_exchange.specs.declared.event.Event.TheVariants.{Join}
use Rattle.mr_exchange.specs.State.{Pass, State, spent, pass_at, slots_of}
use Rattle.mr_exchange.specs.Events.{MayJoin, state_after, joins}
use Rattle.mr_exchange.specs.Sound.{IsOwned}
use Rattle.mr_exchange.proofs.Balance.{total, times, one_if, weight, PassBalance, Balances}
use Rattle.mr_exchange.proofs.Totals.{total_set, times-append, times_push, eq_cases}
use Rattle.mr_exchange.proofs.Lookups.{within, each_set, slots_of-append, live_weight}
use Rattle.mr_exchange.proofs.Alters.{HasSlot, owned_by, owner_has, renumbered}
use Rattle.mr_exchange.proofs.Steps.{is_live, node_more}
use Rattle.mr_exchange.proofs.Making.{spent_balance}

-- the passes after the pass k was joined into the first, which is w then
abbrev joined_list : List Pass → ℕ → Pass → List Pass
joined_list xs k w = set (set xs 0 w) k spent

-- sums over all passes stay
join_total : (f : Pass → ℕ) (xs : List Pass) (k : ℕ) (w : Pass) → k ≢ 0 → k < length xs → f w ≡ f (get_or xs 0 spent) + f (get_or xs k spent) → f spent ≡ 0 → total f (joined_list xs k w) ≡ total f xs
join_total f xs k w apart lt e z =
    let some : 0 < length xs = omega arith in
    let long : k < length (set xs 0 w) = omega (arith, length-set xs 0 w) in
    let same : f (get_or (set xs 0 w) k spent) ≡ f (get_or xs k spent) = ap f (get_or-set_other xs 0 k w spent apart) in
    omega (arith, total_set f xs 0 w spent some, total_set f (set xs 0 w) k spent spent long)

-- the first pass
join_first : (xs : List Pass) (k : ℕ) (w : Pass) → k ≢ 0 → k < length xs → get_or (joined_list xs k w) 0 spent ≡ w
join_first xs k w apart lt = get_or-set_other (set xs 0 w) k 0 spent spent (λ e. apart (sym e)) ∙ get_or-set_same xs 0 w spent (omega arith)

-- what holds of the first, of the one that was joined, and of all others
join_each : (F : ℕ → Pass → Type 0) (xs : List Pass) (k : ℕ) (w : Pass) → k < length xs → F 0 w → F k spent → ((j : ℕ) → j ≢ 0 → j ≢ k → F j (get_or xs j spent)) → (j : ℕ) → F j (get_or (joined_list xs k w) j spent)
join_each F xs k w lt first last others = each_set F (set xs 0 w) k spent spent (omega (arith, length-set xs 0 w)) last
    (λ j n. each_set (λ i p. i ≢ k → F i p) xs 0 w spent (omega arith) (λ d. first) (λ i m d. others i m d) j n)

-- a slot of the pass that is joined is one of the first then, and so is a slot that the first had
joins_first : (slot : ℕ) (p q : Pass) → HasSlot slot p → HasSlot slot (joins p q)
joins_first slot p q h = record { live = h.live; has = subst (λ l. Contains l slot) (sym (slots_of-append p.tickets q.tickets)) (Contains-append_left (slots_of p.tickets) (slots_of q.tickets) slot h.has); knows = Contains-append_left p.known q.known slot h.knows }

-- and so is a slot of the pass that is joined
joins_second : (slot : ℕ) (p q : Pass) → IsTrue p.live → HasSlot slot q → HasSlot slot (joins p q)
joins_second slot p q live h = record { live = live; has = subst (λ l. Contains l slot) (sym (slots_of-append p.tickets q.tickets)) (Contains-append_right (slots_of p.tickets) (slots_of q.tickets) slot h.has); knows = Contains-append_right p.known q.known slot h.knows }

-- each slot still has an owner
join_owned : (s t : State) (k slot : ℕ) → k ≢ 0 → k < length s.passes → IsTrue (pass_at s 0).live → t.passes ≡ joined_list s.passes k (joins (pass_at s 0) (pass_at s k)) → IsOwned s slot → IsOwned t slot
join_owned s t k slot apart lt live is o = by_owner (ℕ_discrete o.owner k)
  where
    here : (j : ℕ) → HasSlot slot (get_or (joined_list s.passes k (joins (pass_at s 0) (pass_at s k))) j spent) → IsOwned t slot
    here j h = owned_by t slot j (subst (λ l. HasSlot slot (get_or l j spent)) (sym is) h)

    by_owner : Dec (o.owner ≡ k) → IsOwned t slot
    by_owner (yes e) = here 0 (subst (HasSlot slot) (sym (join_first s.passes k (joins (pass_at s 0) (pass_at s k)) apart lt))
        (joins_second slot (pass_at s 0) (pass_at s k) live (subst (λ j. HasSlot slot (pass_at s j)) e (owner_has s slot o))))
    by_owner (no n) = here o.owner (join_each (λ j p. j ≢ k → HasSlot slot (pass_at s j) → HasSlot slot p) s.passes k (joins (pass_at s 0) (pass_at s k)) lt
        (λ d h. joins_first slot (pass_at s 0) (pass_at s k) h) (λ d h. absurd (d refl)) (λ j a b d h. h) o.owner n (owner_has s slot o))

-- the first pass balances with what it gained
joins_balance : (s : State) (k : ℕ) → Balances s → MayJoin s k → PassBalance s.frame s.problem (length s.passes) s.rows 0 (joins (pass_at s 0) (pass_at s k))
joins_balance s k h may =
    let p = pass_at s 0 in
    let q = pass_at s k in
    let mine = h.each 0 in
    let theirs = h.each k in
    let live = (mine.first refl).0 in
    let weighs : weight (joins p q) ≡ weight p + 1 = (let a = live_weight p live in let b = live_weight (joins p q) live in let c = length-append p.joined (q.number ∷ []) in omega arith) in
    let one : weight q ≡ 1 = (let a = live_weight q may.live in let b = ap length (theirs.joined may.other) in omega arith) in record {
      number = mine.number;
      spent = λ d. is_live p live d;
      claim_ends = (let a = mine.claim_ends in let b = theirs.claim_ends in omega arith);
      ticket_ends = (let a = mine.ticket_ends in let b = theirs.ticket_ends in omega arith);
      first = mine.first;
      joined = λ n. absurd (n refl);
      known = λ slot m. ⊎_elim (λ (x : Contains p.known slot). mine.known slot x) (λ (x : Contains q.known slot). theirs.known slot x) (Contains-append_cases p.known q.known slot m);
      nodes = λ t m. ⊎_elim
          (λ (x : Contains p.tickets t). node_more s.frame s.problem.depth p.cubes (p.cubes ++ q.cubes) t.node (λ c y. Contains-append_left p.cubes q.cubes c y) (mine.nodes t x))
          (λ (x : Contains q.tickets t). node_more s.frame s.problem.depth q.cubes (p.cubes ++ q.cubes) t.node (λ c y. Contains-append_right p.cubes q.cubes c y) (theirs.nodes t x))
          (Contains-append_cases p.tickets q.tickets t m);
      rest = mine.rest;
      turn = λ none. absurd (let n = ap length none in let c = length-append p.joined (q.number ∷ []) in omega arith);
    }

-- just the passes that are not live were joined
join_once : (s : State) (k j : ℕ) → Balances s → MayJoin s k → 1 ≤ j → j < length s.passes → times j (joins (pass_at s 0) (pass_at s k)).joined ≡ one_if (not (get_or (joined_list s.passes k (joins (pass_at s 0) (pass_at s k))) j spent).live)
join_once s k j h may low high =
    let p = pass_at s 0 in
    let q = pass_at s k in
    let lt = within s.passes k may.live in
    let number : q.number ≡ k = (h.each k).number may.live in
    let before = h.joined_once j low high in
    let more = times_push j p.joined q.number in
    join_each (λ i (u : Pass). i ≡ j → times j (p.joined ++ q.number ∷ []) ≡ one_if (not u.live)) s.passes k (joins p q) lt
    (λ e. absurd (omega arith))
    (λ e. (let gone : one_if (not (pass_at s j).live) ≡ 0 = ap (λ i. one_if (not (pass_at s i).live)) (sym e) ∙ ap (λ b. one_if (not b)) may.live in
    let new : one_if (nat_eq q.number j) ≡ 1 = eq_cases q.number j (λ b. one_if b ≡ 1) (λ d. refl) (λ d. absurd (d (number ∙ e))) in omega arith))
    (λ i a b e. (let none : one_if (nat_eq q.number j) ≡ 0 = eq_cases q.number j (λ c. one_if c ≡ 0) (λ d. absurd (b (e ∙ sym d ∙ number))) (λ d. refl) in
    let same : one_if (not (pass_at s j).live) ≡ one_if (not (pass_at s i).live) = ap (λ x. one_if (not (pass_at s x).live)) (sym e) in omega arith))
    j refl

-- a join keeps the balance
pub join_keeps : (s : State) (k : ℕ) → Balances s → MayJoin s k → Balances (state_after s (Join k))
join_keeps s k h may =
    let p = pass_at s 0 in
    let q = pass_at s k in
    let w : Pass = joins p q in
    let lt = within s.passes k may.live in
    let apart = may.other in
    let live = ((h.each 0).first refl).0 in
    let first = join_first s.passes k w apart lt in
    let number : q.number ≡ k = (h.each k).number may.live in
    let weighs : weight w ≡ weight p + weight q = (let a = live_weight p live in let b = live_weight w live in let c = length-append p.joined (q.number ∷ []) in let d = live_weight q may.live in let e = ap length ((h.each k).joined apart) in omega arith) in
    let long : length (joined_list s.passes k w) ≡ length s.passes = omega (arith, length-set (set s.passes 0 w) k spent, length-set s.passes 0 w) in record {
      cubes = λ c. join_total (λ (u : Pass). times c u.cubes) s.passes k w apart lt (times-append c p.cubes q.cubes) refl ∙ h.cubes c;
      cube_count = join_total (λ (u : Pass). length u.cubes) s.passes k w apart lt (length-append p.cubes q.cubes) refl ∙ h.cube_count;
      claim = (let t = join_total (λ (u : Pass). u.claim_ends) s.passes k w apart lt refl refl in let e = h.claim in omega arith);
      tickets = λ c. join_total (λ (u : Pass). times c (slots_of u.tickets)) s.passes k w apart lt (ap (times c) (slots_of-append p.tickets q.tickets) ∙ times-append c (slots_of p.tickets) (slots_of q.tickets)) refl ∙ h.tickets c;
      ticket_count = join_total (λ (u : Pass). length u.tickets) s.passes k w apart lt (length-append p.tickets q.tickets) refl ∙ h.ticket_count;
      ticket = (let t = join_total (λ (u : Pass). u.ticket_ends) s.passes k w apart lt refl refl in let e = h.ticket in omega arith);
      some_made = (let e = h.some_made in omega arith);
      few = (let e = h.few in omega arith);
      weights = (let t = join_total weight s.passes k w apart lt weighs refl in let e = h.weights in omega arith);
      joined = λ j m. ⊎_elim
          (λ (x : Contains p.joined j). (let r = h.joined j x in let high = r.1 in (r.0, omega arith)))
          (λ (e : q.number ≡ j). (omega (arith, apart), omega arith))
          (Contains-push_cases p.joined q.number j (subst (λ (u : Pass). Contains u.joined j) first m));
      joined_once = λ j low high. ap (λ (u : Pass). times j u.joined) first ∙ join_once s k j h may low (omega arith);
      each = λ j. renumbered s.frame s.problem s.rows j _ (sym long) (join_each (PassBalance s.frame s.problem (length s.passes) s.rows) s.passes k w lt (joins_balance s k h may) (spent_balance s.frame s.problem (length s.passes) s.rows k apart) (λ i a b. h.each i) j);
      owned = λ slot row e. join_owned s _ k slot apart lt live refl (h.owned slot row e);
      proved = h.proved;
    }
