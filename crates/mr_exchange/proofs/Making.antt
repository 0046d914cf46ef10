-- A new state balances, and so does a state in which one pass more is made.
use Rattle.std.proofs.Common.{◌≡◌, ◌≢◌, ℕ, zero, suc, ◌+◌, ◌<◌, ◌≤◌, min, true, false, not, true≢false, List, [], ◌∷◌, ◌++◌, length, length-append, length-set, get_or, set, None, Contains, sym, refl, ap, ◌∙◌, subst, arith, lt_of_not-le}
use native.Mathlib.Decide.{dec_le}
use Rattle.std.proofs.lemmas.Option.{none-some}
use Rattle.std.proofs.lemmas.List.{get_or_append_left, get_or_push}
use Rattle.mr_frame.specs.Frame.{Framed}
use Rattle.mr_nogood.specs.Follows.{Rows}
use Rattle.mr_set.proofs.Ordered.{member_none}
use Rattle.mr_exchange.specs.declared.problem.Problem.{Problem}
use Rattle.mr_exchange.specs.declared.event.Event.TheVariants.{Split}
use Rattle.mr_exchange.specs.State.{Pass, State, spent, new_pass, new_state, pass_at, slots_of}
use Rattle.mr_exchange.specs.Events.{state_after}
use Rattle.mr_exchange.proofs.Balance.{total, times, one_if, weight, PassBalance, Balances}
use Rattle.mr_exchange.proofs.Totals.{total-append, total_set, once_not, of_times}
use Rattle.mr_exchange.proofs.Lookups.{within, each_set, set_keeps, set_same, each_push}
use Rattle.mr_exchange.proofs.Alters.{HasSlot, owned_by, owner_has, renumbered}

-- what has nothing balances
module _ (f : Framed) (problem : Problem) (n : ℕ) (rows : Rows) where
  -- a pass that was joined into another
  pub spent_balance : (k : ℕ) → k ≢ 0 → PassBalance f problem n rows k spent
  spent_balance k apart = record {
    number = λ (d : false ≡ true). absurd (true≢false (sym d));
    spent = λ d. refl;
    claim_ends = omega arith;
    ticket_ends = omega arith;
    first = λ e. absurd (apart e);
    joined = λ d. refl;
    known = λ slot m. absurd (member_none slot m);
    nodes = λ t m. absurd (member_none t m);
    rest = omega arith;
    turn = λ d. record { due = λ any. absurd (any refl); place = λ any. absurd (any refl); idle = λ none. (refl, refl) };
  }

  -- a new pass
  pub new_balance : (number k : ℕ) → number ≡ k → (k ≡ 0 → 1 ≡ n) → PassBalance f problem n rows k (new_pass number)
  new_balance number k same first = record {
    number = λ d. same;
    spent = λ (d : true ≡ false). absurd (true≢false d);
    claim_ends = omega arith;
    ticket_ends = omega arith;
    first = λ e. (refl, first e);
    joined = λ d. refl;
    known = λ slot m. absurd (member_none slot m);
    nodes = λ t m. absurd (member_none t m);
    rest = omega arith;
    turn = λ d. record { due = λ any. absurd (any refl); place = λ any. absurd (any refl); idle = λ none. (refl, refl) };
  }

-- at the start only the first pass was made
only_first : (f : Framed) (problem : Problem) (rows : Rows) (k : ℕ) → PassBalance f problem 1 rows k (get_or (new_pass 0 ∷ []) k spent)
only_first f problem rows zero = new_balance f problem 1 rows 0 0 refl (λ e. refl)
only_first f problem rows (suc k) = spent_balance f problem 1 rows (suc k) (λ e. omega arith)

-- a new state balances
pub new_state_balances : (f : Framed) (problem : Problem) (limit : ℕ) → 1 ≤ limit → Balances (new_state f problem limit)
new_state_balances f problem limit some = record {
  cubes = λ c. sym (once_not c (min 0 problem.cubes) (omega arith));
  cube_count = omega arith;
  claim = omega arith;
  tickets = λ t. sym (once_not t (min 0 problem.nodes) (omega arith));
  ticket_count = omega arith;
  ticket = omega arith;
  some_made = omega arith;
  few = some;
  weights = refl;
  joined = λ k m. absurd (member_none k m);
  joined_once = λ k low high. absurd (omega arith);
  each = only_first f problem (λ _. None);
  owned = λ slot row e. absurd (none-some row e);
  proved = record { follows = λ slot row e. absurd (none-some row e); rank = λ slot row e. absurd (none-some row e); low = λ slot row e. absurd (none-some row e) };
}

-- another pass is the same where more were made
more_made : {n : ℕ} (f : Framed) (problem : Problem) (rows : Rows) (k : ℕ) (p : Pass) → k ≢ 0 → PassBalance f problem n rows k p → PassBalance f problem (n + 1) rows k p
more_made f problem rows k p apart h = record {
  number = h.number;
  spent = h.spent;
  claim_ends = h.claim_ends;
  ticket_ends = h.ticket_ends;
  first = λ e. absurd (apart e);
  joined = h.joined;
  known = h.known;
  nodes = h.nodes;
  rest = h.rest;
  turn = h.turn;
}

-- what does not stand in a list stands there no time
pub times_none : (ys : List ℕ) (x : ℕ) → (Contains ys x → ⊥) → times x ys ≡ 0
times_none ys x h = read (times x ys) refl
  where
    read : (n : ℕ) → times x ys ≡ n → n ≡ 0
    read zero e = refl
    read (suc n) e = absurd (h (of_times ys x (omega arith)))

-- sums over all passes, where the first changes and there is a new one
split_total : (f : Pass → ℕ) (xs : List Pass) (w u : Pass) → 0 < length xs → f w ≡ f (get_or xs 0 spent) → total f (set xs 0 w ++ u ∷ []) ≡ total f xs + f u
split_total f xs w u some e = omega (arith, total-append f (set xs 0 w) (u ∷ []), total_set f xs 0 w spent some)

-- what a pass that was made keeps
split_same : {B : Type 0} (g : Pass → B) (xs : List Pass) (w u : Pass) (j : ℕ) → j < length xs → g w ≡ g (get_or xs 0 spent) → g (get_or (set xs 0 w ++ u ∷ []) j spent) ≡ g (get_or xs j spent)
split_same g xs w u j lt e =
    let some : 0 < length xs = omega arith in
    let long : j < length (set xs 0 w) = omega (arith, length-set xs 0 w) in
    ap g (get_or_append_left (set xs 0 w) (u ∷ []) spent j long) ∙ set_same g xs 0 w spent some e j

-- each slot of a pass is still one of it
split_has : (slot : ℕ) (xs : List Pass) (w u : Pass) (j : ℕ) → (HasSlot slot (get_or xs 0 spent) → HasSlot slot w) → HasSlot slot (get_or xs j spent) → HasSlot slot (get_or (set xs 0 w ++ u ∷ []) j spent)
split_has slot xs w u j keeps h =
    let lt = within xs j h.live in
    let some : 0 < length xs = omega arith in
    let long : j < length (set xs 0 w) = omega (arith, length-set xs 0 w) in
    subst (HasSlot slot) (sym (get_or_append_left (set xs 0 w) (u ∷ []) spent j long)) (set_keeps (HasSlot slot) xs 0 w spent some keeps j h)

-- the new pass wasn't joined, and of the others it is as before
split_once : (s : State) (w u : Pass) (k : ℕ) → Balances s → w.live ≡ (pass_at s 0).live → u.live ≡ true → 1 ≤ k → k < length s.passes + 1 → times k (pass_at s 0).joined ≡ one_if (not (get_or (set s.passes 0 w ++ u ∷ []) k spent).live)
split_once s w u k h same live low high = by_length (dec_le (length s.passes) k)
  where
    by_length : Dec (length s.passes ≤ k) → times k (pass_at s 0).joined ≡ one_if (not (get_or (set s.passes 0 w ++ u ∷ []) k spent).live)
    by_length (no n) = let lt = lt_of_not-le n in h.joined_once k low lt ∙ ap (λ b. one_if (not b)) (sym (split_same (λ (q : Pass). q.live) s.passes w u k lt same))
    by_length (yes le) =
        let last : length (set s.passes 0 w) ≡ k = omega (arith, length-set s.passes 0 w) in
        let new : (get_or (set s.passes 0 w ++ u ∷ []) k spent).live ≡ true = ap (λ (q : Pass). q.live) (get_or_push (set s.passes 0 w) u spent k last) ∙ live in
        times_none (pass_at s 0).joined k (λ m. let r = (h.joined k m).1 in omega arith) ∙ ap (λ b. one_if (not b)) (sym new)

-- a split keeps the balance
pub split_keeps : (s : State) → Balances s → (pass_at s 0).made < s.limit → Balances (state_after s Split)
split_keeps s h room =
    let p = pass_at s 0 in
    let mine = h.each 0 in
    let w : Pass = record p { made = p.made + 1 } in
    let u : Pass = new_pass p.made in
    let xs : List Pass = set s.passes 0 w in
    let some = h.some_made in
    let made : p.made ≡ length s.passes = (mine.first refl).1 in
    let long : length (xs ++ u ∷ []) ≡ length s.passes + 1 = omega (arith, length-append xs (u ∷ []), length-set s.passes 0 w) in
    let joined_first : (get_or (xs ++ u ∷ []) 0 spent).joined ≡ p.joined = split_same (λ (q : Pass). q.joined) s.passes w u 0 some refl in record {
      cubes = λ c. (let t = split_total (λ (q : Pass). times c q.cubes) s.passes w u some refl in let e = h.cubes c in omega arith);
      cube_count = (let t = split_total (λ (q : Pass). length q.cubes) s.passes w u some refl in let e = h.cube_count in omega arith);
      claim = (let t = split_total (λ (q : Pass). q.claim_ends) s.passes w u some refl in let e = h.claim in omega arith);
      tickets = λ x. (let t = split_total (λ (q : Pass). times x (slots_of q.tickets)) s.passes w u some refl in let e = h.tickets x in omega arith);
      ticket_count = (let t = split_total (λ (q : Pass). length q.tickets) s.passes w u some refl in let e = h.ticket_count in omega arith);
      ticket = (let t = split_total (λ (q : Pass). q.ticket_ends) s.passes w u some refl in let e = h.ticket in omega arith);
      some_made = omega arith;
      few = omega arith;
      weights = (let t = split_total weight s.passes w u some refl in let e = h.weights in omega arith);
      joined = λ k m. (let r = h.joined k (subst (λ l. Contains l k) joined_first m) in let high = r.1 in (r.0, omega arith));
      joined_once = λ k low high. ap (times k) joined_first ∙ split_once s w u k h refl refl low (omega arith);
      each = λ j. renumbered s.frame s.problem s.rows j _ (sym long) (each_push (PassBalance s.frame s.problem (length s.passes + 1) s.rows) xs u spent
          (new_balance s.frame s.problem (length s.passes + 1) s.rows p.made (length xs) (omega (arith, length-set s.passes 0 w)) (λ e. absurd (omega (arith, length-set s.passes 0 w))))
          (λ i lt. each_set (PassBalance s.frame s.problem (length s.passes + 1) s.rows) s.passes 0 w spent some
          (record { number = mine.number; spent = λ d. absurd (true≢false (sym (mine.first refl).0 ∙ d)); claim_ends = mine.claim_ends; ticket_ends = mine.ticket_ends; first = λ e. ((mine.first refl).0, omega arith); joined = mine.joined; known = mine.known; nodes = mine.nodes; rest = mine.rest; turn = mine.turn })
          (λ i n. more_made s.frame s.problem s.rows i _ n (h.each i)) i)
          (λ i past. spent_balance s.frame s.problem (length s.passes + 1) s.rows i (λ e. omega arith)) j);
      owned = λ slot row e. (let o = h.owned slot row e in owned_by _ slot o.owner (split_has slot s.passes w u o.owner (λ x. record { live = x.live; has = x.has; knows = x.knows }) (owner_has s slot o)));
      proved = h.proved;
    }
