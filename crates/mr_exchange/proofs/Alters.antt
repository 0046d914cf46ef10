-- An event that changes one pass, the two words and the rows, and what it has to keep.
use Rattle.std.proofs.Common.{◌≡◌, ℕ, ◌+◌, ◌<◌, ◌⊎◌, min, not, IsTrue, IsSome, length, length-set, get_or, set, Some, Contains, sym, refl, ap, ◌∙◌, ⊎_elim, subst, arith}
use Rattle.mr_frame.specs.Frame.{Framed}
use Rattle.mr_nogood.specs.declared.row.Row.{Row}
use Rattle.mr_nogood.specs.Follows.{Rows}
use Rattle.mr_exchange.specs.declared.problem.Problem.{Problem}
use Rattle.mr_exchange.specs.State.{Pass, State, spent, pass_at, slots_of}
use Rattle.mr_exchange.specs.Sound.{IsOwned, AreProved}
use Rattle.mr_exchange.proofs.Balance.{times, one_if, once_below, weight, PassBalance, Balances}
use Rattle.mr_exchange.proofs.Totals.{total_set}
use Rattle.mr_exchange.proofs.Lookups.{each_set, set_keeps, set_same, same_weight}

-- the pass is live, and has the slot and knows it
pub record HasSlot (slot : ℕ) (p : Pass) : Type 0 where
  pub live : IsTrue p.live
  pub has : Contains (slots_of p.tickets) slot
  pub knows : Contains p.known slot

-- a slot has an owner where a pass has it and knows it
pub owned_by : (s : State) (slot k : ℕ) → HasSlot slot (pass_at s k) → IsOwned s slot
owned_by s slot k h = record { owner = k; live = h.live; has = h.has; knows = h.knows }

-- and that pass has the slot
pub owner_has : (s : State) (slot : ℕ) (o : IsOwned s slot) → HasSlot slot (pass_at s o.owner)
owner_has s slot o = record { live = o.live; has = o.has; knows = o.knows }

-- the same of another, equal number of passes
pub renumbered : {n m : ℕ} (f : Framed) (problem : Problem) (rows : Rows) (k : ℕ) (p : Pass) → n ≡ m → PassBalance f problem n rows k p → PassBalance f problem m rows k p
renumbered f problem rows k p e h = subst (λ x. PassBalance f problem x rows k p) e h

-- the same where the slots that have rows still have some
pub still_balanced : {n : ℕ} (f : Framed) (problem : Problem) (rows more : Rows) (k : ℕ) (p : Pass) → ((slot : ℕ) → IsSome (rows slot) → IsSome (more slot)) → PassBalance f problem n rows k p → PassBalance f problem n more k p
still_balanced f problem rows more k p still h = record {
  number = h.number;
  spent = h.spent;
  claim_ends = h.claim_ends;
  ticket_ends = h.ticket_ends;
  first = h.first;
  joined = h.joined;
  known = λ slot m. still slot (h.known slot m);
  nodes = h.nodes;
  rest = h.rest;
  turn = h.turn;
}

-- what an event changes in the one pass p that makes it, and in the two words and the rows
pub record Alters (s : State) (claim ticket : ℕ) (rows : Rows) (k : ℕ) (p w : Pass) : Type 0 where
  pub cubes : (c : ℕ) → times c w.cubes + once_below c (min s.claim s.problem.cubes) ≡ times c p.cubes + once_below c (min claim s.problem.cubes)
  pub cube_count : length w.cubes + min s.claim s.problem.cubes ≡ length p.cubes + min claim s.problem.cubes
  pub claim_word : claim + min s.claim s.problem.cubes + p.claim_ends ≡ s.claim + min claim s.problem.cubes + w.claim_ends
  pub tickets : (t : ℕ) → times t (slots_of w.tickets) + once_below t (min s.ticket s.problem.nodes) ≡ times t (slots_of p.tickets) + once_below t (min ticket s.problem.nodes)
  pub ticket_count : length w.tickets + min s.ticket s.problem.nodes ≡ length p.tickets + min ticket s.problem.nodes
  pub ticket_word : ticket + min s.ticket s.problem.nodes + p.ticket_ends ≡ s.ticket + min ticket s.problem.nodes + w.ticket_ends
  pub lives : w.live ≡ p.live
  pub joined : w.joined ≡ p.joined
  pub pass : PassBalance s.frame s.problem (length s.passes) rows k w
  pub still : (slot : ℕ) → IsSome (s.rows slot) → IsSome (rows slot)
  pub keeps : (slot : ℕ) → HasSlot slot p → HasSlot slot w
  pub owned : (slot : ℕ) (row : Row) → rows slot ≡ Some row → (s.rows slot ≡ Some row) ⊎ HasSlot slot w
  pub proved : AreProved s.frame s.problem.nodes rows

-- what it keeps is enough
pub alters : (s : State) (claim ticket : ℕ) (rows : Rows) (k : ℕ) (w : Pass) → Balances s → k < length s.passes → Alters s claim ticket rows k (pass_at s k) w → Balances (record s { claim = claim; ticket = ticket; passes = set s.passes k w; rows = rows })
alters s claim ticket rows k w h lt a =
    let long = length-set s.passes k w in
    let weighs = same_weight w (pass_at s k) a.lives a.joined in
    let joined_of : (j : ℕ) → (get_or (set s.passes k w) j spent).joined ≡ (pass_at s j).joined = set_same (λ (p : Pass). p.joined) s.passes k w spent lt a.joined in
    let live_of : (j : ℕ) → (get_or (set s.passes k w) j spent).live ≡ (pass_at s j).live = set_same (λ (p : Pass). p.live) s.passes k w spent lt a.lives in record {
      cubes = λ c. (let t = total_set (λ (q : Pass). times c q.cubes) s.passes k w spent lt in let e = h.cubes c in let d = a.cubes c in omega arith);
      cube_count = (let t = total_set (λ (q : Pass). length q.cubes) s.passes k w spent lt in let e = h.cube_count in let d = a.cube_count in omega arith);
      claim = (let t = total_set (λ (q : Pass). q.claim_ends) s.passes k w spent lt in let e = h.claim in let d = a.claim_word in omega arith);
      tickets = λ x. (let t = total_set (λ (q : Pass). times x (slots_of q.tickets)) s.passes k w spent lt in let e = h.tickets x in let d = a.tickets x in omega arith);
      ticket_count = (let t = total_set (λ (q : Pass). length q.tickets) s.passes k w spent lt in let e = h.ticket_count in let d = a.ticket_count in omega arith);
      ticket = (let t = total_set (λ (q : Pass). q.ticket_ends) s.passes k w spent lt in let e = h.ticket in let d = a.ticket_word in omega arith);
      some_made = (let e = h.some_made in omega arith);
      few = (let e = h.few in omega arith);
      weights = (let t = total_set weight s.passes k w spent lt in let e = h.weights in omega arith);
      joined = λ j m. (let r = h.joined j (subst (λ l. Contains l j) (joined_of 0) m) in let high = r.1 in (r.0, omega arith));
      joined_once = λ j low high. ap (times j) (joined_of 0) ∙ h.joined_once j low (omega arith) ∙ ap (λ b. one_if (not b)) (sym (live_of j));
      each = λ j. renumbered s.frame s.problem rows j _ (sym long) (each_set (PassBalance s.frame s.problem (length s.passes) rows) s.passes k w spent lt a.pass (λ i n. still_balanced s.frame s.problem s.rows rows i _ a.still (h.each i)) j);
      owned = λ slot row e. ⊎_elim
          (λ (x : s.rows slot ≡ Some row). (let o = h.owned slot row x in owned_by _ slot o.owner (set_keeps (HasSlot slot) s.passes k w spent lt (a.keeps slot) o.owner (owner_has s slot o))))
          (λ (x : HasSlot slot w). owned_by _ slot k (each_set (λ j p. j ≡ k → HasSlot slot p) s.passes k w spent lt (λ d. x) (λ j n d. absurd (n d)) k refl)) (a.owned slot row e);
      proved = a.proved;
    }
