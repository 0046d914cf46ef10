-- Each event that changes one pass keeps the balance.
use Rattle.std.proofs.Common.{◌≡◌, ◌≢◌, ℕ, ◌+◌, ◌-◌, ◌*◌, ◌<◌, ◌≤◌, ◌⊎◌, min, if◌then◌else◌, false, true≢false, IsTrue, IsSome, List, [], ◌∷◌, ◌++◌, length, length-append, get_or, set, Option, Some, None, Contains, sym, refl, ap, ◌∙◌, inl, inr, ⊎_elim, subst, arith}
use Rattle.std.proofs.lemmas.List.{get_or_push}
use Rattle.std.proofs.lemmas.List.Elements.{Contains-get_or, Contains-append_left, Contains-push_cases}
use Rattle.mr_frame.specs.Frame.{Framed}
use Rattle.mr_nogood.specs.declared.row.Row.{Row}
use Rattle.mr_nogood.specs.Follows.{Rows}
use Rattle.mr_exchange.specs.declared.ticket.Ticket.{Ticket}
use Rattle.mr_exchange.specs.declared.event.Event.TheVariants.{Claim, OpenNode, LookAt, Publish}
use Rattle.mr_exchange.specs.State.{Pass, State, spent, pass_at, IsLive, slots_of, latest_of, is_short, known_rows}
use Rattle.mr_exchange.specs.Events.{IsNodeOf, MayClaim, MayOpen, MayLook, MayPublish, state_after, knowing, known_after, looked, published, with_row}
use Rattle.mr_exchange.specs.declared.TheConstants.{LOOKS}
use Rattle.mr_exchange.specs.Sound.{IsInTurn, AreProved}
use Rattle.mr_exchange.proofs.Balance.{times, once_below, weight, Balances}
use Rattle.mr_exchange.proofs.Totals.{total_at, lt_cases, eq_cases, bool_cases, next_one, no_more, once_yes, times_of}
use Rattle.mr_exchange.proofs.Lookups.{within, slots_of-append, length-slots_of, knowing_this, knowing_more, knowing_cases, live_weight}
use Rattle.mr_exchange.proofs.Rows.{among_more, known_among, still_some, row_here, row_cases, proved_more}
use Rattle.mr_exchange.proofs.Alters.{HasSlot, Alters, alters}

-- a live pass is not spent
pub is_live : {X : Type 0} (p : Pass) → IsTrue p.live → p.live ≡ false → X
is_live p live dead = absurd (true≢false (sym live ∙ dead))

-- a node of cubes is one of more cubes
pub node_more : (f : Framed) (depth : ℕ) (cubes more node : List ℕ) → ((c : ℕ) → Contains cubes c → Contains more c) → IsNodeOf f depth cubes node → IsNodeOf f depth more node
node_more f depth cubes more node keeps h = record { assignment = h.assignment; cube = h.cube; claimed = keeps h.cube h.claimed; contains = h.contains }

-- a ticket of a pass was drawn
pub drawn : (s : State) (k slot : ℕ) → Balances s → IsLive s k → Contains (slots_of (pass_at s k).tickets) slot → slot < min s.ticket s.problem.nodes
drawn s k slot h live has =
    let lt = within s.passes k live in
    let a = total_at (λ (q : Pass). times slot (slots_of q.tickets)) s.passes k spent lt in
    let b = h.tickets slot in
    let c = times_of (slots_of (pass_at s k).tickets) slot has in
    once_yes slot (min s.ticket s.problem.nodes) (omega arith)

-- a pass has no more tickets than there are nodes
pub few_tickets : (s : State) (k : ℕ) → Balances s → IsLive s k → length (pass_at s k).tickets ≤ min s.ticket s.problem.nodes
few_tickets s k h live = let a = total_at (λ (q : Pass). length q.tickets) s.passes k spent (within s.passes k live) in let b = h.ticket_count in omega arith

-- a list is empty or not
empty_or_not : {A : Type 0} (xs : List A) → (xs ≡ []) ⊎ (xs ≢ [])
empty_or_not [] = inl refl
empty_or_not (x ∷ xs) = inr (λ e. (let n = ap length e in omega arith))

-- the latest of the slots is one of them
pub latest_among : (tickets : List Ticket) → tickets ≢ [] → Contains (slots_of tickets) (latest_of tickets)
latest_among [] h = absurd (h refl)
latest_among (t ∷ ts) h = Contains-get_or (slots_of (t ∷ ts)) (length (t ∷ ts) - 1) 0 (omega (arith, length-slots_of (t ∷ ts)))

-- of one ticket more it is the latest
latest_of-push : (tickets : List Ticket) (t : Ticket) → latest_of (tickets ++ t ∷ []) ≡ t.slot
latest_of-push tickets t =
    let long : length (tickets ++ t ∷ []) - 1 ≡ length tickets = omega (arith, length-append tickets (t ∷ [])) in
    ap (λ l. get_or l (length (tickets ++ t ∷ []) - 1) 0) (slots_of-append tickets (t ∷ []))
    ∙ get_or_push (slots_of tickets) t.slot 0 (length (tickets ++ t ∷ []) - 1) (length-slots_of tickets ∙ sym long)

-- what an event changes of the cubes in the pass p that makes it, which is w then, and of the claim word
record Claims (s : State) (claim : ℕ) (p w : Pass) : Type 0 where
  pub cubes : (c : ℕ) → times c w.cubes + once_below c (min s.claim s.problem.cubes) ≡ times c p.cubes + once_below c (min claim s.problem.cubes)
  pub count : length w.cubes + min s.claim s.problem.cubes ≡ length p.cubes + min claim s.problem.cubes
  pub word : claim + min s.claim s.problem.cubes + p.claim_ends ≡ s.claim + min claim s.problem.cubes + w.claim_ends
  pub ends : w.claim_ends ≤ weight w

-- and of its tickets and the ticket word
record Draws (s : State) (ticket : ℕ) (p w : Pass) : Type 0 where
  pub tickets : (t : ℕ) → times t (slots_of w.tickets) + once_below t (min s.ticket s.problem.nodes) ≡ times t (slots_of p.tickets) + once_below t (min ticket s.problem.nodes)
  pub count : length w.tickets + min s.ticket s.problem.nodes ≡ length p.tickets + min ticket s.problem.nodes
  pub word : ticket + min s.ticket s.problem.nodes + p.ticket_ends ≡ s.ticket + min ticket s.problem.nodes + w.ticket_ends
  pub ends : w.ticket_ends ≤ weight w
  pub kept : (slot : ℕ) → Contains (slots_of p.tickets) slot → Contains (slots_of w.tickets) slot

-- what the pass then knows, of which cubes its nodes are, and that it is in turn
record IsRight (s : State) (rows : Rows) (p w : Pass) : Type 0 where
  pub known : (slot : ℕ) → Contains w.known slot → IsSome (rows slot)
  pub nodes : (t : Ticket) → Contains w.tickets t → IsNodeOf s.frame s.problem.depth w.cubes t.node
  pub rest : w.looks ≤ LOOKS * s.problem.nodes
  pub turn : w.joined ≡ [] → IsInTurn w.tickets w.looks w.cursor
  pub knows : (slot : ℕ) → Contains p.known slot → Contains w.known slot

-- what holds of all rows then
record AreRight (s : State) (rows : Rows) (w : Pass) : Type 0 where
  pub still : (slot : ℕ) → IsSome (s.rows slot) → IsSome (rows slot)
  pub owned : (slot : ℕ) (row : Row) → rows slot ≡ Some row → (s.rows slot ≡ Some row) ⊎ HasSlot slot w
  pub proved : AreProved s.frame s.problem.nodes rows

-- an event of a live pass, which keeps its number, what it made and what it joined
altered : (s : State) (k claim ticket : ℕ) (rows : Rows) (w : Pass) → Balances s → IsLive s k → Claims s claim (pass_at s k) w → Draws s ticket (pass_at s k) w → IsRight s rows (pass_at s k) w → AreRight s rows w
    → w.number ≡ (pass_at s k).number → w.live ≡ (pass_at s k).live → w.made ≡ (pass_at s k).made → w.joined ≡ (pass_at s k).joined → Alters s claim ticket rows k (pass_at s k) w
altered s k claim ticket rows w h live claims draws right are number lives made joined = let mine = h.each k in record {
  cubes = claims.cubes;
  cube_count = claims.count;
  claim_word = claims.word;
  tickets = draws.tickets;
  ticket_count = draws.count;
  ticket_word = draws.word;
  lives = lives;
  joined = joined;
  pass = record {
    number = λ _. number ∙ mine.number live;
    spent = λ dead. is_live w (subst (λ b. IsTrue b) (sym lives) live) dead;
    claim_ends = claims.ends;
    ticket_ends = draws.ends;
    first = λ is. (subst (λ b. IsTrue b) (sym lives) (mine.first is).0, made ∙ (mine.first is).1);
    joined = λ other. joined ∙ mine.joined other;
    known = right.known;
    nodes = right.nodes;
    rest = right.rest;
    turn = right.turn;
  };
  still = are.still;
  keeps = λ slot x. record { live = subst (λ b. IsTrue b) (sym lives) x.live; has = draws.kept slot x.has; knows = right.knows slot x.knows };
  owned = are.owned;
  proved = are.proved;
}

-- no cube is claimed
same_claims : (s : State) (k : ℕ) (w : Pass) → Balances s → w.cubes ≡ (pass_at s k).cubes → w.claim_ends ≡ (pass_at s k).claim_ends → weight w ≡ weight (pass_at s k) → Claims s s.claim (pass_at s k) w
same_claims s k w h cubes ends heavy = record {
  cubes = λ c. ap (λ xs. times c xs + once_below c (min s.claim s.problem.cubes)) cubes;
  count = ap (λ (xs : List ℕ). length xs + min s.claim s.problem.cubes) cubes;
  word = ap (λ n. s.claim + min s.claim s.problem.cubes + n) (sym ends);
  ends = (let few = (h.each k).claim_ends in subst (λ n. n ≤ weight w) (sym ends) (subst (λ n. (pass_at s k).claim_ends ≤ n) (sym heavy) few));
}

-- no ticket is drawn
same_draws : (s : State) (k : ℕ) (w : Pass) → Balances s → w.tickets ≡ (pass_at s k).tickets → w.ticket_ends ≡ (pass_at s k).ticket_ends → weight w ≡ weight (pass_at s k) → Draws s s.ticket (pass_at s k) w
same_draws s k w h tickets ends heavy = record {
  tickets = λ t. ap (λ (xs : List Ticket). times t (slots_of xs) + once_below t (min s.ticket s.problem.nodes)) tickets;
  count = ap (λ (xs : List Ticket). length xs + min s.ticket s.problem.nodes) tickets;
  word = ap (λ n. s.ticket + min s.ticket s.problem.nodes + n) (sym ends);
  ends = (let few = (h.each k).ticket_ends in subst (λ n. n ≤ weight w) (sym ends) (subst (λ n. (pass_at s k).ticket_ends ≤ n) (sym heavy) few));
  kept = λ slot has. subst (λ (xs : List Ticket). Contains (slots_of xs) slot) (sym tickets) has;
}

-- no row is published
same_rows : (s : State) (w : Pass) → Balances s → AreRight s s.rows w
same_rows s w h = record { still = λ slot x. x; owned = λ slot row e. inl e; proved = h.proved }

-- a claim that finds a cube
claim_gives : (s : State) (k : ℕ) → Balances s → MayClaim s k → s.claim < s.problem.cubes → Alters s (s.claim + 1) s.ticket s.rows k (pass_at s k) (record (pass_at s k) { cubes = (pass_at s k).cubes ++ s.claim ∷ [] })
claim_gives s k h may lt = let p = pass_at s k in let mine = h.each k in let w : Pass = record p { cubes = p.cubes ++ s.claim ∷ [] } in
    altered s k (s.claim + 1) s.ticket s.rows w h may.live
    (record { cubes = λ c. next_one s.claim s.problem.cubes c p.cubes lt; count = omega (arith, length-append p.cubes (s.claim ∷ [])); word = omega arith; ends = mine.claim_ends })
    (same_draws s k w h refl refl refl)
    (record {
      known = mine.known;
      nodes = λ t m. node_more s.frame s.problem.depth p.cubes (p.cubes ++ s.claim ∷ []) t.node (λ c x. Contains-append_left p.cubes (s.claim ∷ []) c x) (mine.nodes t m);
      rest = mine.rest;
      turn = mine.turn;
      knows = λ slot x. x;
    })
    (same_rows s w h) refl refl refl refl

-- a claim that finds none
claim_ends : (s : State) (k : ℕ) → Balances s → MayClaim s k → s.problem.cubes ≤ s.claim → Alters s (s.claim + 1) s.ticket s.rows k (pass_at s k) (record (pass_at s k) { claim_ends = (pass_at s k).claim_ends + 1 })
claim_ends s k h may le = let p = pass_at s k in let mine = h.each k in let w : Pass = record p { claim_ends = p.claim_ends + 1 } in
    altered s k (s.claim + 1) s.ticket s.rows w h may.live
    (record { cubes = λ c. no_more s.claim s.problem.cubes c p.cubes le; count = omega arith; word = omega arith; ends = (let heavy = live_weight p may.live in let e = may.no_end in omega arith) })
    (same_draws s k w h refl refl refl)
    (record { known = mine.known; nodes = mine.nodes; rest = mine.rest; turn = mine.turn; knows = λ slot x. x })
    (same_rows s w h) refl refl refl refl

-- a claim keeps the balance
pub claim_keeps : (s : State) (k : ℕ) → Balances s → MayClaim s k → Balances (state_after s (Claim k))
claim_keeps s k h may = let p = pass_at s k in let within_ = within s.passes k may.live in
    lt_cases s.claim s.problem.cubes (λ b. Balances (record s { claim = s.claim + 1; passes = set s.passes k (if b then record p { cubes = p.cubes ++ s.claim ∷ [] } else record p { claim_ends = p.claim_ends + 1 }) }))
    (λ lt. alters s (s.claim + 1) s.ticket s.rows k (record p { cubes = p.cubes ++ s.claim ∷ [] }) h within_ (claim_gives s k h may lt))
    (λ le. alters s (s.claim + 1) s.ticket s.rows k (record p { claim_ends = p.claim_ends + 1 }) h within_ (claim_ends s k h may le))

-- the turn of a pass with a new ticket
turn_opened : (s : State) (k : ℕ) (node : List ℕ) (t : Ticket) → Balances s → MayOpen s k node → t.slot ≡ s.ticket → IsInTurn ((pass_at s k).tickets ++ t ∷ []) (pass_at s k).looks (pass_at s k).cursor
turn_opened s k node t h may is = let p = pass_at s k in let mine = (h.each k).turn may.alone in let long = length-append p.tickets (t ∷ []) in record {
  due = λ some. (let d = may.looked in omega arith);
  place = λ some. (let e = latest_of-push p.tickets t in ⊎_elim
      (λ (none : p.tickets ≡ []). (let z = (mine.idle none).1 in omega arith))
      (λ (any : p.tickets ≢ []). (let a = mine.place any in let b = drawn s k (latest_of p.tickets) h may.live (latest_among p.tickets any) in omega arith))
      (empty_or_not p.tickets));
  idle = λ none. absurd (let n = ap length none in omega arith);
}

-- an opening that finds a ticket
open_gives : (s : State) (k : ℕ) (node : List ℕ) → Balances s → MayOpen s k node → s.ticket < s.problem.nodes
    → Alters s s.claim (s.ticket + 1) s.rows k (pass_at s k) (record (pass_at s k) { tickets = (pass_at s k).tickets ++ record { slot = s.ticket; node = node } ∷ [] })
open_gives s k node h may lt = let p = pass_at s k in let mine = h.each k in let t : Ticket = record { slot = s.ticket; node = node } in let w : Pass = record p { tickets = p.tickets ++ t ∷ [] } in
    altered s k s.claim (s.ticket + 1) s.rows w h may.live (same_claims s k w h refl refl refl)
    (record {
      tickets = λ x. ap (λ l. times x l + once_below x (min s.ticket s.problem.nodes)) (slots_of-append p.tickets (t ∷ [])) ∙ next_one s.ticket s.problem.nodes x (slots_of p.tickets) lt;
      count = omega (arith, length-append p.tickets (t ∷ []));
      word = omega arith;
      ends = mine.ticket_ends;
      kept = λ slot has. subst (λ l. Contains l slot) (sym (slots_of-append p.tickets (t ∷ []))) (Contains-append_left (slots_of p.tickets) (s.ticket ∷ []) slot has);
    })
    (record {
      known = mine.known;
      nodes = λ u m. ⊎_elim (λ (x : Contains p.tickets u). mine.nodes u x) (λ (e : t ≡ u). subst (λ (v : Ticket). IsNodeOf s.frame s.problem.depth p.cubes v.node) e may.is_node) (Contains-push_cases p.tickets t u m);
      rest = mine.rest;
      turn = λ _. turn_opened s k node t h may refl;
      knows = λ slot x. x;
    })
    (same_rows s w h) refl refl refl refl

-- an opening that finds none
open_ends : (s : State) (k : ℕ) (node : List ℕ) → Balances s → MayOpen s k node → s.problem.nodes ≤ s.ticket → Alters s s.claim (s.ticket + 1) s.rows k (pass_at s k) (record (pass_at s k) { ticket_ends = (pass_at s k).ticket_ends + 1 })
open_ends s k node h may le = let p = pass_at s k in let mine = h.each k in let w : Pass = record p { ticket_ends = p.ticket_ends + 1 } in
    altered s k s.claim (s.ticket + 1) s.rows w h may.live (same_claims s k w h refl refl refl)
    (record {
      tickets = λ t. no_more s.ticket s.problem.nodes t (slots_of p.tickets) le;
      count = omega arith;
      word = omega arith;
      ends = (let heavy = live_weight p may.live in let e = may.no_end in omega arith);
      kept = λ slot has. has;
    })
    (record { known = mine.known; nodes = mine.nodes; rest = mine.rest; turn = mine.turn; knows = λ slot x. x })
    (same_rows s w h) refl refl refl refl

-- an opening keeps the balance
pub open_keeps : (s : State) (k : ℕ) (node : List ℕ) → Balances s → MayOpen s k node → Balances (state_after s (OpenNode k node))
open_keeps s k node h may = let p = pass_at s k in let within_ = within s.passes k may.live in let t : Ticket = record { slot = s.ticket; node = node } in
    lt_cases s.ticket s.problem.nodes (λ b. Balances (record s { ticket = s.ticket + 1; passes = set s.passes k (if b then record p { tickets = p.tickets ++ t ∷ [] } else record p { ticket_ends = p.ticket_ends + 1 }) }))
    (λ lt. alters s s.claim (s.ticket + 1) s.rows k (record p { tickets = p.tickets ++ t ∷ [] }) h within_ (open_gives s k node h may lt))
    (λ le. alters s s.claim (s.ticket + 1) s.rows k (record p { ticket_ends = p.ticket_ends + 1 }) h within_ (open_ends s k node h may le))

-- what is known after a look has rows
known_after_some : (rows : Rows) (slot : ℕ) (known : List ℕ) → ((t : ℕ) → Contains known t → IsSome (rows t)) → (t : ℕ) → Contains (known_after slot (rows slot) known) t → IsSome (rows t)
known_after_some rows slot known h t = read (rows slot) refl
  where
    read : (o : Option Row) → rows slot ≡ o → Contains (known_after slot o known) t → IsSome (rows t)
    read None e m = h t m
    read (Some row) e m = bool_cases (is_short row) (λ b. Contains (if b then knowing slot known else known) t → IsSome (rows t))
        (λ _ n. ⊎_elim (λ (x : Contains known t). h t x) (λ (d : slot ≡ t). subst (λ i. IsSome (rows i)) d (subst IsSome (sym e) refl)) (knowing_cases slot known t n)) (λ _ n. h t n) m

-- what was known before is known
known_after_more : (o : Option Row) (slot : ℕ) (known : List ℕ) (t : ℕ) → Contains known t → Contains (known_after slot o known) t
known_after_more None slot known t m = m
known_after_more (Some row) slot known t m = bool_cases (is_short row) (λ b. Contains (if b then knowing slot known else known) t) (λ _. knowing_more slot known t m) (λ _. m)

-- a look
look_alters : (s : State) (k : ℕ) → Balances s → MayLook s k → Alters s s.claim s.ticket s.rows k (pass_at s k) (looked s.problem.nodes s.rows (pass_at s k))
look_alters s k h may = let p = pass_at s k in let mine = h.each k in let turn = mine.turn may.alone in let w : Pass = looked s.problem.nodes s.rows p in
    altered s k s.claim s.ticket s.rows w h may.live (same_claims s k w h refl refl refl) (same_draws s k w h refl refl refl)
    (record {
      known = known_after_some s.rows p.cursor p.known mine.known;
      nodes = mine.nodes;
      rest = omega arith;
      turn = λ _. record {
        due = λ any. (let a = turn.due any in let b = few_tickets s k h may.live in omega arith);
        place = λ any. (let a = turn.place any in eq_cases p.cursor (latest_of p.tickets) (λ b. (if b then 0 else p.cursor + 1) ≤ latest_of p.tickets) (λ e. omega arith) (λ n. omega arith));
        idle = λ none. absurd (may.some_ticket none);
      };
      knows = λ slot x. known_after_more (s.rows p.cursor) p.cursor p.known slot x;
    })
    (same_rows s w h) refl refl refl refl

-- a look keeps the balance
pub look_keeps : (s : State) (k : ℕ) → Balances s → MayLook s k → Balances (state_after s (LookAt k))
look_keeps s k h may = alters s s.claim s.ticket s.rows k (looked s.problem.nodes s.rows (pass_at s k)) h (within s.passes k may.live) (look_alters s k h may)

-- a publication
publish_alters : (s : State) (k slot : ℕ) (row : Row) → Balances s → MayPublish s k slot row → Alters s s.claim s.ticket (with_row s.rows slot row) k (pass_at s k) (published slot (pass_at s k))
publish_alters s k slot row h may = let p = pass_at s k in let mine = h.each k in let w : Pass = published slot p in let more = among_more s.rows slot row may.empty in
    let still : (t : ℕ) → IsSome (s.rows t) → IsSome (with_row s.rows slot row t) = still_some s.rows (with_row s.rows slot row) more in
    altered s k s.claim s.ticket (with_row s.rows slot row) w h may.live (same_claims s k w h refl refl refl) (same_draws s k w h refl refl refl)
    (record {
      known = λ t m. ⊎_elim (λ (x : Contains p.known t). still t (mine.known t x)) (λ (e : slot ≡ t). subst (λ i. IsSome (with_row s.rows slot row i)) e (subst IsSome (sym (row_here s.rows slot row)) refl)) (knowing_cases slot p.known t m);
      nodes = mine.nodes;
      rest = mine.rest;
      turn = mine.turn;
      knows = λ t x. knowing_more slot p.known t x;
    })
    (record {
      still = still;
      owned = λ t found e. ⊎_elim (λ (x : (t ≡ slot) × (row ≡ found)). inr (subst (λ i. HasSlot i (published slot p)) (sym x.0) (record { live = may.live; has = may.own; knows = knowing_this slot p.known })))
          (λ (x : s.rows t ≡ Some found). inl x) (row_cases s.rows slot t row found e);
      proved = (let low = drawn s k slot h may.live may.own in proved_more s.frame s.problem.nodes (known_rows s p) s.rows slot row h.proved (known_among s p) (omega arith) may.empty may.follows may.rank);
    })
    refl refl refl refl

-- a publication keeps the balance
pub publish_keeps : (s : State) (k slot : ℕ) (row : Row) → Balances s → MayPublish s k slot row → Balances (state_after s (Publish k slot row))
publish_keeps s k slot row h may = alters s s.claim s.ticket (with_row s.rows slot row) k (published slot (pass_at s k)) h (within s.passes k may.live) (publish_alters s k slot row h may)
