-- A board for one pass is that pass of a sound state, and stays so.
use Rattle.std.proofs.Common.{◌≡◌, ◌≢◌, ℕ, zero, suc, ◌+◌, ◌-◌, ◌*◌, ◌<◌, ◌≤◌, min, ◌==◌, if◌then◌else◌, Bool, List, [], ◌∷◌, ◌++◌, length, length-append, length-set, get_or-set_same, get_or, set, replicate, Option, Some, None, IsSome, Contains, sym, refl, ap, ◌∙◌, ⊎_elim, subst, arith}
use Rattle.std.proofs.Math.Path.{fun_ext}
use Rattle.std.specs.Prelude.{slice_get}
use Rattle.std.proofs.lemmas.Bool.{lt-ltb, le-ltb, cases_lt}
use Rattle.std.proofs.lemmas.List.{get_or_append_left, get_or_push, length-replicate}
use Rattle.std.proofs.lemmas.Option.{same_Some, slice_get-get_or}
use Rattle.mr_set.specs.Elements.{numbers_below}
use Rattle.mr_frame.specs.Frame.{Framed, IsFrame}
use Rattle.mr_nogood.specs.declared.row.Row.{Row}
use Rattle.mr_nogood.specs.Follows.{Rows, in_slots}
use Rattle.mr_exchange.specs.declared.ticket.Ticket.{Ticket}
use Rattle.mr_exchange.specs.declared.problem.Problem.{Problem}
use Rattle.mr_exchange.specs.declared.TheConstants.{LOOKS, NODES, SHORT}
use Rattle.mr_exchange.specs.declared.event.Event.{Event}
use Rattle.mr_exchange.specs.declared.event.Event.TheVariants.{Claim, OpenNode, LookAt, Publish}
use Rattle.mr_exchange.specs.declared.event.Look.{Look}
use Rattle.mr_exchange.specs.declared.event.Look.TheVariants.{Long, Short}
use Rattle.mr_exchange.specs.Cubes.{IsProblemOf}
use Rattle.mr_exchange.specs.State.{Pass, State, new_state, pass_at, IsLive, slots_of, latest_of, head_at, pair_count, known_rows}
use Rattle.mr_exchange.specs.Events.{IsAllowedEvent, MayClaim, MayOpen, MayLook, MayPublish, state_after, looked, published, seen, with_row}
use Rattle.mr_exchange.specs.Facts.{PassFacts, IsWhole}
use Rattle.mr_exchange.specs.Board.{new_holding, MayHave, going_on, Holding, holding_of, BoardFacts, CanOpen, CanPublish, Claimed, Opened, Looked, Published}
use Rattle.mr_exchange.specs.Closed.{closed_is, IsShown}
use Rattle.mr_exchange.specs.Plain.{PlainIs, plain_is, plain_holding, IsPlainPass}
use Rattle.mr_exchange.specs.Private.Plain.{whole_in, IsPlain}
use Rattle.mr_exchange.proofs.Lookups.{slots_of-append}
use Rattle.mr_exchange.proofs.OnePass.{passes_have_facts, length-numbers_below}
use Rattle.mr_exchange.proofs.Totals.{eq_cases}
use Rattle.mr_exchange.proofs.Runs.{new_states_are_sound, allowed_events_keep_soundness}
use Rattle.mr_exchange.proofs.Holdings.{known_there, unknown_empty, facts_of, changed, le_cases, unknown_there, may_open, may_publish}

-- where a pass knows each slot that has a row, it knows all the rows
all_known : (s : State) (p : Pass) → ((slot : ℕ) → IsSome (s.rows slot) → Contains p.known slot) → (slot : ℕ) → known_rows s p slot ≡ s.rows slot
all_known s p knows slot = read (s.rows slot) refl
  where
    read : (o : Option Row) → s.rows slot ≡ o → known_rows s p slot ≡ s.rows slot
    read None e = unknown_empty s p slot e ∙ sym e
    read (Some row) e = known_there s p slot (knows slot (subst IsSome (sym e) refl))

module _ (p : PlainIs) (i : IsPlain p) where
  -- its pass is live
  live : IsLive i.state 0
  live = i.sound.passes.first

  -- its frame is one
  of_frame : IsFrame i.state.frame
  of_frame = subst IsFrame (sym (ap (λ (h : Holding). h.frame) i.is)) i.frame

  -- its problem is one of it
  of_problem : IsProblemOf i.state.frame i.state.problem
  of_problem = subst (λ (h : Holding). IsProblemOf h.frame h.problem) (sym i.is) i.problem

  -- what holds of its pass
  of_pass : PassFacts i.state (pass_at i.state 0)
  of_pass = passes_have_facts i.state 0 of_frame i.sound live

  -- it has the whole
  whole : IsWhole i.state (pass_at i.state 0)
  whole = of_pass.whole (i.sound.passes.numbers 0 live) (ap (λ (joined : List ℕ). 1 + length joined) i.alone ∙ sym i.one)

  -- what it has and knows is what its pass has and knows
  pub holds : holding_of i.state 0 ≡ plain_holding p
  holds = ap (λ (rows : Rows). record (holding_of i.state 0) { known = rows }) (fun_ext (all_known i.state (pass_at i.state 0) (λ slot. (whole.rows slot).0))) ∙ i.is

  -- what may be rested on
  pub plain_facts : BoardFacts (plain_holding p)
  plain_facts = subst BoardFacts holds (facts_of i.state 0 of_frame of_problem i.sound live i.alone)

  -- its numbers are in order
  pub plain_order : IsPlainPass (plain_holding p)
  plain_order =
      let cubes : length (pass_at i.state 0).cubes ≡ length p.cubes = ap (λ (h : Holding). length h.cubes) i.is in
      let tickets : length (pass_at i.state 0).tickets ≡ length p.tickets = ap (λ (h : Holding). length h.tickets) i.is in record {
        cubes = i.cubes;
        all_cubes = subst (λ (h : Holding). 0 < h.claim_ends → length h.cubes ≡ h.problem.cubes) i.is whole.claim_end;
        tickets = i.tickets;
        all_tickets = subst (λ (h : Holding). 0 < h.ticket_ends → length h.tickets ≡ h.problem.nodes) i.is whole.ticket_end;
      }

  -- how many cubes it has
  claimed_is : length p.cubes ≡ min i.state.claim p.problem.cubes
  claimed_is = subst (λ (h : Holding). length h.cubes ≡ min i.state.claim h.problem.cubes) i.is whole.claimed

  -- how many tickets it has
  opened_is : length p.tickets ≡ min i.state.ticket p.problem.nodes
  opened_is = subst (λ (h : Holding). length h.tickets ≡ min i.state.ticket h.problem.nodes) i.is whole.opened

  -- an event leads to such a board again
  next : (q : PlainIs) (e : Event) (w : Pass) → IsAllowedEvent i.state e → pass_at (state_after i.state e) 0 ≡ w → w.joined ≡ [] → w.made ≡ 1 → whole_in (state_after i.state e) w ≡ plain_holding q
      → q.frame ≡ p.frame → q.problem ≡ p.problem → length q.rows ≡ q.problem.nodes → q.cubes ≡ numbers_below (length q.cubes) → slots_of q.tickets ≡ numbers_below (length q.tickets) → IsPlain q
  next q e w may is alone one same frame problem size cubes tickets = record {
    state = state_after i.state e;
    sound = allowed_events_keep_soundness i.state e i.sound may;
    alone = ap (λ (x : Pass). x.joined) is ∙ alone;
    one = ap (λ (x : Pass). x.made) is ∙ one;
    is = ap (λ (x : Pass). whole_in (state_after i.state e) x) is ∙ same;
    frame = subst IsFrame (sym frame) i.frame;
    problem = subst (λ (f : Framed). IsProblemOf f q.problem) (sym frame) (subst (λ (x : Problem). IsProblemOf p.frame x) (sym problem) i.problem);
    size = size;
    cubes = cubes;
    tickets = tickets;
  }

-- a new number in order
push_in_order : (xs : List ℕ) (n : ℕ) → n ≡ length xs → xs ≡ numbers_below (length xs) → xs ++ n ∷ [] ≡ numbers_below (length (xs ++ n ∷ []))
push_in_order xs n is order =
    let long : length (xs ++ n ∷ []) ≡ suc (length xs) = omega (arith, length-append xs (n ∷ [])) in
    ap (λ (m : ℕ). xs ++ m ∷ []) is ∙ ap (λ (ys : List ℕ). ys ++ length xs ∷ []) order ∙ sym (ap numbers_below long)

-- a claim that finds a cube
pub claims_cube : (p : PlainIs) → IsPlain p → p.claim_ends ≡ 0 → length p.cubes < p.problem.cubes → IsPlain (record p { cubes = p.cubes ++ length p.cubes ∷ [] })
claims_cube p i none lt =
    let s = i.state in
    let n = length p.cubes in
    let cubes_are : s.problem.cubes ≡ p.problem.cubes = ap (λ (h : Holding). h.problem.cubes) i.is in
    let word : s.claim ≡ n = (let a = claimed_is p i in omega arith) in
    let may : MayClaim s 0 = record { live = live p i; no_end = ap (λ (h : Holding). h.claim_ends) i.is ∙ none } in
    let w = record (pass_at s 0) { cubes = (pass_at s 0).cubes ++ s.claim ∷ [] } in
    let found : pass_at (state_after s (Claim 0)) 0 ≡ w = changed s 0 _ (live p i) ∙ ap (λ (b : Bool). if b then w else record (pass_at s 0) { claim_ends = (pass_at s 0).claim_ends + 1 }) (lt-ltb s.claim s.problem.cubes (omega arith)) in
    next p i (record p { cubes = p.cubes ++ n ∷ [] }) (Claim 0) w may found i.alone i.one
    (ap (λ (h : Holding). record h { cubes = h.cubes ++ s.claim ∷ [] }) i.is ∙ ap (λ (m : ℕ). record (plain_holding p) { cubes = p.cubes ++ m ∷ [] }) word)
    refl refl i.size (push_in_order p.cubes n refl i.cubes) i.tickets

-- a claim that finds none
pub claims_none : (p : PlainIs) → IsPlain p → p.claim_ends ≡ 0 → p.problem.cubes ≤ length p.cubes → IsPlain (record p { claim_ends = p.claim_ends + 1 })
claims_none p i none le =
    let s = i.state in
    let cubes_are : s.problem.cubes ≡ p.problem.cubes = ap (λ (h : Holding). h.problem.cubes) i.is in
    let past : s.problem.cubes ≤ s.claim = (let a = claimed_is p i in omega arith) in
    let may : MayClaim s 0 = record { live = live p i; no_end = ap (λ (h : Holding). h.claim_ends) i.is ∙ none } in
    let w = record (pass_at s 0) { claim_ends = (pass_at s 0).claim_ends + 1 } in
    let found : pass_at (state_after s (Claim 0)) 0 ≡ w = changed s 0 _ (live p i) ∙ ap (λ (b : Bool). if b then record (pass_at s 0) { cubes = (pass_at s 0).cubes ++ s.claim ∷ [] } else w) (le-ltb s.claim s.problem.cubes past) in
    next p i (record p { claim_ends = p.claim_ends + 1 }) (Claim 0) w may found i.alone i.one (ap (λ (h : Holding). record h { claim_ends = h.claim_ends + 1 }) i.is) refl refl i.size i.cubes i.tickets

-- no cube from their count on is the board's
pub new_cube : (p : PlainIs) → IsPlain p → Contains p.cubes (length p.cubes) → ⊥
new_cube p i has = let a = (whole p i).cubes (length p.cubes) in let cubes : (pass_at i.state 0).cubes ≡ p.cubes = ap (λ (h : Holding). h.cubes) i.is in
    (let b = a.0 (subst (λ (xs : List ℕ). Contains xs (length p.cubes)) (sym cubes) has) in let c = ap length cubes in omega arith)

-- what the board's pass needs for an opening
opens : (p : PlainIs) (i : IsPlain p) (node : List ℕ) → CanOpen (plain_holding p) node → MayOpen i.state 0 node
opens p i node can = (may_open i.state 0 node (live p i) i.alone).1 (subst (λ (h : Holding). CanOpen h node) (sym (holds p i)) can)

-- the slots of one ticket more
slots_in_order : (tickets : List Ticket) (node : List ℕ) → slots_of tickets ≡ numbers_below (length tickets)
    → slots_of (tickets ++ record { slot = length tickets; node = node } ∷ []) ≡ numbers_below (length (tickets ++ record { slot = length tickets; node = node } ∷ []))
slots_in_order tickets node order =
    let t : Ticket = record { slot = length tickets; node = node } in
    let long : length (tickets ++ t ∷ []) ≡ suc (length tickets) = omega (arith, length-append tickets (t ∷ [])) in
    slots_of-append tickets (t ∷ []) ∙ ap (λ (ys : List ℕ). ys ++ length tickets ∷ []) order ∙ sym (ap numbers_below long)

-- an opening that finds a ticket
pub opens_node : (p : PlainIs) → IsPlain p → (node : List ℕ) → CanOpen (plain_holding p) node → length p.tickets < p.problem.nodes → IsPlain (record p { tickets = p.tickets ++ record { slot = length p.tickets; node = node } ∷ [] })
opens_node p i node can lt =
    let s = i.state in
    let n = length p.tickets in
    let nodes_are : s.problem.nodes ≡ p.problem.nodes = ap (λ (h : Holding). h.problem.nodes) i.is in
    let word : s.ticket ≡ n = (let a = opened_is p i in omega arith) in
    let w = record (pass_at s 0) { tickets = (pass_at s 0).tickets ++ record { slot = s.ticket; node = node } ∷ [] } in
    let found : pass_at (state_after s (OpenNode 0 node)) 0 ≡ w = changed s 0 _ (live p i) ∙ ap (λ (b : Bool). if b then w else record (pass_at s 0) { ticket_ends = (pass_at s 0).ticket_ends + 1 }) (lt-ltb s.ticket s.problem.nodes (omega arith)) in
    next p i (record p { tickets = p.tickets ++ record { slot = n; node = node } ∷ [] }) (OpenNode 0 node) w (opens p i node can) found i.alone i.one
    (ap (λ (h : Holding). record h { tickets = h.tickets ++ record { slot = s.ticket; node = node } ∷ [] }) i.is ∙ ap (λ (m : ℕ). record (plain_holding p) { tickets = p.tickets ++ record { slot = m; node = node } ∷ [] }) word)
    refl refl i.size i.cubes (slots_in_order p.tickets node i.tickets)

-- an opening that finds none
pub opens_none : (p : PlainIs) → IsPlain p → (node : List ℕ) → CanOpen (plain_holding p) node → p.problem.nodes ≤ length p.tickets → IsPlain (record p { ticket_ends = p.ticket_ends + 1 })
opens_none p i node can le =
    let s = i.state in
    let nodes_are : s.problem.nodes ≡ p.problem.nodes = ap (λ (h : Holding). h.problem.nodes) i.is in
    let past : s.problem.nodes ≤ s.ticket = (let a = opened_is p i in omega arith) in
    let w = record (pass_at s 0) { ticket_ends = (pass_at s 0).ticket_ends + 1 } in
    let found : pass_at (state_after s (OpenNode 0 node)) 0 ≡ w = changed s 0 _ (live p i) ∙ ap (λ (b : Bool). if b then record (pass_at s 0) { tickets = (pass_at s 0).tickets ++ record { slot = s.ticket; node = node } ∷ [] } else w) (le-ltb s.ticket s.problem.nodes past) in
    next p i (record p { ticket_ends = p.ticket_ends + 1 }) (OpenNode 0 node) w (opens p i node can) found i.alone i.one (ap (λ (h : Holding). record h { ticket_ends = h.ticket_ends + 1 }) i.is) refl refl i.size i.cubes i.tickets

-- the numbers of the tickets are those below their count
ticket_low : (p : PlainIs) → IsPlain p → (t : ℕ) → Contains (slots_of p.tickets) t → t < length p.tickets
ticket_low p i t has =
    let tickets : (pass_at i.state 0).tickets ≡ p.tickets = ap (λ (h : Holding). h.tickets) i.is in
    let a = ((whole p i).tickets t).0 (subst (λ (xs : List Ticket). Contains (slots_of xs) t) (sym tickets) has) in
    let b = ap (λ (xs : List Ticket). length xs) tickets in
    omega arith

-- a slot from their count on has no row
row_low : (p : PlainIs) → IsPlain p → (slot : ℕ) → length p.tickets ≤ slot → in_slots p.rows slot ≡ None
row_low p i slot past =
    let s = i.state in
    sym (ap (λ (h : Holding). h.known slot) (holds p i))
    ∙ unknown_there s (pass_at s 0) slot (λ has. let a = (of_pass p i).drawn slot has in let b = opened_is p i in let nodes_are = ap (λ (h : Holding). h.problem.nodes) i.is in omega arith)

-- the slot of the latest ticket is the last number
pub latest_is : (p : PlainIs) → IsPlain p → p.tickets ≢ [] → latest_of p.tickets ≡ length p.tickets - 1
latest_is p i some = at_last p.tickets some i.tickets
  where
    number_at : (n k : ℕ) → k < n → get_or (numbers_below n) k 0 ≡ k
    number_at zero k lt = absurd (omega arith)
    number_at (suc n) k lt = ⊎_elim
        (λ (below : k < n). get_or_append_left (numbers_below n) (n ∷ []) 0 k (omega (arith, length-numbers_below n)) ∙ number_at n k below)
        (λ (past : n ≤ k). (let e : k ≡ n = omega arith in get_or_push (numbers_below n) n 0 k (omega (arith, length-numbers_below n)) ∙ sym e))
        (cases_lt k n)

    at_last : (tickets : List Ticket) → tickets ≢ [] → slots_of tickets ≡ numbers_below (length tickets) → latest_of tickets ≡ length tickets - 1
    at_last [] some order = absurd (some refl)
    at_last (t ∷ ts) some order = ap (λ (xs : List ℕ). get_or xs (length (t ∷ ts) - 1) 0) order ∙ number_at (length (t ∷ ts)) (length (t ∷ ts) - 1) (omega arith)

-- what a slot has is told by what stands at its place
same_slot : (xs ys : List (Option Row)) (j k : ℕ) → slice_get xs j ≡ slice_get ys k → in_slots xs j ≡ in_slots ys k
same_slot xs ys j k e = rw e refl

-- what stands at the other places of a list after a change
slice_get-set_other : {A : Type 0} (xs : List A) (k j : ℕ) (x : A) → j ≢ k → slice_get (set xs k x) j ≡ slice_get xs j
slice_get-set_other [] k j x n = refl
slice_get-set_other (y ∷ ys) zero zero x n = absurd (n refl)
slice_get-set_other (y ∷ ys) zero (suc j) x n = refl
slice_get-set_other (y ∷ ys) (suc k) zero x n = refl
slice_get-set_other (y ∷ ys) (suc k) (suc j) x n = slice_get-set_other ys k j x (λ e. n (ap suc e))

-- a slot whose place has a row has that row
pub slot_has : (xs : List (Option Row)) (k : ℕ) (found : Option Row) → slice_get xs k ≡ Some found → in_slots xs k ≡ found
slot_has xs k found e = rw e refl

-- the rows with one more
pub in_slots-set : (rows : List (Option Row)) (slot : ℕ) (row : Row) → slot < length rows → (other : ℕ) → in_slots (set rows slot (Some row)) other ≡ with_row (in_slots rows) slot row other
in_slots-set rows slot row lt other = eq_cases other slot (λ b. in_slots (set rows slot (Some row)) other ≡ (if b then Some row else in_slots rows other))
    (λ e. ap (in_slots (set rows slot (Some row))) e ∙ slot_has (set rows slot (Some row)) slot (Some row)
    (slice_get-get_or (set rows slot (Some row)) slot None (omega (arith, length-set rows slot (Some row))) ∙ ap Some (get_or-set_same rows slot (Some row) None lt)))
    (λ n. same_slot (set rows slot (Some row)) rows other other (slice_get-set_other rows slot other (Some row) n))

-- a board after a look at the slot at its cursor
abbrev pub looked_on : PlainIs → PlainIs
looked_on p = record p {
  looks = min (p.looks + 1) (LOOKS * p.problem.nodes);
  last_head = head_at (in_slots p.rows p.cursor);
  cursor = if p.cursor == latest_of p.tickets then 0 else p.cursor + 1;
}

-- what its pass has and knows after it, where it knew all the rows before
abbrev going : Holding → Rows → Holding
going h rows = record h {
  looks = min (h.looks + 1) (LOOKS * h.problem.nodes);
  last_head = head_at (rows h.cursor);
  cursor = if h.cursor == latest_of h.tickets then 0 else h.cursor + 1;
  known = rows;
}

-- a look leaves such a board
pub looks_on : (p : PlainIs) → IsPlain p → p.tickets ≢ [] → IsPlain (looked_on p)
looks_on p i some =
    let s = i.state in
    let may : MayLook s 0 = record { live = live p i; alone = i.alone; some_ticket = subst (λ (h : Holding). h.tickets ≢ []) (sym i.is) some } in
    next p i (looked_on p) (LookAt 0) (looked s.problem.nodes s.rows (pass_at s 0)) may (changed s 0 _ (live p i)) i.alone i.one
    (ap (λ (h : Holding). going h h.known) i.is) refl refl i.size i.cubes i.tickets

-- a row that is known is no new one
with_row-known : (rows : Rows) (slot : ℕ) (row : Row) → rows slot ≡ Some row → (other : ℕ) → rows other ≡ with_row rows slot row other
with_row-known rows slot row there other = eq_cases other slot (λ b. rows other ≡ (if b then Some row else rows other)) (λ e. ap rows e ∙ there) (λ n. refl)

-- and it is one of a board's
pub look_sees : (p : PlainIs) → Looked (plain_holding p) (seen p.cursor (in_slots p.rows p.cursor)) (plain_holding (looked_on p))
look_sees p = read (in_slots p.rows p.cursor) refl
  where
    read : (o : Option Row) → in_slots p.rows p.cursor ≡ o → Looked (plain_holding p) (seen p.cursor o) (record (going_on o (plain_holding p)) { known = in_slots p.rows })
    read None e = (e, refl)
    read (Some row) e =
        let h = plain_holding p in
        let there : MayHave h row = record { same = λ known is. same_Some known row (sym is ∙ e); own = λ own. e } in
        le_cases (pair_count row.clause) SHORT (λ b. Looked h (if b then Short p.cursor row else Long) (going_on (Some row) h))
        (λ le. record { place = refl; there = there; short = le; is = ap (λ (rows : Rows). record (going_on (Some row) h) { known = rows }) (fun_ext (with_row-known (in_slots p.rows) p.cursor row e)) })
        (λ lt. record { row = row; there = there; long = lt; is = refl })

-- a slot of the board's is one of its rows
pub own_slot : (p : PlainIs) → IsPlain p → (slot : ℕ) (row : Row) → CanPublish (plain_holding p) slot row → slot < length p.rows
own_slot p i slot row can = let a = (plain_facts p i).tickets slot can.own in let b = i.size in omega arith

-- a publication leaves such a board
pub publishes : (p : PlainIs) → IsPlain p → (slot : ℕ) (row : Row) → CanPublish (plain_holding p) slot row → IsPlain (record p { rows = set p.rows slot (Some row) })
publishes p i slot row can =
    let s = i.state in
    let may : MayPublish s 0 slot row = (may_publish s 0 slot row (of_pass p i) (live p i)).1 (subst (λ (h : Holding). CanPublish h slot row) (sym (holds p i)) can) in
    let rows : (other : ℕ) → with_row (in_slots p.rows) slot row other ≡ in_slots (set p.rows slot (Some row)) other = λ other. sym (in_slots-set p.rows slot row (own_slot p i slot row can) other) in
    next p i (record p { rows = set p.rows slot (Some row) }) (Publish 0 slot row) (published slot (pass_at s 0)) may (changed s 0 (published slot (pass_at s 0)) (live p i)) i.alone i.one
    (ap (λ (h : Holding). record h { known = with_row h.known slot row }) i.is ∙ ap (λ (known : Rows). record (plain_holding p) { known = known }) (fun_ext rows))
    refl refl (length-set p.rows slot (Some row) ∙ i.size) i.cubes i.tickets

-- and it is one of a board's
pub publish_tells : (p : PlainIs) → IsPlain p → (slot : ℕ) (row : Row) → CanPublish (plain_holding p) slot row → Published (plain_holding p) slot row (plain_holding (record p { rows = set p.rows slot (Some row) }))
publish_tells p i slot row can = ap (λ (known : Rows). record (plain_holding p) { known = known }) (fun_ext (in_slots-set p.rows slot row (own_slot p i slot row can)))

-- there is no row in slots without rows
no_rows : (n slot : ℕ) → None ≡ in_slots (replicate n None) slot
no_rows zero slot = refl
no_rows (suc n) zero = refl
no_rows (suc n) (suc slot) = no_rows n slot

-- a new board
pub new_plain : (f : Framed) (problem : Problem) → IsFrame f → IsProblemOf f problem → IsPlain (plain_is f problem [] [] (replicate problem.nodes None) 0 0 0 0 0)
new_plain f problem frame is = record {
  state = new_state f problem 1;
  sound = new_states_are_sound f problem 1 (omega arith);
  alone = refl;
  one = refl;
  is = ap (λ (known : Rows). record (new_holding f problem) { known = known }) (fun_ext (no_rows problem.nodes));
  frame = frame;
  problem = is;
  size = length-replicate problem.nodes None;
  cubes = refl;
  tickets = refl;
}

-- it knows nothing
pub new_knows : (f : Framed) (problem : Problem) → plain_holding (plain_is f problem [] [] (replicate problem.nodes None) 0 0 0 0 0) ≡ new_holding f problem
new_knows f problem = ap (λ (known : Rows). record (new_holding f problem) { known = known }) (fun_ext (λ slot. sym (no_rows problem.nodes slot)))

-- what a board shows when it is closed
pub closes : (p : PlainIs) → IsPlain p → IsShown (closed_is p.frame p.problem (length p.tickets) (length p.cubes) p.rows)
closes p i = record {
  possible = i.problem;
  state = i.state;
  frame = ap (λ (h : Holding). h.frame) i.is;
  problem = ap (λ (h : Holding). h.problem) i.is;
  sound = i.sound;
  size = i.size;
  rows = λ slot. ap (λ (h : Holding). h.known slot) i.is;
  opened = opened_is p i;
  claimed = claimed_is p i;
}

-- the board after a claim that finds a cube
pub after_cube : (p : PlainIs) → IsPlain p → p.claim_ends ≡ 0 → (n : ℕ) (cubes : List ℕ) → n ≡ length p.cubes → n < p.problem.cubes → cubes ≡ p.cubes ++ n ∷ [] → IsPlain (record p { cubes = cubes })
after_cube p i none n cubes is lt more = subst (λ (xs : List ℕ). IsPlain (record p { cubes = xs })) (ap (λ (m : ℕ). p.cubes ++ m ∷ []) (sym is) ∙ sym more) (claims_cube p i none (omega arith))

-- and what its pass gained
pub gains_cube : (p : PlainIs) → IsPlain p → (n : ℕ) (cubes : List ℕ) → n ≡ length p.cubes → n < p.problem.cubes → cubes ≡ p.cubes ++ n ∷ [] → Claimed (plain_holding p) (Some n) (plain_holding (record p { cubes = cubes }))
gains_cube p i n cubes is lt more = record { low = lt; new = λ has. new_cube p i (subst (Contains p.cubes) is has); is = ap (λ (xs : List ℕ). record (plain_holding p) { cubes = xs }) more }

-- the board after an opening that finds a ticket
pub after_ticket : (p : PlainIs) → IsPlain p → (node : List ℕ) → CanOpen (plain_holding p) node → (n : ℕ) (tickets : List Ticket) → n ≡ length p.tickets → n < p.problem.nodes → tickets ≡ p.tickets ++ record { slot = n; node = node } ∷ []
    → IsPlain (record p { tickets = tickets })
after_ticket p i node can n tickets is lt more =
    subst (λ (xs : List Ticket). IsPlain (record p { tickets = xs })) (ap (λ (m : ℕ). p.tickets ++ record { slot = m; node = node } ∷ []) (sym is) ∙ sym more) (opens_node p i node can (omega arith))

-- and what its pass gained
pub gains_ticket : (p : PlainIs) → IsPlain p → (node : List ℕ) (n : ℕ) (tickets : List Ticket) → n ≡ length p.tickets → n < p.problem.nodes → tickets ≡ p.tickets ++ record { slot = n; node = node } ∷ []
    → Opened (plain_holding p) node (Some n) (plain_holding (record p { tickets = tickets }))
gains_ticket p i node n tickets is lt more = record {
  low = lt;
  above = λ t has. (let a = ticket_low p i t has in omega arith);
  unknown = row_low p i n (omega arith);
  is = ap (λ (xs : List Ticket). record (plain_holding p) { tickets = xs }) more;
}

-- the board after a publication
pub after_row : (p : PlainIs) → IsPlain p → (slot : ℕ) (row : Row) → CanPublish (plain_holding p) slot row → (rows : List (Option Row)) → rows ≡ set p.rows slot (Some row) → IsPlain (record p { rows = rows })
after_row p i slot row can rows is = subst (λ (xs : List (Option Row)). IsPlain (record p { rows = xs })) (sym is) (publishes p i slot row can)

-- and what its pass knows then
pub knows_row : (p : PlainIs) → IsPlain p → (slot : ℕ) (row : Row) → CanPublish (plain_holding p) slot row → (rows : List (Option Row)) → rows ≡ set p.rows slot (Some row) → Published (plain_holding p) slot row (plain_holding (record p { rows = rows }))
knows_row p i slot row can rows is = ap (λ (xs : List (Option Row)). plain_holding (record p { rows = xs })) is ∙ publish_tells p i slot row can

-- the board after a look, by the parts that the look changed
module _ (p : PlainIs) (i : IsPlain p) (some : p.tickets ≢ []) (found : Option Row) (there : found ≡ in_slots p.rows p.cursor) (looks head cursor latest : ℕ) (more : looks ≡ min (p.looks + 1) (LOOKS * p.problem.nodes)) (loaded : head ≡ head_at found)
    (last : latest ≡ length p.tickets - 1) (moved : cursor ≡ (if p.cursor == latest then 0 else p.cursor + 1)) where
  -- it is the one that the look leaves
  looked_is : record p { looks = looks; last_head = head; cursor = cursor } ≡ looked_on p
  looked_is =
      ap (λ (n : ℕ). record p { looks = n; last_head = head; cursor = cursor }) more
      ∙ ap (λ (n : ℕ). record p { looks = min (p.looks + 1) (LOOKS * p.problem.nodes); last_head = n; cursor = cursor }) (loaded ∙ ap head_at there)
      ∙ ap (λ (n : ℕ). record p { looks = min (p.looks + 1) (LOOKS * p.problem.nodes); last_head = head_at (in_slots p.rows p.cursor); cursor = n }) (moved ∙ ap (λ (l : ℕ). if p.cursor == l then 0 else p.cursor + 1) (last ∙ sym (latest_is p i some)))

  -- so it is such a board
  pub after_look : IsPlain (record p { looks = looks; last_head = head; cursor = cursor })
  after_look = subst IsPlain (sym looked_is) (looks_on p i some)

  -- and this is what the look showed
  pub sees : (look : Look) → look ≡ seen p.cursor found → Looked (plain_holding p) look (plain_holding (record p { looks = looks; last_head = head; cursor = cursor }))
  sees look is = subst (λ (q : PlainIs). Looked (plain_holding p) look (plain_holding q)) (sym looked_is) (subst (λ (l : Look). Looked (plain_holding p) l (plain_holding (looked_on p))) (sym (is ∙ ap (seen p.cursor) there)) (look_sees p))

-- so it shows these numbers
pub shows : (p : PlainIs) → IsPlain p → (opened claimed : ℕ) → opened ≡ length p.tickets → claimed ≡ length p.cubes → IsShown (closed_is p.frame p.problem opened claimed p.rows)
shows p i opened claimed a b = subst (λ (n : ℕ). IsShown (closed_is p.frame p.problem n claimed p.rows)) (sym a) (subst (λ (n : ℕ). IsShown (closed_is p.frame p.problem (length p.tickets) n p.rows)) (sym b) (closes p i))

-- the parts of a new board
module _ (f : Framed) (problem : Problem) (cubes : List ℕ) (tickets : List Ticket) (rows : List (Option Row)) (a : cubes ≡ []) (b : tickets ≡ []) (c : rows ≡ replicate problem.nodes None) where
  -- they are such
  new_is : plain_is f problem [] [] (replicate problem.nodes None) 0 0 0 0 0 ≡ plain_is f problem cubes tickets rows 0 0 0 0 0
  new_is = sym (ap (λ (xs : List ℕ). plain_is f problem xs tickets rows 0 0 0 0 0) a ∙ ap (λ (xs : List Ticket). plain_is f problem [] xs rows 0 0 0 0 0) b ∙ ap (λ (xs : List (Option Row)). plain_is f problem [] [] xs 0 0 0 0 0) c)

  -- it is a board
  pub is_new : IsFrame f → IsProblemOf f problem → IsPlain (plain_is f problem cubes tickets rows 0 0 0 0 0)
  is_new frame is = subst IsPlain new_is (new_plain f problem frame is)

  -- that has and knows nothing
  pub new_has : plain_holding (plain_is f problem cubes tickets rows 0 0 0 0 0) ≡ new_holding f problem
  new_has = ap plain_holding (sym new_is) ∙ new_knows f problem

-- the slot at the cursor is no further than the latest
pub cursor_low : (p : PlainIs) → IsPlain p → p.tickets ≢ [] → (n : ℕ) → n ≡ length p.tickets → p.cursor ≤ n - 1
cursor_low p i some n is = let a = (plain_facts p i).turn.place some in let b = latest_is p i some in omega arith

-- and the looks are no more than can be due
pub looks_low : (p : PlainIs) → IsPlain p → (p.problem.nodes ≤ NODES) × (p.looks ≤ LOOKS * p.problem.nodes)
looks_low p i =
    let of_nodes = ap (λ (x : Problem). x.nodes) i.problem.is in
    let few = i.problem.few_nodes in
    (omega arith, (plain_facts p i).looks)
