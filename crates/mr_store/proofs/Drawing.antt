-- A pass claims a cube, or opens a node.
use Rattle.std.proofs.Common.{◌≡◌, ℕ, ◌+◌, ◌%◌, ◌^◌, ◌<◌, ◌≤◌, ◌⊎◌, if◌then◌else◌, IsTrue, List, [], ◌∷◌, ◌++◌, set, slice_index, Option, Some, None, Contains, refl, sym, ap, ◌∙◌, inl, inr, ⊎_elim, subst, arith}
use mathlib.Core.Option.{some}
use mathlib.Core.Option as plain
use lib.ListN.{get_elem?}
use Rattle.std.specs.Prelude.{nat_lt}
use Rattle.std.proofs.lemmas.List.Elements.{Contains-append_left, Contains-push_cases}
use Rattle.atomic_table.specs.Table as table
use Rattle.atomic_table.specs.Table.{Me, Allows, step}
use Rattle.atomic_table.specs.Table.Act.{keeps}
use Rattle.mr_nogood.specs.declared.TheConstants.{ROW_WORDS}
use Rattle.mr_nogood.specs.declared.row.Row.{Row}
use Rattle.mr_nogood.specs.Follows.{Rows}
use Rattle.mr_exchange.specs.declared.ticket.Ticket.{Ticket}
use Rattle.mr_exchange.specs.declared.event.Event.TheVariants.{Claim, OpenNode}
use Rattle.mr_exchange.specs.declared.event.Reply.TheVariants.{Cube, Ticket as Drawn}
use Rattle.mr_exchange.specs.State.{Pass, State, pass_at, slots_of}
use Rattle.mr_exchange.specs.Events.{claimed, opened}
use Rattle.mr_exchange.specs.Sound.{IsSound}
use Rattle.mr_exchange.specs.Board.{Holding, holding_of, CanOpen}
use Rattle.mr_exchange.proofs.Totals.{lt_cases}
use Rattle.mr_exchange.proofs.Lookups.{slots_of-append}
use Rattle.mr_exchange.proofs.Holdings.{may_open}
use Rattle.mr_store.specs.Seats.{Setting, Seen, find, or_zero, word_at, holding_seen, view_claimed, view_opened}
use Rattle.mr_store.specs.Shown.{shown, rows_in_words, IsTied, Holds}
use Rattle.mr_store.specs.Steps.{Claims, Opens}
use Rattle.mr_store.specs.Kinds.{ClaimsAreEvents, OpeningsAreEvents}
use Rattle.mr_store.proofs.Finding.{option_cases, same_place}
use Rattle.mr_store.proofs.Showing.{passes_set, pass_here, live_here, number_here, tied_here, setting_here, facts_here, shown_here, holding_shown, happened}
use Rattle.mr_store.proofs.Raising.{raised, raised_word, raised_other, raised_rows, raised_sound, raised_holds}
use Rattle.mr_store.proofs.Tying.{set_there, tied_pass, tied_word, tie, low_rows, low_words}

-- a claim leaves all of a pass but its cubes and its claim ends
claimed_keeps : (cubes word : ℕ) (p : Pass) → let q : Pass = claimed cubes word p in (q.known ≡ p.known) × (q.tickets ≡ p.tickets) × (q.live ≡ p.live)
claimed_keeps cubes word p =
    lt_cases word cubes (λ b. let q : Pass = if b then record p { cubes = p.cubes ++ word ∷ [] } else record p { claim_ends = p.claim_ends + 1 } in (q.known ≡ p.known) × (q.tickets ≡ p.tickets) × (q.live ≡ p.live))
    (λ _. (refl, refl, refl)) (λ _. (refl, refl, refl))

-- a claim is the event of the seat's pass
pub claims_are_events : ClaimsAreEvents
claims_are_events g s id v h at live none =
    let word : ℕ = slice_index s.words 0 in
    let here = pass_here g s id v h at live in
    let passes_are = passes_set s.views id (view_claimed word v) (claimed g.problem.cubes word (pass_at (shown g s.words s.views) id)) (ap (claimed g.problem.cubes word) here ∙ ap (λ (x : Setting). claimed x.problem.cubes word v.pass) (setting_here g s id v h at live)) in record {
      allowed = record { live = live_here g s id v h at live; no_end = ap (λ (p : Pass). p.claim_ends) here ∙ none };
      next = λ k. record {
        frame = g.frame;
        problem = g.problem;
        limit = g.limit;
        claim = raised_word g s h 0 (omega arith) k;
        ticket = raised_other g s h 0 (omega arith) 1 (λ e. omega arith) k;
        passes = passes_are k;
        rows = raised_rows g s h 0 (omega arith) k;
      };
    }

-- a claim
pub claims : (g : Setting) (slots id : ℕ) (m : Me (Unit {0}) Seen) → IsTrue m.0.pass.live → m.0.pass.claim_ends ≡ 0 → Allows (Holds g) slots id m 0 (λ n. (n + 1) % 2 ^ 64) (Claims (step slots 0 1 0 plain.none) m)
claims g slots id m live none s h homes at fits =
    let v : Seen = m.0 in
    let word : ℕ = slice_index s.words 0 in
    let w : Seen = view_claimed word v in
    let views : List Seen = set s.views id w in
    let kept = claimed_keeps v.setting.problem.cubes word v.pass in
    let made = claims_are_events g s id v h at live none in
    let ticket_is = raised_other g s h 0 (omega arith) 1 (λ e. omega arith) in
    let mine : IsTied (shown g (raised s.words 0) views) (raised s.words 0) w = tied_word (shown g (raised s.words 0) views) (raised s.words 0) (record v { pass = w.pass }) word
    (tied_pass (shown g s.words s.views) (shown g (raised s.words 0) views) s.words (raised s.words 0) v w.pass kept.0 kept.1 refl (λ slot row e. ap (λ (rows : Rows). rows slot) (sym (raised_rows g s h 0 (omega arith))) ∙ e)
    (low_words s.words 0 ((word + 1) % 2 ^ 64) (omega arith)) (tied_here g s id v h at live)) in
    let rule = raised_holds g s h 0 (omega arith) id w (Claim id) made (omega arith) mine in
    let reply : Option ℕ = if nat_lt word v.setting.problem.cubes then Some word else None in (
      w,
      keeps,
      tt,
      rule,
      record {
        at = (refl, refl);
        is = refl;
        event = happened g s (record { words = raised s.words 0; homes = s.homes; views = views }) id v w (λ k. Claim k) (Cube reply) h at live rule (set_there s.views id v w at) (kept.2 ∙ live) made.allowed
            (ap (λ (x : Setting). Cube (if nat_lt word x.problem.cubes then Some word else None)) (setting_here g s id v h at live)) made.next (λ _ _ e. e) refl;
      },
    )

-- an opening leaves all of a pass but its tickets and its ticket ends
opened_keeps : (nodes word : ℕ) (node : List ℕ) (p : Pass) → (opened nodes word node p).live ≡ p.live
opened_keeps nodes word node p =
    lt_cases word nodes (λ b. (if b then record p { tickets = p.tickets ++ record { slot = word; node = node } ∷ [] } else record p { ticket_ends = p.ticket_ends + 1 }).live ≡ p.live) (λ _. refl) (λ _. refl)

-- an opening that finds this number in the ticket word
module _ (g : Setting) (s : table.State (Unit {0}) Seen) (id : ℕ) (v : Seen) (node : List ℕ) (n : ℕ) (h : Holds g s) (at : get_elem? s.views id ≡ some v) (live : IsTrue v.pass.live) where
  -- the ticket word
  abbrev word : ℕ
  word = slice_index s.words 1

  -- the words after the step
  abbrev words : List ℕ
  words = set s.words 1 n

  -- the ticket that is drawn
  abbrev t : Ticket
  t = record { slot = word; node = node }

  -- the tickets with it
  abbrev more : List Ticket
  more = v.pass.tickets ++ t ∷ []

  -- what the seat knows with this pass
  abbrev with : Pass → Seen
  with q = record v { pass = q; last_word = word }

  -- what the seat knows then
  abbrev w : Seen
  w = with (record v.pass { tickets = more })

  -- what it knew is so
  old : IsTied (shown g s.words s.views) s.words v
  old = tied_here g s id v h at live

  -- rows stay
  rows_kept : (slot : ℕ) (row : Row) → rows_in_words s.words slot ≡ Some row → rows_in_words words slot ≡ Some row
  rows_kept slot row e = ap (λ (rows : Rows). rows slot) (low_rows s.words 1 n (omega arith)) ∙ e

  -- a slot of its own stays one
  still : (slot : ℕ) → Contains (slots_of v.pass.tickets) slot → Contains (slots_of more) slot
  still slot own = subst (λ xs. Contains xs slot) (sym (slots_of-append v.pass.tickets (t ∷ []))) (Contains-append_left (slots_of v.pass.tickets) (word ∷ []) slot own)

  -- a slot of its own was one, or is the new one
  new_or_old : (slot : ℕ) → Contains (slots_of more) slot → Contains (slots_of v.pass.tickets) slot ⊎ (word ≡ slot)
  new_or_old slot own = Contains-push_cases (slots_of v.pass.tickets) word slot (subst (λ xs. Contains xs slot) (slots_of-append v.pass.tickets (t ∷ [])) own)

  -- nothing was stored in a slot that wasn't drawn
  unlaid : (j : ℕ) → j < ROW_WORDS → or_zero (find v.laid (word_at word j)) ≡ 0
  unlaid j lt = option_cases (find v.laid (word_at word j)) (or_zero (find v.laid (word_at word j)) ≡ 0) (λ e. ap or_zero e)
      (λ x e. (let o = old.own (word_at word j) x e in let high = o.behind.1 in
      let slot_is : word ≡ o.slot = (same_place word o.slot j o.j lt high o.at).0 in
      let low = (facts_here g s id v h at live).tickets o.slot o.own in absurd (omega arith)))

  -- behind the heads stand the words that it stored
  laid : (slot j : ℕ) → Contains (slots_of more) slot → 1 ≤ j → j < ROW_WORDS → slice_index words (word_at slot j) ≡ or_zero (find v.laid (word_at slot j))
  laid slot j own low high = low_words s.words 1 n (omega arith) slot j ∙ ⊎_elim (λ (mine : Contains (slots_of v.pass.tickets) slot). old.laid slot j mine low high)
      (λ (e : word ≡ slot). subst (λ x. slice_index s.words (word_at x j) ≡ or_zero (find v.laid (word_at x j))) e (h.tied.undrawn word j (omega arith) high ∙ sym (unlaid j high))) (new_or_old slot own)

  -- so what the seat knows with the new ticket is so
  drawn : IsSound (shown g words (set s.views id w)) → IsTied (shown g words (set s.views id w)) words w
  drawn sound = tie g words (set s.views id w) id w h.frame sound (set_there s.views id v w at) live (setting_here g s id v h at live)
      (λ slot row e. rows_kept slot row (old.found slot row e))
      (λ slot row e. rows_kept slot row (old.given slot row e))
      (λ slot knows. (let f = (old.known slot).0 knows in record { row = f.row; at = f.at; why = ⊎_elim (λ short. inl short) (λ own. inr (still slot own)) f.why }))
      (λ slot row e short. (old.known slot).1 (record { row = row; at = e; why = inl short }))
      laid
      (λ i x e. (let o = old.own i x e in record { slot = o.slot; j = o.j; at = o.at; behind = o.behind; own = still o.slot o.own }))

  -- what a seat knows after an opening is so
  pub opened_tied : (q : Pass) → q ≡ opened v.setting.problem.nodes word node v.pass → IsSound (shown g words (set s.views id (with q))) → IsTied (shown g words (set s.views id (with q))) words (with q)
  opened_tied = lt_cases word v.setting.problem.nodes
      (λ b. (q : Pass) → q ≡ (if b then record v.pass { tickets = v.pass.tickets ++ t ∷ [] } else record v.pass { ticket_ends = v.pass.ticket_ends + 1 }) → IsSound (shown g words (set s.views id (with q)))
      → IsTied (shown g words (set s.views id (with q))) words (with q))
      (λ lt q is sound. subst (λ (p : Pass). IsTied (shown g words (set s.views id (with p))) words (with p)) (sym is) (drawn (subst (λ (p : Pass). IsSound (shown g words (set s.views id (with p)))) is sound)))
      (λ le q is sound. subst (λ (p : Pass). IsTied (shown g words (set s.views id (with p))) words (with p)) (sym is)
      (let p : Pass = record v.pass { ticket_ends = v.pass.ticket_ends + 1 } in
      tied_word (shown g words (set s.views id (with p))) words (record v { pass = p }) word
      (tied_pass (shown g s.words s.views) (shown g words (set s.views id (with p))) s.words words v p refl refl refl rows_kept (low_words s.words 1 n (omega arith)) old)))

-- an opening is the event of the seat's pass
pub openings_are_events : OpeningsAreEvents
openings_are_events g s id v node h at live alone can =
    let st : State = shown g s.words s.views in
    let word : ℕ = slice_index s.words 1 in
    let here = pass_here g s id v h at live in
    let holding : holding_of st id ≡ holding_seen v = ap (holding_of st) (sym (number_here g s id v h at live)) ∙ holding_shown st v (shown_here g s id v h at live) in
    let passes_are = passes_set s.views id (view_opened word node v) (opened g.problem.nodes word node (pass_at st id)) (ap (opened g.problem.nodes word node) here ∙ ap (λ (x : Setting). opened x.problem.nodes word node v.pass) (setting_here g s id v h at live)) in record {
      allowed = (may_open st id node (live_here g s id v h at live) (ap (λ (p : Pass). p.joined) here ∙ alone)).1 (subst (λ (x : Holding). CanOpen x node) (sym holding) can);
      next = λ k. record {
        frame = g.frame;
        problem = g.problem;
        limit = g.limit;
        claim = raised_other g s h 1 (omega arith) 0 (λ e. omega arith) k;
        ticket = raised_word g s h 1 (omega arith) k;
        passes = passes_are k;
        rows = raised_rows g s h 1 (omega arith) k;
      };
    }

-- an opening
pub opens : (g : Setting) (slots id : ℕ) (m : Me (Unit {0}) Seen) (node : List ℕ) → IsTrue m.0.pass.live → m.0.pass.joined ≡ [] → CanOpen (holding_seen m.0) node → Allows (Holds g) slots id m 1 (λ n. (n + 1) % 2 ^ 64) (Opens node (step slots 1 1 0 plain.none) m)
opens g slots id m node live alone can s h homes at fits =
    let v : Seen = m.0 in
    let word : ℕ = slice_index s.words 1 in
    let w : Seen = view_opened word node v in
    let views : List Seen = set s.views id w in
    let made = openings_are_events g s id v node h at live alone can in
    let ticket_is = raised_word g s h 1 (omega arith) in
    let mine : IsTied (shown g (raised s.words 1) views) (raised s.words 1) w = opened_tied g s id v node ((word + 1) % 2 ^ 64) h at live w.pass refl (raised_sound g s h 1 (omega arith) views (OpenNode id node) made) in
    let rule = raised_holds g s h 1 (omega arith) id w (OpenNode id node) made (omega arith) mine in
    let reply : Option ℕ = if nat_lt word v.setting.problem.nodes then Some word else None in (
      w,
      keeps,
      tt,
      rule,
      record {
        at = (refl, refl);
        is = refl;
        event = happened g s (record { words = raised s.words 1; homes = s.homes; views = views }) id v w (λ k. OpenNode k node) (Drawn reply) h at live rule (set_there s.views id v w at) (opened_keeps v.setting.problem.nodes word node v.pass ∙ live) made.allowed
            (ap (λ (x : Setting). Drawn (if nat_lt word x.problem.nodes then Some word else None)) (setting_here g s id v h at live)) made.next (λ _ _ e. e) refl;
      },
    )
