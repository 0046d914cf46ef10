-- A pass stores the head of a row whose other words stand in a slot of its own.
use Rattle.std.proofs.Common.{◌≡◌, ◌≢◌, ℕ, ◌+◌, ◌<◌, ◌≤◌, if◌then◌else◌, IsTrue, List, map, length, set, slice_index, Some, None, Contains, refl, sym, ap, ◌∙◌, inl, inr, ⊎_elim, subst, arith, length-set, get_or-set_same}
use mathlib.Core.Option.{some}
use mathlib.Core.Option as plain
use lib.ListN.{get_elem?}
use native.Mathlib.Decide.{ℕ_discrete}
use Rattle.std.proofs.Math.Path.{fun_ext}
use Rattle.std.proofs.lemmas.Option.{none-some, same_Some}
use Rattle.atomic_table.specs.Table as table
use Rattle.atomic_table.specs.Table.{Me, Allows, step}
use Rattle.atomic_table.specs.Table.Act.{keeps}
use Rattle.mr_nogood.specs.declared.TheConstants.{ROW_WORDS}
use Rattle.mr_nogood.specs.declared.row.Row.{Row}
use Rattle.mr_nogood.specs.Row.{IsRow}
use Rattle.mr_nogood.specs.Follows.{Rows}
use Rattle.mr_nogood.specs.Packing.{row_packing, head_of}
use Rattle.mr_exchange.specs.declared.event.Event.TheVariants.{Publish}
use Rattle.mr_exchange.specs.declared.event.Reply.TheVariants.{Done}
use Rattle.mr_exchange.specs.State.{State, pass_at, slots_of}
use Rattle.mr_exchange.specs.Events.{MayPublish, published, knowing, with_row, state_after}
use Rattle.mr_exchange.specs.Sound.{IsSound}
use Rattle.mr_exchange.specs.Board.{Holding, holding_of, CanPublish}
use Rattle.mr_exchange.proofs.Totals.{eq_cases}
use Rattle.mr_exchange.proofs.Lookups.{knowing_this, knowing_more, knowing_cases}
use Rattle.mr_exchange.proofs.Rows.{among_more}
use Rattle.mr_exchange.proofs.RowWords.{length-packed, words_are as words_are_in}
use Rattle.mr_exchange.proofs.OnePass.{passes_have_facts}
use Rattle.mr_exchange.proofs.Runs.{allowed_events_keep_soundness}
use Rattle.mr_exchange.proofs.Holdings.{may_publish}
use Rattle.mr_store.specs.Seats.{Setting, Seen, find, or_zero, word_at, holding_seen, view_published}
use Rattle.mr_store.specs.Shown.{shown, slot_words, rows_in_words, IsTied, Holds}
use Rattle.mr_store.specs.Steps.{Publishes}
use Rattle.mr_store.specs.Kinds.{PublicationsAreEvents}
use Rattle.mr_store.proofs.Finding.{find_here, find_else, find_cases, find_in, in_cons, same_place, told_more, told_met}
use Rattle.mr_store.proofs.Words.{rows_of-packed, other_word}
use Rattle.mr_store.proofs.Showing.{passes_set, pass_here, live_here, number_here, tied_here, setting_here, shown_here, holding_shown, happened}
use Rattle.mr_store.proofs.Tying.{set_there, tie}
use Rattle.mr_store.proofs.Laying.{empty, drawn, there, elsewhere, claim_same, ticket_same, stored_tied}

-- The words behind the head of the slot are those of the row, and its head is stored.
module _ (g : Setting) (s : table.State (Unit {0}) Seen) (id : ℕ) (v : Seen) (h : Holds g s) (at : get_elem? s.views id ≡ some v) (live : IsTrue v.pass.live)
    (slot : ℕ) (row : Row) (can : CanPublish (holding_seen v) slot row) (good : IsRow row)
    (laid : (j : ℕ) → 1 ≤ j → j < ROW_WORDS → find v.laid (word_at slot j) ≡ Some (slice_index (row_packing row) j)) where
  -- the state that is shown
  abbrev before : State
  before = shown g s.words s.views

  -- the words after the step
  abbrev filled : List ℕ
  filled = set s.words (word_at slot 0) (head_of row)

  -- what the seat knows then
  abbrev w : Seen
  w = view_published slot row v

  -- a slot has a head
  some_words : 0 < ROW_WORDS
  some_words = omega arith

  -- it had no row
  free : rows_in_words s.words slot ≡ None
  free = empty g s id v h at live slot can.own can.empty 0 some_words (head_of row)

  -- its words are those of the row
  pub words_are : slot_words filled slot ≡ row_packing row
  words_are = sym (words_are_in filled (word_at slot 0) (row_packing row) (length-packed row good) room (λ j low. sym (word j low (ℕ_discrete j 0)) ∙ ap (slice_index filled) (let e : word_at slot j ≡ word_at slot 0 + j = omega arith in e)))
    where
      room : word_at slot 0 + ROW_WORDS ≤ length filled
      room =
          let c = length-set s.words (word_at slot 0) (head_of row) in
          let d = h.tied.size in
          let e = (drawn g s id v h at live slot can.own can.empty 0 some_words (head_of row)).1 in
          omega arith

      word : (j : ℕ) → j < ROW_WORDS → Dec (j ≡ 0) → slice_index filled (word_at slot j) ≡ slice_index (row_packing row) j
      word j low (yes e) = subst (λ x. slice_index filled (word_at slot x) ≡ slice_index (row_packing row) x) (sym e) (get_or-set_same s.words (word_at slot 0) (head_of row) 0 (there g s id v h at live slot can.own can.empty 0 some_words (head_of row)))
      word j low (no d) = other_word s.words (word_at slot 0) (head_of row) slot j (λ e. omega arith) ∙ (tied_here g s id v h at live).laid slot j can.own (omega arith) low ∙ ap or_zero (laid j (omega arith) low)

  -- so it has the row
  pub row_there : rows_in_words filled slot ≡ Some row
  row_there = rows_of-packed filled slot row good words_are

  -- the rows are those before, and this one
  pub rows_then : with_row (rows_in_words s.words) slot row ≡ rows_in_words filled
  rows_then = fun_ext (λ t. eq_cases t slot (λ b. (if b then Some row else rows_in_words s.words t) ≡ rows_in_words filled t)
      (λ e. sym (ap (rows_in_words filled) e ∙ row_there))
      (λ d. sym (elsewhere g s id v h at live slot can.own can.empty 0 some_words (head_of row) t d).0))

  -- rows stay
  stays : (t : ℕ) (r : Row) → rows_in_words s.words t ≡ Some r → rows_in_words filled t ≡ Some r
  stays t r e = ap (λ (rows : Rows). rows t) (sym rows_then) ∙ among_more (rows_in_words s.words) slot row free t r e

  -- the pass may publish it
  pub publish_may : MayPublish before id slot row
  publish_may =
      let holding : holding_of before id ≡ holding_seen v = ap (holding_of before) (sym (number_here g s id v h at live)) ∙ holding_shown before v (shown_here g s id v h at live) in
      (may_publish before id slot row (passes_have_facts before id h.frame h.sound (live_here g s id v h at live)) (live_here g s id v h at live)).1 (subst (λ (x : Holding). CanPublish x slot row) (sym holding) can)

  -- the state is the one after the publication
  pub publish_leads : state_after before (Publish id slot row) ≡ shown g filled (set s.views id w)
  publish_leads =
      let passes : set (map (λ (u : Seen). u.pass) s.views) id (published slot (pass_at before id)) ≡ map (λ (u : Seen). u.pass) (set s.views id w) = passes_set s.views id w (published slot (pass_at before id)) (ap (published slot) (pass_here g s id v h at live)) in
      let claim = claim_same g s id v h at live slot can.own can.empty 0 some_words (head_of row) in
      let ticket = ticket_same g s id v h at live slot can.own can.empty 0 some_words (head_of row) in
      λ k. record { frame = g.frame; problem = g.problem; limit = g.limit; claim = claim k; ticket = ticket k; passes = passes k; rows = rows_then k }

  -- what the seat knows then is so
  pub published_tied : IsSound (shown g filled (set s.views id w)) → IsTied (shown g filled (set s.views id w)) filled w
  published_tied sound = let old = tied_here g s id v h at live in
      tie g filled (set s.views id w) id w h.frame sound (set_there s.views id v w at) live (setting_here g s id v h at live)
      (λ t r e. ⊎_elim (λ (a : (slot ≡ t) × (row ≡ r)). ap (rows_in_words filled) (sym a.0) ∙ row_there ∙ ap (λ (x : Row). Some x) a.1) (λ (a : Contains v.found (t, r)). stays t r (old.found t r a)) (in_cons slot row v.found t r e))
      (λ t r e. stays t r (old.given t r e))
      (λ t knows. ⊎_elim (λ (k : Contains v.pass.known t). (let f = (old.known t).0 k in record { row = f.row; at = find_else slot t row v.found (λ e. none_there t f.row e (old.found t f.row (find_in v.found t f.row f.at))) ∙ f.at; why = f.why }))
      (λ (e : slot ≡ t). record { row = row; at = find_here slot t row v.found e; why = inr (subst (λ x. Contains (slots_of v.pass.tickets) x) e can.own) }) (knowing_cases slot v.pass.known t knows))
      (λ t r e short. ⊎_elim (λ (a : (slot ≡ t) × (row ≡ r)). subst (λ x. Contains (knowing slot v.pass.known) x) a.0 (knowing_this slot v.pass.known))
      (λ (a : (slot ≢ t) × (find v.found t ≡ Some r)). knowing_more slot v.pass.known t ((old.known t).1 (record { row = r; at = a.1; why = inl short }))) (find_cases slot t row r v.found e))
      (λ t k mine low high. other_word s.words (word_at slot 0) (head_of row) t k (λ e. let z = (same_place slot t 0 k some_words high e).1 in omega arith) ∙ old.laid t k mine low high)
      old.own
    where
      none_there : (t : ℕ) (r : Row) → slot ≡ t → rows_in_words s.words t ≡ Some r → ⊥
      none_there t r e has = none-some r (sym free ∙ ap (rows_in_words s.words) e ∙ has)

-- a store of the head
pub publishes : (g : Setting) (slots id : ℕ) (m : Me (Unit {0}) Seen) (slot : ℕ) (row : Row) → IsTrue m.0.pass.live → CanPublish (holding_seen m.0) slot row → IsRow row
    → ((j : ℕ) → 1 ≤ j → j < ROW_WORDS → find m.0.laid (word_at slot j) ≡ Some (slice_index (row_packing row) j))
    → Allows (Holds g) slots id m (word_at slot 0) (λ _. head_of row) (λ _. Publishes slot row (step slots (word_at slot 0) (head_of row) 0 plain.none) m (head_of row))
publishes g slots id m slot row live can good laid s h homes at fits =
    let v : Seen = m.0 in
    let w : Seen = view_published slot row v in
    let words : List ℕ = set s.words (word_at slot 0) (head_of row) in
    let st : State = shown g s.words s.views in
    let may = publish_may g s id v h at live slot row can good laid in
    let leads = publish_leads g s id v h at live slot row can good laid in
    let has = row_there g s id v h at live slot row can good laid in
    let sound : IsSound (shown g words (set s.views id w)) = subst IsSound leads (allowed_events_keep_soundness st (Publish id slot row) h.sound may) in
    let t : table.State (Unit {0}) Seen = record { words = words; homes = s.homes; views = set s.views id w } in
    let rule : Holds g t = record {
      frame = h.frame;
      problem = h.problem;
      limit = h.limit;
      sound = sound;
      tied = stored_tied g s id v h at live slot can.own can.empty 0 (omega arith) (head_of row) w (stays g s id v h at live slot row can good laid)
          (λ r e. (let same : row ≡ r = same_Some row r (sym has ∙ e) in (subst IsRow same good, words_are g s id v h at live slot row can good laid ∙ ap row_packing same)))
          (published_tied g s id v h at live slot row can good laid sound);
    } in
    (w, keeps, tt, rule, record { at = (refl, refl); is = refl; event = happened g s t id v w (λ k. Publish k slot row) Done h at live rule (set_there s.views id v w at) live may refl leads (told_more slot (Some row) v.found v.given) (told_met slot (Some row) v.found v.given row refl) })

-- it is the publication of the seat's pass
pub publications_are_events : PublicationsAreEvents
publications_are_events g s id v slot row h at live can good laid = record { allowed = publish_may g s id v h at live slot row can good laid; next = publish_leads g s id v h at live slot row can good laid }
