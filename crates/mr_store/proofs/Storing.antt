-- What the rule allows a seat that stores or loads the words of a slot, and what the seat knows then.
use Rattle.std.proofs.Common.{◌≡◌, ◌≢◌, ℕ, ◌+◌, ◌<◌, ◌≤◌, ◌==◌, if◌then◌else◌, IsTrue, List, [], length, set, get_or, slice_index, Option, Some, None, Contains, refl, sym, ap, ◌∙◌, ⊎_elim, subst, arith, get_or-set_same, get_or-set_other}
use mathlib.Core.Option as plain
use Rattle.std.proofs.lemmas.Bool.{cases_lt}
use Rattle.std.proofs.lemmas.Option.{same_Some}
use Rattle.std.proofs.lemmas.List.{ext_get_or}
use Rattle.atomic_table.specs.Table.{Me, Step, Allows, step}
use Rattle.atomic_table.specs.Seated.{TableId}
use Rattle.mr_nogood.specs.declared.TheConstants.{ROW_WORDS}
use Rattle.mr_nogood.specs.declared.row.Row.{Row}
use Rattle.mr_nogood.specs.Row.{IsRow}
use Rattle.mr_nogood.specs.Packing.{row_packing, head_of}
use Rattle.mr_nogood.proofs.Words.{rows_have_words_of_their_own}
use Rattle.mr_exchange.specs.declared.problem.Problem.{Problem}
use Rattle.mr_exchange.specs.declared.event.Event.TheVariants.{LookAt, Publish}
use Rattle.mr_exchange.specs.declared.event.Reply.TheVariants.{Seen as Looked, Done}
use Rattle.mr_exchange.specs.declared.event.Look.{Look}
use Rattle.mr_exchange.specs.State.{State, slots_of, latest_of, head_at}
use Rattle.mr_exchange.specs.Events.{IsAllowedEvent, seen, state_after, reply_of}
use Rattle.mr_exchange.specs.Board.{CanPublish}
use Rattle.mr_exchange.proofs.Totals.{eq_cases}
use Rattle.mr_exchange.proofs.RowWords.{length-packed}
use Rattle.mr_exchange.proofs.Steps.{latest_among}
use Rattle.mr_store.specs.Seats.{Setting, Seen, IsTold, find, word_at, known_of, holding_seen, view_looked}
use Rattle.mr_store.specs.Shown.{Holds}
use Rattle.mr_store.specs.Steps.{IsShownIn, Lays, Publishes, Looks, Reads}
use Rattle.mr_store.specs.Private.Laying.{HasRow, row_seen}
use Rattle.mr_store.specs.Cards.{IsEvent}
use Rattle.mr_store.specs.Private.Cards.{IsCard}
use Rattle.mr_store.proofs.Finding.{find_here}
use Rattle.mr_store.proofs.Laying.{lays}
use Rattle.mr_store.proofs.Publishing.{publishes}
use Rattle.mr_store.proofs.Looking.{looks}
use Rattle.mr_store.proofs.Cards.{card, card_facts, card_after, event_of}

-- a store of a word behind the head
pub lay_allowed : (g : Setting) (slots id : ℕ) (v : Seen) (m : Me (Unit {0}) Seen) (slot j n i : ℕ) → i ≡ word_at slot j → m.0 ≡ record v { laid = m.0.laid } → IsTrue v.pass.live → Contains (slots_of v.pass.tickets) slot → known_of v slot ≡ None → 1 ≤ j → j < ROW_WORDS
    → Allows (Holds g) slots id m i (λ _. n) (λ _. Lays (step slots i n 0 plain.none) m n)
lay_allowed g slots id v m slot j n i place same live own unknown behind lt =
    subst (λ k. Allows (Holds g) slots id m k (λ _. n) (λ _. Lays (step slots k n 0 plain.none) m n)) (sym place)
    (lays g slots id m slot j n (subst (λ (x : Seen). IsTrue x.pass.live) (sym same) live) (subst (λ (x : Seen). Contains (slots_of x.pass.tickets) slot) (sym same) own) (subst (λ (x : Seen). known_of x slot ≡ None) (sym same) unknown) behind lt)

-- a store of the head
pub publish_allowed : (g : Setting) (slots id : ℕ) (m : Me (Unit {0}) Seen) (slot place : ℕ) (row published : Row) (i head : ℕ) → slot ≡ place → row ≡ published → i ≡ word_at slot 0 → head ≡ head_of row → IsTrue m.0.pass.live → CanPublish (holding_seen m.0) slot row → IsRow row
    → ((j : ℕ) → 1 ≤ j → j < ROW_WORDS → find m.0.laid (word_at slot j) ≡ Some (slice_index (row_packing row) j)) → Allows (Holds g) slots id m i (λ _. head) (λ _. Publishes place published (step slots i head 0 plain.none) m head)
publish_allowed g slots id m slot place row published i head slot_is row_is at head_is live can good laid =
    subst (λ s. Allows (Holds g) slots id m i (λ _. head) (λ _. Publishes s published (step slots i head 0 plain.none) m head)) slot_is
    (subst (λ r. Allows (Holds g) slots id m i (λ _. head) (λ _. Publishes slot r (step slots i head 0 plain.none) m head)) row_is
    (subst (λ k. Allows (Holds g) slots id m k (λ _. head) (λ _. Publishes slot row (step slots k head 0 plain.none) m head)) (sym at)
    (subst (λ n. Allows (Holds g) slots id m (word_at slot 0) (λ _. n) (λ _. Publishes slot row (step slots (word_at slot 0) n 0 plain.none) m n)) (sym head_is)
    (publishes g slots id m slot row live can good laid))))

-- a load of the head at the cursor
pub look_allowed : (g : Setting) (slots id : ℕ) (m : Me (Unit {0}) Seen) (slot i : ℕ) → i ≡ word_at slot 0 → slot ≡ m.0.pass.cursor → IsTrue m.0.pass.live → m.0.pass.joined ≡ [] → m.0.pass.tickets ≢ [] → Allows (Holds g) slots id m i (λ n. n) (Looks (step slots i 0 0 plain.none) m)
look_allowed g slots id m slot i at here live alone some_ticket =
    subst (λ k. Allows (Holds g) slots id m k (λ n. n) (Looks (step slots k 0 0 plain.none) m)) (sym (at ∙ ap (λ k. word_at k 0) here)) (looks g slots id m live alone some_ticket)

-- what a look found is in its slot
pub look_row : (step : Step (Unit {0})) (m n : Me (Unit {0}) Seen) (slot head : ℕ) → slot ≡ m.0.pass.cursor → Looks step m head n → head ≢ 0 → HasRow n.0 slot head
look_row step m n slot head here told some_row = read told.row refl
  where
    read : (o : Option Row) → told.row ≡ o → HasRow n.0 slot head
    read None e = absurd (some_row (told.head ∙ ap head_at e))
    read (Some row) e = record {
      row = row;
      at = ap (λ (x : Me (Unit {0}) Seen). find x.0.found slot) (told.is ∙ ap (λ (o : Option Row). (view_looked o m.0, m.1)) e) ∙ find_here m.0.pass.cursor slot row m.0.found (sym here);
      good = told.good row e;
      head_is = told.head ∙ ap head_at e;
    }

-- it is what the head shows
pub look_seen : (step : Step (Unit {0})) (m n : Me (Unit {0}) Seen) (slot head : ℕ) → slot ≡ m.0.pass.cursor → Looks step m head n → (told : Looks step m head n) → row_seen n.0 slot head ≡ told.row
look_seen step m n slot head here again told = read told.row refl
  where
    read : (o : Option Row) → told.row ≡ o → row_seen n.0 slot head ≡ told.row
    read None e = eq_cases head 0 (λ b. (if b then None else find n.0.found slot) ≡ told.row) (λ _. sym e) (λ n0. absurd (n0 (told.head ∙ ap head_at e)))
    read (Some row) e = eq_cases head 0 (λ b. (if b then None else find n.0.found slot) ≡ told.row) (λ z. absurd (let h = told.head ∙ ap head_at e in omega arith))
        (λ _. ap (λ (x : Me (Unit {0}) Seen). find x.0.found slot) (told.is ∙ ap (λ (o : Option Row). (view_looked o m.0, m.1)) e) ∙ find_here m.0.pass.cursor slot row m.0.found (sym here) ∙ sym e)

-- one word more is read
pub read_more : (slot j value : ℕ) (row : Row) (words : List ℕ) (step : Step (Unit {0})) (v m n : Me (Unit {0}) Seen) → length words ≡ ROW_WORDS → j < ROW_WORDS → step.word ≡ word_at slot j → m ≡ v → Reads step m value n → find v.0.found slot ≡ Some row
    → ((k : ℕ) → k < j → get_or words k 0 ≡ get_or (row_packing row) k 0) → (k : ℕ) → k < j + 1 → get_or (set words j value) k 0 ≡ get_or (row_packing row) k 0
read_more slot j value row words step v m n size lt at same told found before k low = ⊎_elim
    (λ (l : k < j). get_or-set_other words j k value 0 (λ e. omega arith) ∙ before k l)
    (λ (ge : j ≤ k). let e : k ≡ j = omega arith in
    subst (λ x. get_or (set words j value) x 0 ≡ get_or (row_packing row) x 0) (sym e) (get_or-set_same words j value 0 (omega arith) ∙ told.word slot j row at lt (ap (λ (x : Me (Unit {0}) Seen). find x.0.found slot) same ∙ found)))
    (cases_lt k j)

-- after the last they are the words of the row
pub read_all : (row : Row) (words : List ℕ) (n : ℕ) → IsRow row → length words ≡ ROW_WORDS → ROW_WORDS ≤ n → ((k : ℕ) → k < n → get_or words k 0 ≡ get_or (row_packing row) k 0) → words ≡ row_packing row
read_all row words n good size all read = ext_get_or 0 words (row_packing row) (size ∙ sym (length-packed row good)) (λ k lt. read k (omega arith))

-- rows with the same words are the same
pub same_row : (a b : Row) (words : List ℕ) → IsRow a → IsRow b → words ≡ row_packing a → words ≡ row_packing b → a ≡ b
same_row a b words good fine one two = rows_have_words_of_their_own a b good fine (sym one ∙ two)

-- the words of a slot of a card's own are there
pub own_words : (id : TableId) (problem : Problem) (cursor latest slot : ℕ) (m : Me (Unit {0}) Seen) → IsCard id problem cursor latest m → Contains (slots_of m.0.pass.tickets) slot → word_at slot ROW_WORDS ≤ id.words
own_words id problem cursor latest slot m c own =
    let low = (card_facts id id problem cursor latest m c).holding.tickets slot own in
    let words = c.words in
    omega arith

-- and so are those of the slot at its cursor, which is no further than the latest ticket
pub cursor_words : (id : TableId) (problem : Problem) (cursor latest : ℕ) (m : Me (Unit {0}) Seen) → IsCard id problem cursor latest m → m.0.pass.joined ≡ [] → m.0.pass.tickets ≢ [] → (word_at cursor ROW_WORDS ≤ id.words) × (cursor ≤ latest)
cursor_words id problem cursor latest m c alone some_ticket =
    let facts = (card_facts id id problem cursor latest m c).board alone in
    let place = facts.turn.place some_ticket in
    let low = facts.tickets (latest_of m.0.pass.tickets) (latest_among m.0.pass.tickets some_ticket) in
    let words = c.words in
    let last = c.latest_is alone in
    let here = c.cursor_is in
    (omega arith, omega arith)

-- a card after a look
pub looked_card : (id other : TableId) (problem : Problem) (cursor next latest : ℕ) (step : Step (Unit {0})) (m n o : Me (Unit {0}) Seen) (head : ℕ) → other ≡ id → IsCard id problem cursor latest m → m.0.pass.joined ≡ [] → next ≡ (if cursor == latest then 0 else cursor + 1) → Looks step m head n → o ≡ n
    → IsCard other problem next latest o
looked_card id other problem cursor next latest step m n o head same c alone next_is told quiet =
    let is = quiet ∙ told.is in
    card_after id other problem cursor next latest latest m o same c (ap (λ (x : Me (Unit {0}) Seen). x.1) is) (state_after told.event.state (LookAt m.0.pass.number))
    (subst (λ (x : Me (Unit {0}) Seen). IsShownIn (state_after told.event.state (LookAt m.0.pass.number)) x.0) (sym quiet) told.event.next)
    (ap (λ (x : Me (Unit {0}) Seen). x.0.setting) is)
    (next_is ∙ ap (λ k. if k == latest then 0 else k + 1) c.cursor_is ∙ ap (λ k. if m.0.pass.cursor == k then 0 else m.0.pass.cursor + 1) (c.latest_is alone) ∙ ap (λ (x : Me (Unit {0}) Seen). x.0.pass.cursor) (sym is))
    (λ _. c.latest_is alone ∙ ap (λ (x : Me (Unit {0}) Seen). latest_of x.0.pass.tickets) (sym is))

-- a look is the event, with what was seen
pub looked_event : (id other : TableId) (slot head : ℕ) (step : Step (Unit {0})) (m n o : Me (Unit {0}) Seen) (look : Look) → slot ≡ m.0.pass.cursor → Looks step m head n → o ≡ n → look ≡ seen slot (row_seen n.0 slot head) → IsEvent (card id m.0) (LookAt m.0.pass.number) (Looked look) (card other o.0)
looked_event id other slot head step m n o look here told quiet is =
    let shows : seen m.0.pass.cursor told.row ≡ look = sym (is ∙ ap (λ k. seen k (row_seen n.0 slot head)) here ∙ ap (seen m.0.pass.cursor) (look_seen step m n slot head here told told)) in
    subst (λ (x : Me (Unit {0}) Seen). IsEvent (card id m.0) (LookAt m.0.pass.number) (Looked look) (card other x.0)) (sym quiet)
    (subst (λ (l : Look). IsEvent (card id m.0) (LookAt m.0.pass.number) (Looked l) (card other n.0)) shows (event_of id other m.0 n.0 (LookAt m.0.pass.number) (Looked (seen m.0.pass.cursor told.row)) told.event))

-- a seat that stored words may publish what it might before
pub still_can : (v w : Seen) (slot : ℕ) (row : Row) → w ≡ record v { laid = w.laid } → CanPublish (holding_seen v) slot row → CanPublish (holding_seen w) slot row
still_can v w slot row same can = subst (λ (x : Seen). CanPublish (holding_seen x) slot row) (sym same) can

-- a card after a publication
pub published_card : (id other : TableId) (problem : Problem) (cursor latest slot : ℕ) (row : Row) (step : Step (Unit {0})) (m n o : Me (Unit {0}) Seen) (head : ℕ) → other ≡ id → IsCard id problem cursor latest m → n.0 ≡ record m.0 { laid = n.0.laid } → n.1 ≡ m.1 → Publishes slot row step n head o
    → IsCard other problem cursor latest o
published_card id other problem cursor latest slot row step m n o head same c laid held told =
    card_after id other problem cursor cursor latest latest m o same c (ap (λ (x : Me (Unit {0}) Seen). x.1) told.is ∙ held) (state_after told.event.state (Publish n.0.pass.number slot row)) told.event.next
    (ap (λ (x : Me (Unit {0}) Seen). x.0.setting) told.is ∙ ap (λ (x : Seen). x.setting) laid)
    (c.cursor_is ∙ sym (ap (λ (x : Me (Unit {0}) Seen). x.0.pass.cursor) told.is ∙ ap (λ (x : Seen). x.pass.cursor) laid))
    (λ alone. c.latest_is (sym (ap (λ (x : Me (Unit {0}) Seen). x.0.pass.joined) told.is ∙ ap (λ (x : Seen). x.pass.joined) laid) ∙ alone)
    ∙ sym (ap (λ (x : Me (Unit {0}) Seen). latest_of x.0.pass.tickets) told.is ∙ ap (λ (x : Seen). latest_of x.pass.tickets) laid))

-- what shows a seat shows it before words were stored
pub shown_before : (s : State) (v w : Seen) → w ≡ record v { laid = w.laid } → IsShownIn s w → IsShownIn s v
shown_before s v w same i = back (subst (λ (x : Seen). IsShownIn s x) same i)
  where
    back : IsShownIn s (record v { laid = w.laid }) → IsShownIn s v
    back h = record { frame = h.frame; problem = h.problem; sound = h.sound; setting = h.setting; live = h.live; pass = h.pass; found = h.found; given = h.given; known = h.known }

-- a publication is the event
pub published_event : (id other : TableId) (slot : ℕ) (row : Row) (step : Step (Unit {0})) (m n o : Me (Unit {0}) Seen) (head : ℕ) → n.0 ≡ record m.0 { laid = n.0.laid } → Publishes slot row step n head o → IsEvent (card id m.0) (Publish m.0.pass.number slot row) Done (card other o.0)
published_event id other slot row step m n o head laid told =
    let number : n.0.pass.number ≡ m.0.pass.number = ap (λ (x : Seen). x.pass.number) laid in
    event_of id other m.0 o.0 (Publish m.0.pass.number slot row) Done (record {
      state = told.event.state;
      before = shown_before told.event.state m.0 n.0 laid told.event.before;
      allowed = subst (λ k. IsAllowedEvent told.event.state (Publish k slot row)) number told.event.allowed;
      reply = subst (λ k. reply_of told.event.state (Publish k slot row) ≡ Done) number told.event.reply;
      next = subst (λ k. IsShownIn (state_after told.event.state (Publish k slot row)) o.0) number told.event.next;
      stays = λ at r has. told.event.stays at r (subst (λ (x : Seen). IsTold x at r) (sym laid) has);
      tells = told.event.tells;
    })

-- the row that was found is one
pub found_good : (v : Seen) (slot head : ℕ) → HasRow v slot head → (row : Row) → find v.found slot ≡ Some row → IsRow row
found_good v slot head has row found = subst IsRow (same_Some has.row row (sym has.at ∙ found)) has.good
