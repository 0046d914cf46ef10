-- What a card is after an opening, a split and a join.
use Rattle.std.proofs.Common.{◌≡◌, ℕ, ◌+◌, ◌-◌, ◌<◌, ◌≤◌, if◌then◌else◌, List, [], ◌∷◌, ◌++◌, length, length-append, get_or, Option, Some, None, refl, sym, ap, ◌∙◌, subst, arith}
use Rattle.std.specs.Prelude.{nat_lt}
use Rattle.std.proofs.lemmas.List.{get_or_push}
use Rattle.atomic_table.specs.Table.{Me, Step}
use Rattle.atomic_table.specs.Seated.{TableId}
use Rattle.mr_exchange.specs.declared.problem.Problem.{Problem}
use Rattle.mr_exchange.specs.declared.ticket.Ticket.{Ticket}
use Rattle.mr_exchange.specs.declared.event.Event.TheVariants.{Claim, OpenNode, Split}
use Rattle.mr_exchange.specs.declared.event.Reply.TheVariants.{Cube, Ticket as Drawn}
use Rattle.mr_exchange.specs.State.{Pass, State, slots_of, latest_of}
use Rattle.mr_exchange.specs.Events.{opened, state_after}
use Rattle.mr_exchange.proofs.Totals.{lt_cases}
use Rattle.mr_exchange.proofs.Lookups.{slots_of-append, length-slots_of}
use Rattle.mr_store.specs.Seats.{Seen, view_made, view_new, view_joined}
use Rattle.mr_store.specs.Steps.{IsShownIn, Happened, Claims, Opens}
use Rattle.mr_store.specs.Cards.{StoreIs, CardIs, store_of, mark_of, IsEvent}
use Rattle.mr_store.specs.Private.Cards.{IsCard}
use Rattle.mr_store.proofs.Cards.{card, card_after, event_of}
use Rattle.mr_store.proofs.NewCards.{split_left, split_right}

-- the latest ticket is the one that was gained last
pub latest_of-push : (tickets : List Ticket) (t : Ticket) → latest_of (tickets ++ t ∷ []) ≡ t.slot
latest_of-push tickets t =
    let long = length-append tickets (t ∷ []) in
    let slots = length-slots_of tickets in
    let last : length (slots_of tickets) ≡ length (tickets ++ t ∷ []) - 1 = omega arith in
    ap (λ (xs : List ℕ). get_or xs (length (tickets ++ t ∷ []) - 1) 0) (slots_of-append tickets (t ∷ [])) ∙ get_or_push (slots_of tickets) t.slot 0 (length (tickets ++ t ∷ []) - 1) last

-- a number below a count is answered
pub answer_below : (found count : ℕ) → found < count → Some found ≡ (if nat_lt found count then Some found else None)
answer_below found count lt = lt_cases found count (λ b. Some found ≡ (if b then Some found else None)) (λ _. refl) (λ le. absurd (omega arith))

-- and another isn't
pub answer_past : (found count : ℕ) → count ≤ found → None ≡ (if nat_lt found count then Some found else None)
answer_past found count le = lt_cases found count (λ b. None ≡ (if b then Some found else None)) (λ lt. absurd (omega arith)) (λ _. refl)

-- a claim is the event, with this answer
pub claimed_event : (id other : TableId) (step : Step (Unit {0})) (m n : Me (Unit {0}) Seen) (found : ℕ) (answer : Option ℕ) → Claims step m found n → answer ≡ (if nat_lt found m.0.setting.problem.cubes then Some found else None) → IsEvent (card id m.0) (Claim m.0.pass.number) (Cube answer) (card other n.0)
claimed_event id other step m n found answer told is = event_of id other m.0 n.0 (Claim m.0.pass.number) (Cube answer) (subst (λ (a : Option ℕ). Happened m.0 (Claim m.0.pass.number) (Cube a) n.0) (sym is) told.event)

-- and so is an opening
pub opened_event : (id other : TableId) (node : List ℕ) (step : Step (Unit {0})) (m n : Me (Unit {0}) Seen) (found : ℕ) (answer : Option ℕ) → Opens node step m found n → answer ≡ (if nat_lt found m.0.setting.problem.nodes then Some found else None)
    → IsEvent (card id m.0) (OpenNode m.0.pass.number node) (Drawn answer) (card other n.0)
opened_event id other node step m n found answer told is = event_of id other m.0 n.0 (OpenNode m.0.pass.number node) (Drawn answer) (subst (λ (a : Option ℕ). Happened m.0 (OpenNode m.0.pass.number node) (Drawn a) n.0) (sym is) told.event)

-- an opening leaves the cursor
opened_cursor : (nodes word : ℕ) (node : List ℕ) (p : Pass) → (opened nodes word node p).cursor ≡ p.cursor
opened_cursor nodes word node p =
    lt_cases word nodes (λ b. (if b then record p { tickets = p.tickets ++ record { slot = word; node = node } ∷ [] } else record p { ticket_ends = p.ticket_ends + 1 }).cursor ≡ p.cursor) (λ _. refl) (λ _. refl)

-- where it gains a ticket, that is the latest
opened_latest : (nodes word : ℕ) (node : List ℕ) (p : Pass) → word < nodes → latest_of (opened nodes word node p).tickets ≡ word
opened_latest nodes word node p lt =
    lt_cases word nodes (λ b. latest_of (if b then record p { tickets = p.tickets ++ record { slot = word; node = node } ∷ [] } else record p { ticket_ends = p.ticket_ends + 1 }).tickets ≡ word)
    (λ _. latest_of-push p.tickets (record { slot = word; node = node })) (λ le. absurd (omega arith))

-- a card that gained a ticket
pub opened_card : (id other : TableId) (problem : Problem) (cursor latest : ℕ) (node : List ℕ) (step : Step (Unit {0})) (m n : Me (Unit {0}) Seen) (found : ℕ) → other ≡ id → IsCard id problem cursor latest m → Opens node step m found n → found < problem.nodes
    → IsCard other problem cursor found n
opened_card id other problem cursor latest node step m n found same c told lt =
    let nodes : ℕ = m.0.setting.problem.nodes in
    let few : found < nodes = subst (λ (p : Problem). found < p.nodes) c.problem_is lt in
    card_after id other problem cursor cursor latest found m n same c (ap (λ (x : Me (Unit {0}) Seen). x.1) told.is) (state_after told.event.state (OpenNode m.0.pass.number node)) told.event.next
    (ap (λ (x : Me (Unit {0}) Seen). x.0.setting) told.is)
    (c.cursor_is ∙ sym (ap (λ (x : Me (Unit {0}) Seen). x.0.pass.cursor) told.is ∙ opened_cursor nodes found node m.0.pass))
    (λ _. sym (ap (λ (x : Me (Unit {0}) Seen). latest_of x.0.pass.tickets) told.is ∙ opened_latest nodes found node m.0.pass few))

-- a pass more may be made
pub room_of : (x y : CardIs) (s : StoreIs) → x ≡ y → store_of y ≡ s → (mark_of y).made < s.setting.limit → x.seen.pass.made < x.seen.setting.limit
room_of x y s e store room = subst (λ (z : CardIs). z.seen.pass.made < z.seen.setting.limit) (sym e) (subst (λ (t : StoreIs). y.seen.pass.made < t.setting.limit) (sym store) room)

-- the first card after a split
pub split_card : (id other : TableId) (problem : Problem) (cursor latest : ℕ) (m n : Me (Unit {0}) Seen) → other ≡ id → IsCard id problem cursor latest m → n ≡ (view_made m.0, m.1) → m.0.pass.number ≡ 0 → m.0.pass.made < m.0.setting.limit → IsCard other problem cursor latest n
split_card id other problem cursor latest m n same c is first room =
    card_after id other problem cursor cursor latest latest m n same c (ap (λ (x : Me (Unit {0}) Seen). x.1) is) (state_after c.shown.0 Split)
    (subst (λ (x : Me (Unit {0}) Seen). IsShownIn (state_after c.shown.0 Split) x.0) (sym is) (split_left c.shown.0 m.0 c.shown.1 first room))
    (ap (λ (x : Me (Unit {0}) Seen). x.0.setting) is) (c.cursor_is ∙ ap (λ (x : Me (Unit {0}) Seen). x.0.pass.cursor) (sym is))
    (λ alone. c.latest_is (ap (λ (x : Me (Unit {0}) Seen). x.0.pass.joined) (sym is) ∙ alone) ∙ ap (λ (x : Me (Unit {0}) Seen). latest_of x.0.pass.tickets) (sym is))

-- and the new one
pub new_card : (id other : TableId) (problem : Problem) (cursor latest : ℕ) (m n : Me (Unit {0}) Seen) → other ≡ id → IsCard id problem cursor latest m → n ≡ (view_new m.0, []) → m.0.pass.number ≡ 0 → m.0.pass.made < m.0.setting.limit → IsCard other problem 0 0 n
new_card id other problem cursor latest m n same c is first room = subst (λ (x : Me (Unit {0}) Seen). IsCard other problem 0 0 x) (sym is) (record {
  none_held = refl;
  shown = (state_after c.shown.0 Split, split_right c.shown.0 m.0 c.shown.1 first room);
  words = ap (λ (x : TableId). x.words) same ∙ c.words;
  problem_is = c.problem_is;
  cursor_is = refl;
  latest_is = λ _. refl;
})

-- the first card after a join
pub joined_card : (id other : TableId) (problem : Problem) (cursor latest : ℕ) (m n : Me (Unit {0}) Seen) (w : Seen) → other ≡ id → IsCard id problem cursor latest m → n ≡ (view_joined m.0 w, m.1) → (s : State) × IsShownIn s n.0 → IsCard other problem cursor latest n
joined_card id other problem cursor latest m n w same c is shown =
    card_after id other problem cursor cursor latest latest m n same c (ap (λ (x : Me (Unit {0}) Seen). x.1) is) shown.0 shown.1
    (ap (λ (x : Me (Unit {0}) Seen). x.0.setting) is) (c.cursor_is ∙ ap (λ (x : Me (Unit {0}) Seen). x.0.pass.cursor) (sym is))
    (λ alone. absurd (let none = ap length (ap (λ (x : Me (Unit {0}) Seen). x.0.pass.joined) (sym is) ∙ alone) in let long = length-append m.0.pass.joined (w.pass.number ∷ []) in omega arith))
