-- What a card is after each step, and what it tells.
use Rattle.std.proofs.Common.{◌≡◌, ℕ, ◌+◌, ◌≤◌, ◌==◌, IsTrue, List, [], length, count_by, Contains, Option, Some, IsSome, refl, sym, ap, ◌∙◌, subst, arith}
use Rattle.atomic_table.specs.Table.{Me}
use Rattle.atomic_table.specs.Seated.{TableId}
use Rattle.mr_nogood.specs.declared.row.Row.{Row}
use Rattle.mr_exchange.specs.declared.problem.Problem.{Problem}
use Rattle.mr_exchange.specs.declared.event.Event.{Event}
use Rattle.mr_exchange.specs.declared.event.Event.TheVariants.{Claim, OpenNode, LookAt, Publish}
use Rattle.mr_exchange.specs.declared.event.Reply.{Reply}
use Rattle.mr_exchange.specs.declared.event.Reply.TheVariants.{Cube, Ticket as Drawn, Seen as Looks, Done}
use Rattle.mr_exchange.specs.declared.event.Look.{Look}
use Rattle.mr_exchange.specs.State.{Pass, State, pass_at, latest_of, known_rows}
use Rattle.mr_exchange.specs.Events.{state_after, seen}
use Rattle.mr_exchange.specs.Board.{Holding, holding_of, BoardFacts, Claimed, Opened, Looked, Published}
use Rattle.mr_exchange.specs.Acting.{ActsAsBoard}
use Rattle.mr_exchange.proofs.Lookups.{within}
use Rattle.mr_exchange.proofs.OnePass.{passes_have_facts}
use Rattle.mr_exchange.proofs.Holdings.{known_there, known_row_of, facts_of, passes_act_as_boards}
use Rattle.mr_store.specs.Seats.{Setting, Seen, word_at}
use Rattle.mr_store.specs.Steps.{IsShownIn, Happened}
use Rattle.mr_store.specs.Cards.{CardIs, held_by, IsThere, IsPassOf, IsEvent, HasWhole, HoldingFacts, CardFacts}
use Rattle.mr_store.specs.Private.Cards.{IsCard}
use Rattle.mr_store.proofs.Finding.{known_told}
use Rattle.mr_store.proofs.Showing.{holding_shown, told_there}

-- the card of a seat
abbrev pub card : TableId → Seen → CardIs
card id v = record { id = id; seen = v }

-- a state that shows a seat has its pass
pub pass_of : (id : TableId) (s : State) (v : Seen) → IsShownIn s v → IsPassOf s (card id v)
pass_of id s v i = record {
  frame = i.frame;
  problem = i.problem;
  sound = i.sound;
  setting = i.setting;
  live = i.live;
  made = ap (λ (p : Pass). p.made) i.pass;
  joined = ap (λ (p : Pass). p.joined) i.pass;
  holding = holding_shown s v i;
  there = told_there s v i;
}

-- a step is the event of the pass
pub event_of : (id other : TableId) (v w : Seen) (e : Event) (reply : Reply) → Happened v e reply w → IsEvent (card id v) e reply (card other w)
event_of id other v w e reply h = record { state = h.state; before = pass_of id h.state v h.before; allowed = h.allowed; reply = h.reply; next = pass_of other (state_after h.state e) w h.next; stays = h.stays; tells = h.tells }

-- the pass of a seat is live
pub live_of : (s : State) (v : Seen) → IsShownIn s v → IsTrue v.pass.live
live_of s v i = subst (λ (p : Pass). IsTrue p.live) i.pass i.live

-- what holds of a pass of a sound state
pub pass_facts : (s : State) (c : CardIs) → IsPassOf s c → CardFacts c
pass_facts s c i =
    let k : ℕ = c.seen.pass.number in
    let f = passes_have_facts s k i.frame i.sound i.live in record {
      holding = subst HoldingFacts i.holding (record {
        frame = i.frame;
        problem = i.problem;
        cubes = λ x has. (let a = f.cubes x has in omega arith);
        cubes_once = f.cubes_once;
        tickets = λ t has. (let a = f.tickets t has in omega arith);
        tickets_once = f.tickets_once;
        nodes = f.nodes;
        known = λ slot row is. known_row_of s (pass_at s k) slot row i.sound f is;
      });
      number = (let low = within s.passes k i.live in let few = i.sound.passes.few in let limit = ap (λ (g : Setting). g.limit) i.setting in omega arith);
      made = λ first. (
          let made : (pass_at s 0).made ≡ c.seen.pass.made = subst (λ n. (pass_at s n).made ≡ c.seen.pass.made) first i.made in
          let all = i.sound.passes.made in let few = i.sound.passes.few in let limit = ap (λ (g : Setting). g.limit) i.setting in omega arith);
      joined = λ n has. (let a = f.joined n (subst (λ (xs : List ℕ). Contains xs n) (sym i.joined) has) in let made = i.made in (a.0, omega arith));
      joined_once = subst (λ (xs : List ℕ). (n : ℕ) → count_by (λ x. x == n) xs ≤ 1) i.joined f.joined_once;
      others = λ other. sym i.joined ∙ i.sound.passes.others k other;
      claim_ends = (let most = f.claim_ends in let ends = ap (λ (h : Holding). h.claim_ends) i.holding in let long = ap length i.joined in omega arith);
      ticket_ends = (let most = f.ticket_ends in let ends = ap (λ (h : Holding). h.ticket_ends) i.holding in let long = ap length i.joined in omega arith);
      there = known_told c.seen;
      board = λ alone. subst BoardFacts i.holding (facts_of s k i.frame i.problem i.sound i.live (i.joined ∙ alone));
      whole = λ first all. subst HasWhole i.holding (let w = f.whole (i.sound.passes.numbers k i.live ∙ first) (ap (λ (xs : List ℕ). 1 + length xs) i.joined ∙ all ∙ sym i.made) in
          record { cubes = w.cubes; all_cubes = w.claim_end; tickets = w.tickets; all_tickets = w.ticket_end });
      rows = λ first all slot row has. (
          let w = f.whole (i.sound.passes.numbers k i.live ∙ first) (ap (λ (xs : List ℕ). 1 + length xs) i.joined ∙ all ∙ sym i.made) in
          let at = i.there slot row has in
          let known : known_rows s (pass_at s k) slot ≡ s.rows slot = known_there s (pass_at s k) slot ((w.rows slot).0 (subst IsSome (sym at) refl)) in
          subst (λ (h : Holding). h.known slot ≡ Some row) i.holding (known ∙ at));
    }

-- what holds of a card
pub card_facts : (id other : TableId) (problem : Problem) (cursor latest : ℕ) (m : Me (Unit {0}) Seen) → IsCard id problem cursor latest m → CardFacts (card other m.0)
card_facts id other problem cursor latest m c = pass_facts c.shown.0 (card other m.0) (pass_of other c.shown.0 m.0 c.shown.1)

-- a card after a step
pub card_after : (id other : TableId) (problem : Problem) (cursor next latest last : ℕ) (m n : Me (Unit {0}) Seen) → other ≡ id → IsCard id problem cursor latest m → n.1 ≡ m.1 → (s : State) → IsShownIn s n.0 → n.0.setting ≡ m.0.setting
    → next ≡ n.0.pass.cursor → (n.0.pass.joined ≡ [] → last ≡ latest_of n.0.pass.tickets) → IsCard other problem next last n
card_after id other problem cursor next latest last m n same c none_held s shown setting cursor_is latest_is = record {
  none_held = none_held ∙ c.none_held;
  shown = (s, shown);
  words = ap (λ (x : TableId). x.words) same ∙ c.words ∙ ap (λ (x : Setting). word_at x.problem.nodes 0) (sym setting);
  problem_is = c.problem_is ∙ ap (λ (x : Setting). x.problem) (sym setting);
  cursor_is = cursor_is;
  latest_is = latest_is;
}

-- the pass of a state before an event has the cursor of the card
cursor_in : (s : State) (c : CardIs) → IsPassOf s c → (pass_at s c.seen.pass.number).cursor ≡ c.seen.pass.cursor
cursor_in s c i = ap (λ (h : Holding). h.cursor) i.holding

-- a look at a slot in which a row is there shows that row
pub look_shows : (c d : CardIs) (look : Look) → IsEvent c (LookAt c.seen.pass.number) (Looks look) d → (row : Row) → IsThere c c.seen.pass.cursor row → look ≡ seen c.seen.pass.cursor (Some row)
look_shows c d look x row has =
    let k : ℕ = c.seen.pass.number in
    let answer : Looks (seen (pass_at x.state k).cursor (x.state.rows (pass_at x.state k).cursor)) ≡ Looks look = x.reply in
    let same : seen (pass_at x.state k).cursor (x.state.rows (pass_at x.state k).cursor) ≡ look = cc in
    sym same ∙ ap (λ n. seen n (x.state.rows n)) (cursor_in x.state c x.before) ∙ ap (seen c.seen.pass.cursor) (x.before.there c.seen.pass.cursor row has)

-- A pass that joined no other acts as a board.
module _ (c d : CardIs) (alone : c.seen.pass.joined ≡ []) (number : d.seen.pass.number ≡ c.seen.pass.number) where
  -- it acts as one in the state of the event
  acts : (e : Event) (reply : Reply) → (x : IsEvent c e reply d) → ActsAsBoard x.state c.seen.pass.number
  acts e reply x = passes_act_as_boards x.state c.seen.pass.number x.before.frame x.before.problem x.before.sound x.before.live (x.before.joined ∙ alone)

  -- what the pass has and knows after the event
  then_has : (e : Event) (reply : Reply) → (x : IsEvent c e reply d) → holding_of (state_after x.state e) c.seen.pass.number ≡ (held_by d)
  then_has e reply x = ap (holding_of (state_after x.state e)) (sym number) ∙ x.next.holding

  -- from the state to the card
  moved : (e : Event) (reply : Reply) (F : Holding → Holding → Type 0) → (x : IsEvent c e reply d) → F (holding_of x.state c.seen.pass.number) (holding_of (state_after x.state e) c.seen.pass.number) → F (held_by c) (held_by d)
  moved e reply F x h = subst (λ k. F k (held_by d)) x.before.holding (subst (λ k. F (holding_of x.state c.seen.pass.number) k) (then_has e reply x) h)

  -- a claim changes what a board's does
  pub claim_moves : (cube : Option ℕ) → IsEvent c (Claim c.seen.pass.number) (Cube cube) d → Claimed (held_by c) cube (held_by d)
  claim_moves cube x = moved (Claim c.seen.pass.number) (Cube cube) (λ h k. Claimed h cube k) x ((acts (Claim c.seen.pass.number) (Cube cube) x).claim cube x.allowed x.reply)

  -- and so does an opening
  pub open_moves : (node : List ℕ) (ticket : Option ℕ) → IsEvent c (OpenNode c.seen.pass.number node) (Drawn ticket) d → Opened (held_by c) node ticket (held_by d)
  open_moves node ticket x = moved (OpenNode c.seen.pass.number node) (Drawn ticket) (λ h k. Opened h node ticket k) x ((acts (OpenNode c.seen.pass.number node) (Drawn ticket) x).opening node ticket x.allowed x.reply)

  -- a look
  pub look_moves : (look : Look) → IsEvent c (LookAt c.seen.pass.number) (Looks look) d → Looked (held_by c) look (held_by d)
  look_moves look x = moved (LookAt c.seen.pass.number) (Looks look) (λ h k. Looked h look k) x ((acts (LookAt c.seen.pass.number) (Looks look) x).look look x.allowed x.reply)

  -- and a publication
  pub publish_moves : (slot : ℕ) (row : Row) → IsEvent c (Publish c.seen.pass.number slot row) Done d → Published (held_by c) slot row (held_by d)
  publish_moves slot row x = moved (Publish c.seen.pass.number slot row) Done (λ h k. Published h slot row k) x ((acts (Publish c.seen.pass.number slot row) Done x).publication slot row x.allowed)
