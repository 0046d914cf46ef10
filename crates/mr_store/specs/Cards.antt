-- What callers see of a store, a card and a pass.
use Rattle.std.specs.Prelude.{◌≡◌, ◌≢◌, ◌↔◌, ℕ, ◌+◌, ◌<◌, ◌≤◌, ◌==◌, List, [], length, count_by, Contains, Some}
pub use Rattle.atomic_table.specs.Seated.{TableId}
use Rattle.mr_frame.specs.Frame.{IsFrame}
use Rattle.mr_nogood.specs.declared.row.Row.{Row}
use Rattle.mr_exchange.specs.declared.ticket.Ticket.{Ticket}
use Rattle.mr_exchange.specs.declared.event.Event.{Event}
use Rattle.mr_exchange.specs.declared.event.Reply.{Reply}
use Rattle.mr_exchange.specs.Cubes.{IsProblemOf}
use Rattle.mr_exchange.specs.State.{State, pass_at, IsLive, slots_of}
use Rattle.mr_exchange.specs.Events.{IsNodeOf, IsAllowedEvent, state_after, reply_of}
use Rattle.mr_exchange.specs.Sound.{IsSound}
use Rattle.mr_exchange.specs.Board.{Holding, holding_of, IsKnownRow, BoardFacts}
use Rattle.mr_store.specs.Seats.{Setting, Seen, IsTold, holding_seen, view_spent}
use Rattle.mr_store.specs.Shown.{setting_of}
use Rattle.mr_store.specs.Steps.{Tells}

-- a store is told by its table, and has a setting
pub record StoreIs : Type 0 where
  pub id : TableId
  pub setting : Setting

-- The mark of a pass: its store and its number, and of the first pass how many passes were made and the numbers of those
-- that were joined into it.
pub record Mark : Type 0 where
  pub store : StoreIs
  pub number : ℕ
  pub made : ℕ
  pub joined : List ℕ

-- that of no pass
abbrev pub no_mark : Mark
no_mark = record {
  store = record { id = record { words = 0; slots = 0; views_name = 0; atom = 0; block = 0; offset = 0; slot_names = [] }; setting = view_spent.setting };
  number = 0;
  made = 0;
  joined = [];
}

-- a card is told by its store's table, and by what its seat knows
pub record CardIs : Type 0 where
  pub id : TableId
  pub seen : Seen

-- the store of a card
abbrev pub store_of : CardIs → StoreIs
store_of c = record { id = c.id; setting = c.seen.setting }

-- the mark of its pass
abbrev pub mark_of : CardIs → Mark
mark_of c = record { store = store_of c; number = c.seen.pass.number; made = c.seen.pass.made; joined = c.seen.pass.joined }

-- what its pass has and knows
abbrev pub held_by : CardIs → Holding
held_by c = holding_seen c.seen

-- the number that the later one of its latest claim and its latest opening found, in the claim word or the ticket word; 0 before any
abbrev pub word_of : CardIs → ℕ
word_of c = c.seen.last_word

-- The row stands in the slot, as far as the pass was told: it met it there or published it, the first pass had been told of it
-- when this pass was made, or a pass that was joined into it was told. A row that stands in a slot stays.
abbrev pub IsThere : CardIs → ℕ → Row → Type 0
IsThere c slot row = IsTold c.seen slot row

-- the sound state has the pass, which is live, and each row of which the pass was told
pub record IsPassOf (s : State) (c : CardIs) : Type 0 where
  pub frame : IsFrame s.frame
  pub problem : IsProblemOf s.frame s.problem
  pub sound : IsSound s
  pub setting : setting_of s ≡ c.seen.setting
  pub live : IsLive s c.seen.pass.number
  pub made : (pass_at s c.seen.pass.number).made ≡ c.seen.pass.made
  pub joined : (pass_at s c.seen.pass.number).joined ≡ c.seen.pass.joined
  pub holding : holding_of s c.seen.pass.number ≡ held_by c
  pub there : (slot : ℕ) (row : Row) → IsThere c slot row → s.rows slot ≡ Some row

-- The call was this event of a sound state of the store's setting, with this answer: the pass was as it was before the call, and is as
-- the event leaves it. All rows of which it was told stand in that state; they stay told, and the pass learns what the event
-- tells: the number that it found in the claim word or the ticket word, or the row that it met or published.
pub record IsEvent (c : CardIs) (e : Event) (answer : Reply) (d : CardIs) : Type 0 where
  pub state : State
  pub before : IsPassOf state c
  pub allowed : IsAllowedEvent state e
  pub reply : reply_of state e ≡ answer
  pub next : IsPassOf (state_after state e) d
  pub stays : (slot : ℕ) (row : Row) → IsThere c slot row → IsThere d slot row
  pub tells : Tells state e d.seen

-- The cubes and the tickets are the numbers from 0 on, each once, and all of them where the pass was told that none is left.
pub record HasWhole (h : Holding) : Type 0 where
  pub cubes : (c : ℕ) → Contains h.cubes c ↔ (c < length h.cubes)
  pub all_cubes : 0 < h.claim_ends → length h.cubes ≡ h.problem.cubes
  pub tickets : (t : ℕ) → Contains (slots_of h.tickets) t ↔ (t < length h.tickets)
  pub all_tickets : 0 < h.ticket_ends → length h.tickets ≡ h.problem.nodes

-- What holds of what a pass has and knows at any time: the frame is one and the problem is one of it, its cubes and its
-- tickets are different numbers in range, the node of each ticket has a cube of the pass, and it knows rows that exclude.
pub record HoldingFacts (h : Holding) : Type 0 where
  pub frame : IsFrame h.frame
  pub problem : IsProblemOf h.frame h.problem
  pub cubes : (c : ℕ) → Contains h.cubes c → c < h.problem.cubes
  pub cubes_once : (c : ℕ) → count_by (λ x. x == c) h.cubes ≤ 1
  pub tickets : (t : ℕ) → Contains (slots_of h.tickets) t → t < h.problem.nodes
  pub tickets_once : (t : ℕ) → count_by (λ x. x == t) (slots_of h.tickets) ≤ 1
  pub nodes : (ticket : Ticket) → Contains h.tickets ticket → IsNodeOf h.frame h.problem.depth h.cubes ticket.node
  pub known : (slot : ℕ) (row : Row) → h.known slot ≡ Some row → IsKnownRow h slot row

-- What holds of a card. Its number is one of those that passes may have. The passes that were joined into it are different ones
-- that were made, and none of them is the first; only the first takes in others. It was told at most once that no cube is left,
-- and no ticket, and once more for each pass that was joined into it. The rows that it knows are there. One that joined no other
-- is as a board's. Where each other pass was joined into the first, that has the whole, and knows all rows of which it was told.
pub record CardFacts (c : CardIs) : Type 0 where
  pub holding : HoldingFacts (held_by c)
  pub number : c.seen.pass.number < c.seen.setting.limit
  pub made : c.seen.pass.number ≡ 0 → c.seen.pass.made ≤ c.seen.setting.limit
  pub joined : (k : ℕ) → Contains c.seen.pass.joined k → (1 ≤ k) × (k < c.seen.pass.made)
  pub joined_once : (k : ℕ) → count_by (λ x. x == k) c.seen.pass.joined ≤ 1
  pub others : c.seen.pass.number ≢ 0 → c.seen.pass.joined ≡ []
  pub claim_ends : c.seen.pass.claim_ends ≤ 1 + length c.seen.pass.joined
  pub ticket_ends : c.seen.pass.ticket_ends ≤ 1 + length c.seen.pass.joined
  pub there : (slot : ℕ) (row : Row) → (held_by c).known slot ≡ Some row → IsThere c slot row
  pub board : c.seen.pass.joined ≡ [] → BoardFacts (held_by c)
  pub whole : c.seen.pass.number ≡ 0 → 1 + length c.seen.pass.joined ≡ c.seen.pass.made → HasWhole (held_by c)
  pub rows : c.seen.pass.number ≡ 0 → 1 + length c.seen.pass.joined ≡ c.seen.pass.made → (slot : ℕ) (row : Row) → IsThere c slot row → (held_by c).known slot ≡ Some row
