-- What each step tells the seat that makes it.
use Rattle.std.specs.Prelude.{◌≡◌, ℕ, ◌+◌, ◌<◌, min, length, List, nat_lt, if◌then◌else◌, slice_index, Option, Some, None, Contains}
use Rattle.atomic_table.specs.Table.{Step, Me}
use Rattle.mr_frame.specs.Frame.{IsFrame}
use Rattle.mr_nogood.specs.declared.TheConstants.{ROW_WORDS}
use Rattle.mr_nogood.specs.declared.row.Row.{Row}
use Rattle.mr_nogood.specs.Row.{IsRow}
use Rattle.mr_nogood.specs.Packing.{row_packing, head_of}
use Rattle.mr_exchange.specs.declared.event.Event.{Event}
use Rattle.mr_exchange.specs.declared.event.Event.TheVariants.{Claim, OpenNode, LookAt, Publish, Split, Join}
use Rattle.mr_exchange.specs.declared.event.Reply.{Reply}
use Rattle.mr_exchange.specs.declared.event.Reply.TheVariants.{Cube, Ticket as Drawn, Seen as Looked, Done}
use Rattle.mr_exchange.specs.Cubes.{IsProblemOf}
use Rattle.mr_exchange.specs.State.{State, pass_at, IsLive, head_at, known_rows}
use Rattle.mr_exchange.specs.Events.{IsAllowedEvent, state_after, reply_of, seen}
use Rattle.mr_exchange.specs.Sound.{IsSound}
use Rattle.mr_store.specs.Seats.{Seen, IsTold, find, word_at, known_of, view_claimed, view_opened, view_laid, view_published, view_looked}
use Rattle.mr_store.specs.Shown.{setting_of}

-- The sound state has the seat's pass, which is live, the rows that the seat found and those that it was given. The rows that the
-- pass knows are among those that it found.
pub record IsShownIn (s : State) (v : Seen) : Type 0 where
  pub frame : IsFrame s.frame
  pub problem : IsProblemOf s.frame s.problem
  pub sound : IsSound s
  pub setting : setting_of s ≡ v.setting
  pub live : IsLive s v.pass.number
  pub pass : pass_at s v.pass.number ≡ v.pass
  pub found : (slot : ℕ) (row : Row) → Contains v.found (slot, row) → s.rows slot ≡ Some row
  pub given : (slot : ℕ) (row : Row) → Contains v.given (slot, row) → s.rows slot ≡ Some row
  pub known : (slot : ℕ) → known_rows s v.pass slot ≡ known_of v slot

-- What an event tells its pass: a claim and an opening the number that they found in the claim word and in the ticket word, a
-- look the row that it met, short or long, and a publication its row.
abbrev pub Tells : State → Event → Seen → Type 0
Tells s (Claim k) w = w.last_word ≡ s.claim
Tells s (OpenNode k node) w = w.last_word ≡ s.ticket
Tells s (LookAt k) w = (row : Row) → s.rows (pass_at s k).cursor ≡ Some row → IsTold w (pass_at s k).cursor row
Tells s (Publish k slot row) w = IsTold w slot row
Tells s Split w = Unit {0}
Tells s (Join k) w = Unit {0}

-- The step was this event of a sound state, with this answer. The seat forgets no row that it was told, and learns what the
-- event tells.
pub record Happened (v : Seen) (e : Event) (answer : Reply) (w : Seen) : Type 0 where
  pub state : State
  pub before : IsShownIn state v
  pub allowed : IsAllowedEvent state e
  pub reply : reply_of state e ≡ answer
  pub next : IsShownIn (state_after state e) w
  pub stays : (slot : ℕ) (row : Row) → IsTold v slot row → IsTold w slot row
  pub tells : Tells state e w

-- one is added to the claim word
pub record Claims (step : Step (Unit {0})) (m : Me (Unit {0}) Seen) (found : ℕ) (n : Me (Unit {0}) Seen) : Type 0 where
  pub at : (step.word ≡ 0) × (step.first ≡ 1)
  pub is : n ≡ (view_claimed found m.0, m.1)
  pub event : Happened m.0 (Claim m.0.pass.number) (Cube (if nat_lt found m.0.setting.problem.cubes then Some found else None)) n.0

-- one is added to the ticket word
pub record Opens (node : List ℕ) (step : Step (Unit {0})) (m : Me (Unit {0}) Seen) (found : ℕ) (n : Me (Unit {0}) Seen) : Type 0 where
  pub at : (step.word ≡ 1) × (step.first ≡ 1)
  pub is : n ≡ (view_opened found node m.0, m.1)
  pub event : Happened m.0 (OpenNode m.0.pass.number node) (Drawn (if nat_lt found m.0.setting.problem.nodes then Some found else None)) n.0

-- a word behind a head is stored
pub record Lays (step : Step (Unit {0})) (m : Me (Unit {0}) Seen) (found : ℕ) (n : Me (Unit {0}) Seen) : Type 0 where
  pub is : n ≡ (view_laid step.word step.first m.0, m.1)
  pub shown : (s : State) × IsShownIn s n.0

-- the head of the row is stored
pub record Publishes (slot : ℕ) (row : Row) (step : Step (Unit {0})) (m : Me (Unit {0}) Seen) (found : ℕ) (n : Me (Unit {0}) Seen) : Type 0 where
  pub at : (step.word ≡ word_at slot 0) × (step.first ≡ head_of row)
  pub is : n ≡ (view_published slot row m.0, m.1)
  pub event : Happened m.0 (Publish m.0.pass.number slot row) Done n.0

-- the head at the cursor is loaded
pub record Looks (step : Step (Unit {0})) (m : Me (Unit {0}) Seen) (found : ℕ) (n : Me (Unit {0}) Seen) : Type 0 where
  pub at : step.word ≡ word_at m.0.pass.cursor 0
  pub row : Option Row
  pub head : found ≡ head_at row
  pub good : (r : Row) → row ≡ Some r → IsRow r
  pub is : n ≡ (view_looked row m.0, m.1)
  pub event : Happened m.0 (LookAt m.0.pass.number) (Looked (seen m.0.pass.cursor row)) n.0

-- a word is loaded of a slot in which the seat found a row
pub record Reads (step : Step (Unit {0})) (m : Me (Unit {0}) Seen) (found : ℕ) (n : Me (Unit {0}) Seen) : Type 0 where
  pub is : n ≡ m
  pub word : (slot j : ℕ) (row : Row) → step.word ≡ word_at slot j → j < ROW_WORDS → find m.0.found slot ≡ Some row → found ≡ slice_index (row_packing row) j

-- a word is loaded, which tells what holds of the seat
pub record Checks (step : Step (Unit {0})) (m : Me (Unit {0}) Seen) (found : ℕ) (n : Me (Unit {0}) Seen) : Type 0 where
  pub is : n ≡ m
  pub shown : (s : State) × IsShownIn s n.0

-- the pass is the first, and each other that was made was joined into it
pub record HasAll (v : Seen) : Type 0 where
  pub first : v.pass.number ≡ 0
  pub all : 1 + length v.pass.joined ≡ v.pass.made

-- A word is loaded by the seat of a pass that has all: the claim word and the ticket word count its cubes and its tickets, and
-- the head of a slot is that of the row that it knows there.
pub record Peeks (step : Step (Unit {0})) (m : Me (Unit {0}) Seen) (found : ℕ) (n : Me (Unit {0}) Seen) : Type 0 where
  pub is : n ≡ m
  pub good : (slot : ℕ) (row : Row) → find m.0.found slot ≡ Some row → IsRow row
  pub claimed : HasAll m.0 → step.word ≡ 0 → length m.0.pass.cubes ≡ min found m.0.setting.problem.cubes
  pub opened : HasAll m.0 → step.word ≡ 1 → length m.0.pass.tickets ≡ min found m.0.setting.problem.nodes
  pub head : HasAll m.0 → (slot : ℕ) → step.word ≡ word_at slot 0 → found ≡ head_at (known_of m.0 slot)
