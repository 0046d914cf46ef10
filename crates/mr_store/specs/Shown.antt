-- The state that the words and what the seats know show, and the rule that holds between any two steps.
use Rattle.std.specs.Prelude.{◌≡◌, ◌↔◌, ◌⊎◌, ℕ, ◌<◌, ◌≤◌, IsTrue, List, map, length, slice_index, Some, Contains}
use mathlib.Core.Option.{some}
use lib.ListN.{get_elem?}
use Rattle.atomic_table.specs.Table as table
use Rattle.mr_frame.specs.Frame.{IsFrame}
use Rattle.mr_nogood.specs.declared.TheConstants.{ROW_WORDS}
use Rattle.mr_nogood.specs.declared.row.Row.{Row}
use Rattle.mr_nogood.specs.Row.{IsRow}
use Rattle.mr_nogood.specs.Follows.{Rows}
use Rattle.mr_nogood.specs.Packing.{row_packing}
use Rattle.mr_exchange.specs.declared.TheConstants.{PASSES}
use Rattle.mr_exchange.specs.declared.ticket.Ticket.{Ticket}
use Rattle.mr_exchange.specs.Cubes.{IsProblemOf}
use Rattle.mr_exchange.specs.State.{State, slots_of, IsShort}
use Rattle.mr_exchange.specs.Sound.{IsSound}
use Rattle.mr_exchange.specs.Words.{words_at, row_read}
use Rattle.mr_store.specs.Seats.{Setting, Seen, find, or_zero, word_at}

-- the words of a slot
abbrev pub slot_words : List ℕ → ℕ → List ℕ
slot_words words slot = words_at words (word_at slot 0)

-- a slot has the row that is read from its words, where its head isn't 0
unfoldable pub rows_in_words : List ℕ → Rows
rows_in_words words slot = row_read (slot_words words slot)

-- The state that is shown: the claim word and the ticket word, the passes of the seats, and the rows that the words have.
abbrev pub shown : Setting → List ℕ → List Seen → State
shown g words views = record {
  frame = g.frame;
  problem = g.problem;
  limit = g.limit;
  claim = slice_index words 0;
  ticket = slice_index words 1;
  passes = map (λ (v : Seen). v.pass) views;
  rows = rows_in_words words;
}

-- the setting of a state
abbrev pub setting_of : State → Setting
setting_of s = record { frame = s.frame; problem = s.problem; limit = s.limit }

-- a row was found in the slot, and it is short, or the slot is the pass's own
pub record IsFound (found : List (ℕ × Row)) (tickets : List Ticket) (slot : ℕ) : Type 0 where
  pub row : Row
  pub at : find found slot ≡ Some row
  pub why : IsShort row ⊎ Contains (slots_of tickets) slot

-- the word is one of a slot of the pass's own, behind the head
pub record IsOwnWord (tickets : List Ticket) (i : ℕ) : Type 0 where
  pub slot : ℕ
  pub j : ℕ
  pub at : i ≡ word_at slot j
  pub behind : (1 ≤ j) × (j < ROW_WORDS)
  pub own : Contains (slots_of tickets) slot

-- What a live seat knows is so: the setting is that of the table, the rows that it found and those that it was given are those
-- of the slots, and its pass knows just those that it found and that are short or in slots of its own. Behind the heads of its own slots stand the words that it
-- stored last, and 0 where it stored none; it stored no others.
pub record IsTied (s : State) (words : List ℕ) (v : Seen) : Type 0 where
  pub setting : setting_of s ≡ v.setting
  pub found : (slot : ℕ) (row : Row) → Contains v.found (slot, row) → s.rows slot ≡ Some row
  pub given : (slot : ℕ) (row : Row) → Contains v.given (slot, row) → s.rows slot ≡ Some row
  pub known : (slot : ℕ) → Contains v.pass.known slot ↔ IsFound v.found v.pass.tickets slot
  pub laid : (slot j : ℕ) → Contains (slots_of v.pass.tickets) slot → 1 ≤ j → j < ROW_WORDS → slice_index words (word_at slot j) ≡ or_zero (find v.laid (word_at slot j))
  pub own : (i n : ℕ) → find v.laid i ≡ Some n → IsOwnWord v.pass.tickets i

-- The words of a slot with a row are its packing, and those of a slot that wasn't drawn are 0.
pub record AreTied (g : Setting) (words : List ℕ) (views : List Seen) : Type 0 where
  pub size : length words ≡ word_at g.problem.nodes 0
  pub each : (k : ℕ) (v : Seen) → get_elem? views k ≡ some v → IsTrue v.pass.live → IsTied (shown g words views) words v
  pub packed : (slot : ℕ) (row : Row) → rows_in_words words slot ≡ Some row → IsRow row × (slot_words words slot ≡ row_packing row)
  pub undrawn : (slot j : ℕ) → slice_index words 1 ≤ slot → j < ROW_WORDS → slice_index words (word_at slot j) ≡ 0

-- The rule: words and seats show a sound state of the frame and the problem, and what the seats know is so.
pub record Holds (g : Setting) (s : table.State (Unit {0}) Seen) : Type 0 where
  pub frame : IsFrame g.frame
  pub problem : IsProblemOf g.frame g.problem
  pub limit : g.limit ≤ PASSES
  pub sound : IsSound (shown g s.words s.views)
  pub tied : AreTied g s.words s.views
