-- The kinds of step of a running store. Whatever the table is when the step is made, the state that is shown after it is the
-- one after the step's event, and the rule holds.
use Rattle.std.specs.Prelude.{◌≡◌, ◌≢◌, ℕ, ◌+◌, ◌%◌, ◌^◌, ◌<◌, ◌≤◌, IsTrue, List, [], ◌∷◌, ◌++◌, slice_index, slice_set, Some, None, Contains}
use mathlib.Core.Option.{none, some}
use lib.ListN.{get_elem?}
use Rattle.atomic_table.specs.Table.{State, Me, Allows, Splits, Joins, step}
use Rattle.mr_nogood.specs.declared.TheConstants.{ROW_WORDS}
use Rattle.mr_nogood.specs.declared.row.Row.{Row}
use Rattle.mr_nogood.specs.Row.{IsRow}
use Rattle.mr_nogood.specs.Packing.{row_packing, head_of}
use Rattle.mr_exchange.specs.declared.event.Event.{Event}
use Rattle.mr_exchange.specs.declared.event.Event.TheVariants.{Claim, OpenNode, LookAt, Publish, Split, Join}
use Rattle.mr_exchange.specs.State.{slots_of}
use Rattle.mr_exchange.specs.Events.{IsAllowedEvent, state_after}
use Rattle.mr_exchange.specs.Board.{CanOpen, CanPublish}
use Rattle.mr_store.specs.Seats.{Setting, Seen, find, word_at, known_of, holding_seen, view_claimed, view_opened, view_laid, view_published, view_looked, view_made, view_new, view_joined, view_spent}
use Rattle.mr_store.specs.Shown.{shown, rows_in_words, Holds}
use Rattle.mr_store.specs.Steps.{Claims, Opens, Lays, Publishes, Looks, Reads}

-- one is added to the claim word by a pass that was not told that no cube is left
abbrev pub ClaimsKeepTheRule : Type 0
ClaimsKeepTheRule = (g : Setting) (slots id : ℕ) (m : Me (Unit {0}) Seen) → IsTrue m.0.pass.live → m.0.pass.claim_ends ≡ 0 → Allows (Holds g) slots id m 0 (λ n. (n + 1) % 2 ^ 64) (Claims (step slots 0 1 0 none) m)

-- one is added to the ticket word by a pass that may open the node
abbrev pub OpeningsKeepTheRule : Type 0
OpeningsKeepTheRule = (g : Setting) (slots id : ℕ) (m : Me (Unit {0}) Seen) (node : List ℕ) → IsTrue m.0.pass.live → m.0.pass.joined ≡ [] → CanOpen (holding_seen m.0) node
    → Allows (Holds g) slots id m 1 (λ n. (n + 1) % 2 ^ 64) (Opens node (step slots 1 1 0 none) m)

-- any number is stored behind the head of a slot of the pass's own in which it knows no row
abbrev pub StoresKeepTheRule : Type 0
StoresKeepTheRule = (g : Setting) (slots id : ℕ) (m : Me (Unit {0}) Seen) (slot j n : ℕ) → IsTrue m.0.pass.live → Contains (slots_of m.0.pass.tickets) slot → known_of m.0 slot ≡ None → 1 ≤ j → j < ROW_WORDS
    → Allows (Holds g) slots id m (word_at slot j) (λ _. n) (λ _. Lays (step slots (word_at slot j) n 0 none) m n)

-- the head of a row is stored that the pass may publish, and whose other words it stored last
abbrev pub PublicationsKeepTheRule : Type 0
PublicationsKeepTheRule = (g : Setting) (slots id : ℕ) (m : Me (Unit {0}) Seen) (slot : ℕ) (row : Row) → IsTrue m.0.pass.live → CanPublish (holding_seen m.0) slot row → IsRow row
    → ((j : ℕ) → 1 ≤ j → j < ROW_WORDS → find m.0.laid (word_at slot j) ≡ Some (slice_index (row_packing row) j))
    → Allows (Holds g) slots id m (word_at slot 0) (λ _. head_of row) (λ _. Publishes slot row (step slots (word_at slot 0) (head_of row) 0 none) m (head_of row))

-- the head of the slot at the cursor is loaded by a pass that has a ticket
abbrev pub LooksKeepTheRule : Type 0
LooksKeepTheRule = (g : Setting) (slots id : ℕ) (m : Me (Unit {0}) Seen) → IsTrue m.0.pass.live → m.0.pass.joined ≡ [] → m.0.pass.tickets ≢ []
    → Allows (Holds g) slots id m (word_at m.0.pass.cursor 0) (λ n. n) (Looks (step slots (word_at m.0.pass.cursor 0) 0 0 none) m)

-- any word is loaded: where it is one of a slot in which the pass found a row, it is that row's
abbrev pub LoadsKeepTheRule : Type 0
LoadsKeepTheRule = (g : Setting) (slots id i : ℕ) (m : Me (Unit {0}) Seen) → IsTrue m.0.pass.live → Allows (Holds g) slots id m i (λ n. n) (Reads (step slots i 0 0 none) m)

-- a seat is split off that of the first pass, where another pass may be made
abbrev pub SplitsKeepTheRule : Type 0
SplitsKeepTheRule = (g : Setting) (id : ℕ) (v : Seen) → IsTrue v.pass.live → v.pass.number ≡ 0 → v.pass.made < v.setting.limit → Splits (Holds g) id v (view_made v) (view_new v)

-- a seat is joined into that of the first pass
abbrev pub JoinsKeepTheRule : Type 0
JoinsKeepTheRule = (g : Setting) (id k : ℕ) (v w : Seen) → IsTrue v.pass.live → v.pass.number ≡ 0 → IsTrue w.pass.live → Joins (Holds g) id v k w (view_joined v w) view_spent

-- the state that is shown allows the event, and the one that is shown then is the one after it
pub record IsStep (g : Setting) (words : List ℕ) (views : List Seen) (e : Event) (after_words : List ℕ) (after_views : List Seen) : Type 0 where
  pub allowed : IsAllowedEvent (shown g words views) e
  pub next : state_after (shown g words views) e ≡ shown g after_words after_views

-- a claim is the event of the seat's pass
abbrev pub ClaimsAreEvents : Type 0
ClaimsAreEvents = (g : Setting) (s : State (Unit {0}) Seen) (id : ℕ) (v : Seen) → Holds g s → get_elem? s.views id ≡ some v → IsTrue v.pass.live → v.pass.claim_ends ≡ 0
    → IsStep g s.words s.views (Claim id) (slice_set s.words 0 ((slice_index s.words 0 + 1) % 2 ^ 64)) (slice_set s.views id (view_claimed (slice_index s.words 0) v))

-- and so is an opening
abbrev pub OpeningsAreEvents : Type 0
OpeningsAreEvents = (g : Setting) (s : State (Unit {0}) Seen) (id : ℕ) (v : Seen) (node : List ℕ) → Holds g s → get_elem? s.views id ≡ some v → IsTrue v.pass.live → v.pass.joined ≡ [] → CanOpen (holding_seen v) node
    → IsStep g s.words s.views (OpenNode id node) (slice_set s.words 1 ((slice_index s.words 1 + 1) % 2 ^ 64)) (slice_set s.views id (view_opened (slice_index s.words 1) node v))

-- a store behind a head leaves the state that is shown
abbrev pub StoresLeaveTheState : Type 0
StoresLeaveTheState = (g : Setting) (s : State (Unit {0}) Seen) (id : ℕ) (v : Seen) (slot j n : ℕ) → Holds g s → get_elem? s.views id ≡ some v → IsTrue v.pass.live → Contains (slots_of v.pass.tickets) slot → known_of v slot ≡ None → 1 ≤ j → j < ROW_WORDS
    → shown g s.words s.views ≡ shown g (slice_set s.words (word_at slot j) n) (slice_set s.views id (view_laid (word_at slot j) n v))

-- a store of a head is the publication
abbrev pub PublicationsAreEvents : Type 0
PublicationsAreEvents = (g : Setting) (s : State (Unit {0}) Seen) (id : ℕ) (v : Seen) (slot : ℕ) (row : Row) → Holds g s → get_elem? s.views id ≡ some v → IsTrue v.pass.live → CanPublish (holding_seen v) slot row → IsRow row
    → ((j : ℕ) → 1 ≤ j → j < ROW_WORDS → find v.laid (word_at slot j) ≡ Some (slice_index (row_packing row) j))
    → IsStep g s.words s.views (Publish id slot row) (slice_set s.words (word_at slot 0) (head_of row)) (slice_set s.views id (view_published slot row v))

-- a load of the head at the cursor is the look, at which the seat gains the row of the slot
abbrev pub LooksAreEvents : Type 0
LooksAreEvents = (g : Setting) (s : State (Unit {0}) Seen) (id : ℕ) (v : Seen) → Holds g s → get_elem? s.views id ≡ some v → IsTrue v.pass.live → v.pass.joined ≡ [] → v.pass.tickets ≢ []
    → IsStep g s.words s.views (LookAt id) s.words (slice_set s.views id (view_looked (rows_in_words s.words v.pass.cursor) v))

-- a split is one of the exchange
abbrev pub SplitsAreEvents : Type 0
SplitsAreEvents = (g : Setting) (s : State (Unit {0}) Seen) (v : Seen) → Holds g s → get_elem? s.views 0 ≡ some v → IsTrue v.pass.live → v.pass.made < v.setting.limit
    → IsStep g s.words s.views Split s.words (slice_set s.views 0 (view_made v) ++ view_new v ∷ [])

-- and so is a join
abbrev pub JoinsAreEvents : Type 0
JoinsAreEvents = (g : Setting) (s : State (Unit {0}) Seen) (v : Seen) (k : ℕ) (w : Seen) → Holds g s → get_elem? s.views 0 ≡ some v → IsTrue v.pass.live → k ≢ 0 → get_elem? s.views k ≡ some w → IsTrue w.pass.live
    → IsStep g s.words s.views (Join k) s.words (slice_set (slice_set s.views 0 (view_joined v w)) k view_spent)
