-- Which events a state allows, what each changes, and whole lists of events.
use Rattle.std.specs.Prelude.{◌≡◌, ◌≢◌, ℕ, ◌+◌, ◌*◌, ◌<◌, ◌≤◌, min, List, [], ◌∷◌, ◌++◌, length, nat_lt, ◌==◌, if◌then◌else◌, slice_get, slice_set, Option, Some, None, Contains, take}
use Rattle.mr_set.specs.Elements.{is_element}
use Rattle.mr_assign.specs.Assign.{IsPartOf}
use Rattle.mr_frame.specs.Frame.{Framed}
use Rattle.mr_frame.specs.Test.{IsAssignmentOf}
use Rattle.mr_nogood.specs.declared.row.Row.{Row}
use Rattle.mr_nogood.specs.Follows.{Rows, Follows}
use Rattle.mr_exchange.specs.declared.TheConstants.{LOOKS}
use Rattle.mr_exchange.specs.declared.event.Event.{Event}
use Rattle.mr_exchange.specs.declared.event.Event.TheVariants.{Claim, OpenNode, LookAt, Publish, Split, Join}
use Rattle.mr_exchange.specs.declared.event.Look.{Look}
use Rattle.mr_exchange.specs.declared.event.Look.TheVariants.{Empty, Long, Short}
use Rattle.mr_exchange.specs.declared.event.Reply.{Reply}
use Rattle.mr_exchange.specs.declared.event.Reply.TheVariants.{Cube, Ticket as Drawn, Seen, Done}
use Rattle.mr_exchange.specs.Cubes.{cube_at}
use Rattle.mr_exchange.specs.State.{Pass, State, spent, new_pass, pass_at, IsLive, slots_of, latest_of, IsShort, is_short, head_at, known_rows}
use Rattle.mr_exchange.specs.Rank.{HasLeastRank}

-- the node is an assignment that has the pairs of one of these cubes
pub record IsNodeOf (f : Framed) (depth : ℕ) (cubes : List ℕ) (node : List ℕ) : Type 0 where
  pub assignment : IsAssignmentOf f node
  pub cube : ℕ
  pub claimed : Contains cubes cube
  pub contains : IsPartOf (cube_at f depth cube) node

-- no short row that the pass knows has its clause in the node
abbrev pub AvoidsKnownRows : State → Pass → List ℕ → Type 0
AvoidsKnownRows s p node = (slot : ℕ) (row : Row) → Contains p.known slot → s.rows slot ≡ Some row → IsShort row → ¬ (IsPartOf row.clause node)

-- a pass claims until it was told that there is no cube left
pub record MayClaim (s : State) (k : ℕ) : Type 0 where
  pub live : IsLive s k
  pub no_end : (pass_at s k).claim_ends ≡ 0

-- a pass that joined no other opens a node of one of its cubes until it was told that there is no ticket left
pub record MayOpen (s : State) (k : ℕ) (node : List ℕ) : Type 0 where
  pub live : IsLive s k
  pub alone : (pass_at s k).joined ≡ []
  pub no_end : (pass_at s k).ticket_ends ≡ 0
  pub is_node : IsNodeOf s.frame s.problem.depth (pass_at s k).cubes node
  pub avoids : AvoidsKnownRows s (pass_at s k) node
  pub looked : LOOKS * length (pass_at s k).tickets ≤ (pass_at s k).looks

-- a pass that joined no other and has a ticket looks
pub record MayLook (s : State) (k : ℕ) : Type 0 where
  pub live : IsLive s k
  pub alone : (pass_at s k).joined ≡ []
  pub some_ticket : (pass_at s k).tickets ≢ []

-- a pass publishes in a slot of its own without a row a row that follows from those that it knows, with the least rank
pub record MayPublish (s : State) (k slot : ℕ) (row : Row) : Type 0 where
  pub live : IsLive s k
  pub own : Contains (slots_of (pass_at s k).tickets) slot
  pub empty : s.rows slot ≡ None
  pub follows : Follows s.frame (known_rows s (pass_at s k)) row
  pub rank : HasLeastRank (known_rows s (pass_at s k)) row

-- another pass is joined into the first
pub record MayJoin (s : State) (k : ℕ) : Type 0 where
  pub live : IsLive s k
  pub other : k ≢ 0

-- the state allows the event
abbrev pub IsAllowedEvent : State → Event → Type 0
IsAllowedEvent s (Claim k) = MayClaim s k
IsAllowedEvent s (OpenNode k node) = MayOpen s k node
IsAllowedEvent s (LookAt k) = MayLook s k
IsAllowedEvent s (Publish k slot row) = MayPublish s k slot row
IsAllowedEvent s Split = (pass_at s 0).made < s.limit
IsAllowedEvent s (Join k) = MayJoin s k

-- the slots that are known, and this one
abbrev pub knowing : ℕ → List ℕ → List ℕ
knowing slot known = if is_element known slot then known else known ++ slot ∷ []

-- a pass that found this number in the claim word
abbrev pub claimed : ℕ → ℕ → Pass → Pass
claimed cubes word p =
    if nat_lt word cubes
    then record p { cubes = p.cubes ++ word ∷ [] }
    else record p { claim_ends = p.claim_ends + 1 }

-- a pass that opened the node and found this number in the ticket word
abbrev pub opened : ℕ → ℕ → List ℕ → Pass → Pass
opened nodes word node p =
    if nat_lt word nodes
    then record p { tickets = p.tickets ++ record { slot = word; node = node } ∷ [] }
    else record p { ticket_ends = p.ticket_ends + 1 }

-- the slots that are known after a look at this one
abbrev pub known_after : ℕ → Option Row → List ℕ → List ℕ
known_after slot None known = known
known_after slot (Some row) known = if is_short row then knowing slot known else known

-- A pass that looked at the slot at its cursor. The count of looks rests where no more can be due, and the cursor goes back
-- to 0 after the latest ticket.
abbrev pub looked : ℕ → Rows → Pass → Pass
looked nodes rows p = record p {
  known = known_after p.cursor (rows p.cursor) p.known;
  looks = min (p.looks + 1) (LOOKS * nodes);
  last_head = head_at (rows p.cursor);
  cursor = if p.cursor == latest_of p.tickets then 0 else p.cursor + 1;
}

-- a pass that published in the slot
abbrev pub published : ℕ → Pass → Pass
published slot p = record p { known = knowing slot p.known }

-- a pass with all that another has and knows
abbrev pub joins : Pass → Pass → Pass
joins p q = record p {
  cubes = p.cubes ++ q.cubes;
  tickets = p.tickets ++ q.tickets;
  known = p.known ++ q.known;
  claim_ends = p.claim_ends + q.claim_ends;
  ticket_ends = p.ticket_ends + q.ticket_ends;
  joined = p.joined ++ q.number ∷ [];
}

-- the rows with one more
abbrev pub with_row : Rows → ℕ → Row → Rows
with_row rows slot row other = if other == slot then Some row else rows other

-- the state with another pass of this number
abbrev pub with_pass : State → ℕ → Pass → State
with_pass s k p = record s { passes = slice_set s.passes k p }

-- the state after an event that is allowed
abbrev pub state_after : State → Event → State
state_after s (Claim k) = record s { claim = s.claim + 1; passes = slice_set s.passes k (claimed s.problem.cubes s.claim (pass_at s k)) }
state_after s (OpenNode k node) = record s { ticket = s.ticket + 1; passes = slice_set s.passes k (opened s.problem.nodes s.ticket node (pass_at s k)) }
state_after s (LookAt k) = with_pass s k (looked s.problem.nodes s.rows (pass_at s k))
state_after s (Publish k slot row) = record s { passes = slice_set s.passes k (published slot (pass_at s k)); rows = with_row s.rows slot row }
state_after s Split =
    let first = pass_at s 0 in
    record s { passes = slice_set s.passes 0 (record first { made = first.made + 1 }) ++ new_pass first.made ∷ [] }
state_after s (Join k) = with_pass (with_pass s 0 (joins (pass_at s 0) (pass_at s k))) k spent

-- what a look at a slot shows
abbrev pub seen : ℕ → Option Row → Look
seen slot None = Empty
seen slot (Some row) = if is_short row then Short slot row else Long

-- what an event that is allowed answers
abbrev pub reply_of : State → Event → Reply
reply_of s (Claim k) = Cube (if nat_lt s.claim s.problem.cubes then Some s.claim else None)
reply_of s (OpenNode k node) = Drawn (if nat_lt s.ticket s.problem.nodes then Some s.ticket else None)
reply_of s (LookAt k) = Seen (seen (pass_at s k).cursor (s.rows (pass_at s k).cursor))
reply_of s (Publish k slot row) = Done
reply_of s Split = Done
reply_of s (Join k) = Done

-- the events are allowed one after another, and lead from s to t
abbrev pub Replays : State → List Event → State → Type 0
Replays s [] t = t ≡ s
Replays s (e ∷ es) t = IsAllowedEvent s e × Replays (state_after s e) es t

-- the events before this place are allowed, and the one at it isn't
pub record IsFirstRefused (s : State) (es : List Event) (place : ℕ) : Type 0 where
  pub event : Event
  pub reached : State
  pub at : slice_get es place ≡ Some event
  pub before : Replays s (take place es) reached
  pub refused : ¬ (IsAllowedEvent reached event)
