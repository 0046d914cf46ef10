-- One pass's side of a board, and what its calls change and answer.
use Rattle.std.specs.Prelude.{◌≡◌, ℕ, ◌+◌, ◌-◌, ◌*◌, ◌/◌, ◌^◌, ◌<◌, ◌≤◌, min, List, [], ◌∷◌, ◌++◌, length, ◌==◌, if◌then◌else◌, count_by, slice_index, Option, Some, None, Contains}
use Rattle.mr_assign.specs.Assign.{IsPartOf}
use Rattle.mr_frame.specs.Frame.{Framed, IsFrame}
use Rattle.mr_frame.specs.Test.{IsAssignmentOf}
use Rattle.mr_nogood.specs.declared.row.Row.{Row}
use Rattle.mr_nogood.specs.Follows.{Rows, Follows, Excludes}
use Rattle.mr_exchange.specs.declared.TheConstants.{LOOKS, SHORT}
use Rattle.mr_exchange.specs.declared.problem.Problem.{Problem}
use Rattle.mr_exchange.specs.declared.ticket.Ticket.{Ticket}
use Rattle.mr_exchange.specs.declared.event.Look.{Look}
use Rattle.mr_exchange.specs.declared.event.Look.TheVariants.{Empty, Long, Short}
use Rattle.mr_exchange.specs.Cubes.{IsProblemOf}
use Rattle.mr_exchange.specs.State.{Pass, State, pass_at, slots_of, latest_of, IsShort, pair_count, head_at, known_rows}
use Rattle.mr_exchange.specs.Events.{IsNodeOf, with_row}
use Rattle.mr_exchange.specs.Rank.{HasLeastRank}
use Rattle.mr_exchange.specs.Sound.{IsInTurn}

-- What a pass that joined no other has and knows: the frame and the problem, the cubes that it claimed, its tickets, the
-- rows that it knows by their slots, how often it looked, the head that it saw last, the slot to look at next, and how often
-- it was told that no cube and no ticket is left.
pub record Holding : Type 0 where
  pub frame : Framed
  pub problem : Problem
  pub cubes : List ℕ
  pub tickets : List Ticket
  pub known : Rows
  pub looks : ℕ
  pub last_head : ℕ
  pub cursor : ℕ
  pub claim_ends : ℕ
  pub ticket_ends : ℕ

-- a new pass has and knows nothing
abbrev pub new_holding : Framed → Problem → Holding
new_holding f problem = record { frame = f; problem = problem; cubes = []; tickets = []; known = λ _. None; looks = 0; last_head = 0; cursor = 0; claim_ends = 0; ticket_ends = 0 }

-- what a pass has and knows in a state
abbrev pub holding_in : State → Pass → Holding
holding_in s p = record {
  frame = s.frame;
  problem = s.problem;
  cubes = p.cubes;
  tickets = p.tickets;
  known = known_rows s p;
  looks = p.looks;
  last_head = p.last_head;
  cursor = p.cursor;
  claim_ends = p.claim_ends;
  ticket_ends = p.ticket_ends;
}

-- the same of the pass of a number
abbrev pub holding_of : State → ℕ → Holding
holding_of s k = holding_in s (pass_at s k)

-- A row that a pass knows: no completion has its clause, which is an assignment without a value for the row's position, and
-- its rank and its slot are below the number of nodes.
pub record IsKnownRow (h : Holding) (slot : ℕ) (row : Row) : Type 0 where
  pub excludes : Excludes h.frame row
  pub clause : IsAssignmentOf h.frame row.clause
  pub position : row.at < length h.frame.places
  pub no_value : slice_index row.clause row.at ≡ 0
  pub rank : row.rank < h.problem.nodes
  pub in_range : slot < h.problem.nodes

-- What holds of a pass at any time: the frame is one and the problem is one of it, its cubes and its tickets are different
-- numbers in range, the node of each ticket has a cube of the pass, and it knows rows that exclude. For each ticket but the
-- latest the looks were made that are due.
pub record BoardFacts (h : Holding) : Type 0 where
  pub frame : IsFrame h.frame
  pub problem : IsProblemOf h.frame h.problem
  pub cubes : (c : ℕ) → Contains h.cubes c → c < h.problem.cubes
  pub cubes_once : (c : ℕ) → count_by (λ x. x == c) h.cubes ≤ 1
  pub few_cubes : length h.cubes ≤ h.problem.cubes
  pub tickets : (t : ℕ) → Contains (slots_of h.tickets) t → t < h.problem.nodes
  pub tickets_once : (t : ℕ) → count_by (λ x. x == t) (slots_of h.tickets) ≤ 1
  pub few_tickets : length h.tickets ≤ h.problem.nodes
  pub nodes : (ticket : Ticket) → Contains h.tickets ticket → IsNodeOf h.frame h.problem.depth h.cubes ticket.node
  pub known : (slot : ℕ) (row : Row) → h.known slot ≡ Some row → IsKnownRow h slot row
  pub looks : h.looks ≤ LOOKS * h.problem.nodes
  pub turn : IsInTurn h.tickets h.looks h.cursor

-- none of the rows that is short has its clause in the node
abbrev pub Avoids : Rows → List ℕ → Type 0
Avoids known node = (slot : ℕ) (row : Row) → known slot ≡ Some row → IsShort row → ¬ (IsPartOf row.clause node)

-- A board opens a node of one of the pass's cubes that avoids the short rows that are known, once the looks were made that
-- are due for its tickets, until it told that there is no ticket left.
pub record CanOpen (h : Holding) (node : List ℕ) : Type 0 where
  pub no_end : h.ticket_ends ≡ 0
  pub is_node : IsNodeOf h.frame h.problem.depth h.cubes node
  pub avoids : Avoids h.known node
  pub looked : LOOKS * length h.tickets ≤ h.looks

-- it publishes in a slot of the pass's own without a row a row that follows from the known ones, with the least rank
pub record CanPublish (h : Holding) (slot : ℕ) (row : Row) : Type 0 where
  pub own : Contains (slots_of h.tickets) slot
  pub empty : h.known slot ≡ None
  pub follows : Follows h.frame h.known row
  pub rank : HasLeastRank h.known row

-- the pass was given this cube, which is a new one
pub record GainsCube (h : Holding) (cube : ℕ) (after : Holding) : Type 0 where
  pub low : cube < h.problem.cubes
  pub new : ¬ (Contains h.cubes cube)
  pub is : after ≡ record h { cubes = h.cubes ++ cube ∷ [] }

-- what a claim answers and changes: a cube is gained, or the pass has an end
abbrev pub Claimed : Holding → Option ℕ → Holding → Type 0
Claimed h None after = after ≡ record h { claim_ends = h.claim_ends + 1 }
Claimed h (Some cube) after = GainsCube h cube after

-- the pass drew this ticket for the node: it is above all that the pass has, and the pass knows no row in that slot
pub record GainsTicket (h : Holding) (node : List ℕ) (ticket : ℕ) (after : Holding) : Type 0 where
  pub low : ticket < h.problem.nodes
  pub above : (t : ℕ) → Contains (slots_of h.tickets) t → t < ticket
  pub unknown : h.known ticket ≡ None
  pub is : after ≡ record h { tickets = h.tickets ++ record { slot = ticket; node = node } ∷ [] }

-- what an opening answers and changes: a ticket is gained, or the pass has an end
abbrev pub Opened : Holding → List ℕ → Option ℕ → Holding → Type 0
Opened h node None after = after ≡ record h { ticket_ends = h.ticket_ends + 1 }
Opened h node (Some ticket) after = GainsTicket h node ticket after

-- The pass goes on from the slot at its cursor, which has this row or none. The count of looks rests where no more can be
-- due, and the cursor goes back to 0 after the latest ticket.
abbrev pub going_on : Option Row → Holding → Holding
going_on found h = record h {
  looks = min (h.looks + 1) (LOOKS * h.problem.nodes);
  last_head = head_at found;
  cursor = if h.cursor == latest_of h.tickets then 0 else h.cursor + 1;
}

-- The slot at the cursor may have this row: where the pass knows one there, it is that one, and where the slot is the pass's
-- own, the pass knows it.
pub record MayHave (h : Holding) (row : Row) : Type 0 where
  pub same : (known : Row) → h.known h.cursor ≡ Some known → known ≡ row
  pub own : Contains (slots_of h.tickets) h.cursor → h.known h.cursor ≡ Some row

-- the slot at the cursor has a row with a long clause, and the pass went on
pub record SeesLong (h after : Holding) : Type 0 where
  pub row : Row
  pub there : MayHave h row
  pub long : SHORT < pair_count row.clause
  pub is : after ≡ going_on (Some row) h

-- the slot at the cursor has this row, the clause is short, and the pass went on and knows it
pub record SeesShort (h : Holding) (slot : ℕ) (row : Row) (after : Holding) : Type 0 where
  pub place : slot ≡ h.cursor
  pub there : MayHave h row
  pub short : IsShort row
  pub is : after ≡ record (going_on (Some row) h) { known = with_row h.known slot row }

-- what a look answers and changes
abbrev pub Looked : Holding → Look → Holding → Type 0
Looked h Empty after = (h.known h.cursor ≡ None) × (after ≡ going_on None h)
Looked h Long after = SeesLong h after
Looked h (Short slot row) after = SeesShort h slot row after

-- how many pairs a head shows
abbrev pub pairs_shown : ℕ → ℕ
pairs_shown head = (head - 2 ^ 63) / 2 ^ 40

-- what a publication changes: the row becomes known
abbrev pub Published : Holding → ℕ → Row → Holding → Type 0
Published h slot row after = after ≡ record h { known = with_row h.known slot row }
