-- What the passes of an exchange have and know, and the rows by slot.
use Rattle.std.specs.Prelude.{ℕ, ◌-◌, ◌≤◌, Bool, true, false, IsTrue, List, [], ◌∷◌, length, map, count_by, nat_lt, nat_le, if◌then◌else◌, slice_index, slice_index_or, Option, Some, None, is_some}
use Rattle.mr_set.specs.Elements.{is_element, numbers_below}
use Rattle.mr_frame.specs.Frame.{Framed}
use Rattle.mr_nogood.specs.declared.row.Row.{Row}
use Rattle.mr_nogood.specs.Follows.{Rows}
use Rattle.mr_nogood.specs.Packing.{head_of}
use Rattle.mr_exchange.specs.declared.TheConstants.{SHORT}
use Rattle.mr_exchange.specs.declared.problem.Problem.{Problem}
use Rattle.mr_exchange.specs.declared.ticket.Ticket.{Ticket}

-- What a pass has and knows: the cubes that it claimed, its tickets, the slots whose rows it knows, how often it looked,
-- the head that it saw last, the slot to look at next, and how often it was told that no cube and no ticket is left. The
-- first pass also has how many passes were made, and the numbers of those that were joined into it.
pub record Pass : Type 0 where
  pub live : Bool
  pub number : ℕ
  pub cubes : List ℕ
  pub tickets : List Ticket
  pub known : List ℕ
  pub looks : ℕ
  pub last_head : ℕ
  pub cursor : ℕ
  pub claim_ends : ℕ
  pub ticket_ends : ℕ
  pub made : ℕ
  pub joined : List ℕ

-- A frame and a problem, how many passes may be made, the claim word, the ticket word, the passes that were made, by their
-- numbers, and the rows by their slots.
pub record State : Type 0 where
  pub frame : Framed
  pub problem : Problem
  pub limit : ℕ
  pub claim : ℕ
  pub ticket : ℕ
  pub passes : List Pass
  pub rows : Rows

-- a new pass has and knows nothing
abbrev pub new_pass : ℕ → Pass
new_pass number = record { live = true; number = number; cubes = []; tickets = []; known = []; looks = 0; last_head = 0; cursor = 0; claim_ends = 0; ticket_ends = 0; made = 1; joined = [] }

-- what is left of a pass that was joined into another
abbrev pub spent : Pass
spent = record { live = false; number = 0; cubes = []; tickets = []; known = []; looks = 0; last_head = 0; cursor = 0; claim_ends = 0; ticket_ends = 0; made = 1; joined = [] }

-- at the start there is the first pass alone
abbrev pub new_state : Framed → Problem → ℕ → State
new_state f problem limit = record { frame = f; problem = problem; limit = limit; claim = 0; ticket = 0; passes = new_pass 0 ∷ []; rows = λ _. None }

-- the pass of a number; one that was not made has and knows nothing
abbrev pub pass_at : State → ℕ → Pass
pass_at s k = slice_index_or s.passes k spent

-- the pass was made and not joined into another
abbrev pub IsLive : State → ℕ → Type 0
IsLive s k = IsTrue (pass_at s k).live

-- the slots of tickets
abbrev pub slots_of : List Ticket → List ℕ
slots_of tickets = map (λ t. t.slot) tickets

-- the slot of the latest ticket
abbrev pub latest_of : List Ticket → ℕ
latest_of tickets = slice_index (slots_of tickets) (length tickets - 1)

-- how many pairs a map has
abbrev pub pair_count : List ℕ → ℕ
pair_count a = count_by (λ v. nat_lt 0 v) a

-- the clause has few pairs
abbrev pub IsShort : Row → Type 0
IsShort row = pair_count row.clause ≤ SHORT

-- the test of it
abbrev pub is_short : Row → Bool
is_short row = nat_le (pair_count row.clause) SHORT

-- the head of a slot: that of its row, or 0
abbrev pub head_at : Option Row → ℕ
head_at None = 0
head_at (Some row) = head_of row

-- the rows that a pass knows
abbrev pub known_rows : State → Pass → Rows
known_rows s p slot = if is_element p.known slot then s.rows slot else None

-- how many of the first slots have a row
abbrev pub row_count : ℕ → Rows → ℕ
row_count nodes rows = count_by (λ slot. is_some (rows slot)) (numbers_below nodes)
