-- A board for one pass.
use Rattle.std.specs.Prelude.{◌≡◌, ℕ, ◌<◌, List, length, Option}
use Rattle.mr_set.specs.Elements.{numbers_below}
use Rattle.mr_frame.specs.Frame.{Framed}
use Rattle.mr_nogood.specs.declared.row.Row.{Row}
use Rattle.mr_nogood.specs.Follows.{in_slots}
use Rattle.mr_exchange.specs.declared.problem.Problem.{Problem}
use Rattle.mr_exchange.specs.declared.ticket.Ticket.{Ticket}
use Rattle.mr_exchange.specs.State.{slots_of}
use Rattle.mr_exchange.specs.Board.{Holding}

-- what such a board has: all that its pass has, and the rows by their slots
pub record PlainIs : Type 0 where
  pub frame : Framed
  pub problem : Problem
  pub cubes : List ℕ
  pub tickets : List Ticket
  pub rows : List (Option Row)
  pub looks : ℕ
  pub last_head : ℕ
  pub cursor : ℕ
  pub claim_ends : ℕ
  pub ticket_ends : ℕ

-- the same from its parts
abbrev pub plain_is : Framed → Problem → List ℕ → List Ticket → List (Option Row) → ℕ → ℕ → ℕ → ℕ → ℕ → PlainIs
plain_is f problem cubes tickets rows looks last_head cursor claim_ends ticket_ends = record {
  frame = f;
  problem = problem;
  cubes = cubes;
  tickets = tickets;
  rows = rows;
  looks = looks;
  last_head = last_head;
  cursor = cursor;
  claim_ends = claim_ends;
  ticket_ends = ticket_ends;
}

-- what its pass has and knows: it knows all the rows
abbrev pub plain_holding : PlainIs → Holding
plain_holding p = record {
  frame = p.frame;
  problem = p.problem;
  cubes = p.cubes;
  tickets = p.tickets;
  known = in_slots p.rows;
  looks = p.looks;
  last_head = p.last_head;
  cursor = p.cursor;
  claim_ends = p.claim_ends;
  ticket_ends = p.ticket_ends;
}

-- its cubes and its tickets are the numbers from 0 on, in order, and all of them where it was told that none is left
pub record IsPlainPass (h : Holding) : Type 0 where
  pub cubes : h.cubes ≡ numbers_below (length h.cubes)
  pub all_cubes : 0 < h.claim_ends → length h.cubes ≡ h.problem.cubes
  pub tickets : slots_of h.tickets ≡ numbers_below (length h.tickets)
  pub all_tickets : 0 < h.ticket_ends → length h.tickets ≡ h.problem.nodes
