-- What a sound state says of one live pass by itself.
use Rattle.std.specs.Prelude.{◌≡◌, ◌↔◌, ℕ, ◌+◌, ◌*◌, ◌<◌, ◌≤◌, min, [], length, ◌==◌, count_by, Contains, Some, IsSome}
use Rattle.mr_nogood.specs.declared.row.Row.{Row}
use Rattle.mr_nogood.specs.Follows.{Excludes}
use Rattle.mr_exchange.specs.declared.ticket.Ticket.{Ticket}
use Rattle.mr_exchange.specs.State.{Pass, State, slots_of}
use Rattle.mr_exchange.specs.Events.{IsNodeOf}
use Rattle.mr_exchange.specs.Sound.{IsInTurn}
use Rattle.mr_exchange.specs.declared.TheConstants.{LOOKS}

-- the slot has a row that excludes, of a rank below the number of nodes
pub record HasKnownRow (s : State) (slot : ℕ) : Type 0 where
  pub row : Row
  pub at : s.rows slot ≡ Some row
  pub excludes : Excludes s.frame row
  pub rank : row.rank < s.problem.nodes

-- Its cubes and its tickets are the numbers from 0 on, each once, and all of them where it was told that none is left. It
-- knows each slot that has a row.
pub record IsWhole (s : State) (p : Pass) : Type 0 where
  pub cubes : (c : ℕ) → Contains p.cubes c ↔ (c < length p.cubes)
  pub claimed : length p.cubes ≡ min s.claim s.problem.cubes
  pub claim_end : 0 < p.claim_ends → length p.cubes ≡ s.problem.cubes
  pub tickets : (t : ℕ) → Contains (slots_of p.tickets) t ↔ (t < length p.tickets)
  pub opened : length p.tickets ≡ min s.ticket s.problem.nodes
  pub ticket_end : 0 < p.ticket_ends → length p.tickets ≡ s.problem.nodes
  pub rows : (slot : ℕ) → IsSome (s.rows slot) ↔ Contains p.known slot

-- Its cubes and its tickets are different numbers, each given out and in range. A slot that it knows has a row. A slot of
-- its own has a row just where it knows it. The passes that were joined into it are different ones that were made, and none
-- of them is the first; it was told at most once that nothing is left, and once more for each of them. The first pass has
-- the whole where each other pass was joined into it.
pub record PassFacts (s : State) (p : Pass) : Type 0 where
  pub cubes : (c : ℕ) → Contains p.cubes c → c < min s.claim s.problem.cubes
  pub cubes_once : (c : ℕ) → count_by (λ x. x == c) p.cubes ≤ 1
  pub few_cubes : length p.cubes ≤ s.problem.cubes
  pub tickets : (t : ℕ) → Contains (slots_of p.tickets) t → t < min s.ticket s.problem.nodes
  pub tickets_once : (t : ℕ) → count_by (λ x. x == t) (slots_of p.tickets) ≤ 1
  pub few_tickets : length p.tickets ≤ s.problem.nodes
  pub looks : p.looks ≤ LOOKS * s.problem.nodes
  pub turn : p.joined ≡ [] → IsInTurn p.tickets p.looks p.cursor
  pub nodes : (ticket : Ticket) → Contains p.tickets ticket → IsNodeOf s.frame s.problem.depth p.cubes ticket.node
  pub known : (slot : ℕ) → Contains p.known slot → HasKnownRow s slot
  pub drawn : (slot : ℕ) → Contains p.known slot → slot < min s.ticket s.problem.nodes
  pub own : (slot : ℕ) → Contains (slots_of p.tickets) slot → IsSome (s.rows slot) ↔ Contains p.known slot
  pub joined : (k : ℕ) → Contains p.joined k → (1 ≤ k) × (k < p.made)
  pub joined_once : (k : ℕ) → count_by (λ x. x == k) p.joined ≤ 1
  pub claim_ends : p.claim_ends ≤ 1 + length p.joined
  pub ticket_ends : p.ticket_ends ≤ 1 + length p.joined
  pub whole : p.number ≡ 0 → 1 + length p.joined ≡ p.made → IsWhole s p
