-- What holds of each state that events lead to.
use Rattle.std.specs.Prelude.{◌≡◌, ◌≢◌, ◌↔◌, ℕ, ◌+◌, ◌*◌, ◌-◌, ◌<◌, ◌≤◌, min, List, [], length, ◌==◌, count_by, sum_by, Contains, Some, IsSome}
use Rattle.mr_nogood.specs.declared.row.Row.{Row}
use Rattle.mr_frame.specs.Frame.{Framed}
use Rattle.mr_nogood.specs.Follows.{Rows, Follows}
use Rattle.mr_exchange.specs.declared.TheConstants.{LOOKS}
use Rattle.mr_exchange.specs.declared.ticket.Ticket.{Ticket}
use Rattle.mr_exchange.specs.State.{Pass, State, spent, pass_at, IsLive, slots_of, latest_of, row_count}
use Rattle.mr_exchange.specs.Events.{IsNodeOf}
use Rattle.mr_exchange.specs.Rank.{HasLeastRank}

-- what live passes have are the numbers below n, each in one pass, once
pub record AreDealt (have : Pass → List ℕ) (s : State) (n : ℕ) : Type 0 where
  pub below : (k c : ℕ) → IsLive s k → Contains (have (pass_at s k)) c → c < n
  pub each : (c : ℕ) → c < n → (k : ℕ) × IsLive s k × Contains (have (pass_at s k)) c
  pub one : (j k c : ℕ) → IsLive s j → IsLive s k → Contains (have (pass_at s j)) c → Contains (have (pass_at s k)) c → j ≡ k
  pub once : (k c : ℕ) → IsLive s k → count_by (λ x. x == c) (have (pass_at s k)) ≤ 1

-- The live passes are the first and those that were not joined into it. Each was told at most once that there is no cube
-- left, and no ticket, and the first once more for each that was joined into it. Nothing is left of the others.
pub record ArePasses (s : State) : Type 0 where
  pub first : IsLive s 0
  pub made : (pass_at s 0).made ≡ length s.passes
  pub few : length s.passes ≤ s.limit
  pub joined : (k : ℕ) → Contains (pass_at s 0).joined k → (1 ≤ k) × (k < length s.passes)
  pub joined_once : (k : ℕ) → count_by (λ x. x == k) (pass_at s 0).joined ≤ 1
  pub live : (k : ℕ) → 1 ≤ k → k < length s.passes → IsLive s k ↔ (¬ (Contains (pass_at s 0).joined k))
  pub numbers : (k : ℕ) → IsLive s k → (pass_at s k).number ≡ k
  pub others : (k : ℕ) → k ≢ 0 → (pass_at s k).joined ≡ []
  pub claim_ends : (k : ℕ) → IsLive s k → (pass_at s k).claim_ends ≤ 1 + length (pass_at s k).joined
  pub ticket_ends : (k : ℕ) → IsLive s k → (pass_at s k).ticket_ends ≤ 1 + length (pass_at s k).joined
  pub spent : (k : ℕ) → ¬ (IsLive s k) → pass_at s k ≡ spent

-- a live pass has a ticket for the slot, and knows it
pub record IsOwned (s : State) (slot : ℕ) : Type 0 where
  pub owner : ℕ
  pub live : IsLive s owner
  pub has : Contains (slots_of (pass_at s owner).tickets) slot
  pub knows : Contains (pass_at s owner).known slot

-- a slot with a row is a ticket of a live pass, which knows it, and a pass knows only slots with rows
pub record AreOwned (s : State) : Type 0 where
  pub owned : (slot : ℕ) (row : Row) → s.rows slot ≡ Some row → IsOwned s slot
  pub known : (k slot : ℕ) → IsLive s k → Contains (pass_at s k).known slot → IsSome (s.rows slot)

-- each row follows from the rows, and has the least rank above those that it cites, which is below the number of rows
pub record AreProved (f : Framed) (nodes : ℕ) (rows : Rows) : Type 0 where
  pub follows : (slot : ℕ) (row : Row) → rows slot ≡ Some row → Follows f rows row
  pub rank : (slot : ℕ) (row : Row) → rows slot ≡ Some row → HasLeastRank rows row
  pub low : (slot : ℕ) (row : Row) → rows slot ≡ Some row → row.rank < row_count nodes rows

-- for each ticket but the latest the looks were made that are due, and the cursor is no further than the latest
pub record IsInTurn (tickets : List Ticket) (looks cursor : ℕ) : Type 0 where
  pub due : tickets ≢ [] → LOOKS * (length tickets - 1) ≤ looks
  pub place : tickets ≢ [] → cursor ≤ latest_of tickets
  pub idle : tickets ≡ [] → (looks ≡ 0) × (cursor ≡ 0)

-- A sound state: the cubes that were claimed and the tickets that were drawn are the first ones, and each word counts them
-- and the ends that were told. The passes and the rows are as above, the node of each ticket is one of the cubes of the
-- pass that has it, and each pass that joined no other is in turn.
pub record IsSound (s : State) : Type 0 where
  pub cubes : AreDealt (λ p. p.cubes) s (min s.claim s.problem.cubes)
  pub claim_word : s.claim ≡ min s.claim s.problem.cubes + sum_by (λ p. p.claim_ends) s.passes
  pub tickets : AreDealt (λ p. slots_of p.tickets) s (min s.ticket s.problem.nodes)
  pub ticket_word : s.ticket ≡ min s.ticket s.problem.nodes + sum_by (λ p. p.ticket_ends) s.passes
  pub passes : ArePasses s
  pub rows : AreOwned s
  pub proved : AreProved s.frame s.problem.nodes s.rows
  pub nodes : (k : ℕ) (ticket : Ticket) → IsLive s k → Contains (pass_at s k).tickets ticket → IsNodeOf s.frame s.problem.depth (pass_at s k).cubes ticket.node
  pub rest : (k : ℕ) → (pass_at s k).looks ≤ LOOKS * s.problem.nodes
  pub turns : (k : ℕ) → IsLive s k → (pass_at s k).joined ≡ [] → IsInTurn (pass_at s k).tickets (pass_at s k).looks (pass_at s k).cursor
