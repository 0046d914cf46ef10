-- What each event keeps: sums over all passes, and what holds of each pass by itself. Soundness follows from it.
use Rattle.std.specs.Prelude.{◌≡◌, ◌≢◌, ℕ, ◌+◌, ◌*◌, ◌<◌, ◌≤◌, min, Bool, not, IsTrue, IsFalse, List, [], ◌∷◌, length, nat_lt, nat_eq, if◌then◌else◌, Some, IsSome, Contains}
use Rattle.mr_frame.specs.Frame.{Framed}
use Rattle.mr_nogood.specs.declared.row.Row.{Row}
use Rattle.mr_nogood.specs.Follows.{Rows}
use Rattle.mr_exchange.specs.declared.TheConstants.{LOOKS}
use Rattle.mr_exchange.specs.declared.problem.Problem.{Problem}
use Rattle.mr_exchange.specs.declared.ticket.Ticket.{Ticket}
use Rattle.mr_exchange.specs.State.{Pass, State, spent, pass_at, slots_of}
use Rattle.mr_exchange.specs.Events.{IsNodeOf}
use Rattle.mr_exchange.specs.Sound.{IsOwned, AreProved, IsInTurn}

-- f of each, added up
abbrev pub total : {A : Type 0} → (A → ℕ) → List A → ℕ
total f [] = 0
total f (x ∷ xs) = f x + total f xs

-- 1 for true, and else 0
abbrev pub one_if : Bool → ℕ
one_if b = if b then 1 else 0

-- how often x stands in the list
abbrev pub times : ℕ → List ℕ → ℕ
times x ys = total (λ y. one_if (nat_eq y x)) ys

-- 1 where x is below n, and else 0
abbrev pub once_below : ℕ → ℕ → ℕ
once_below x n = one_if (nat_lt x n)

-- how often the pass may be told that nothing is left: a live pass once, and once more for each that was joined into it
abbrev pub weight : Pass → ℕ
weight p = if p.live then 1 + length p.joined else 0

-- what holds of a pass by itself, where there are n passes
pub record PassBalance (f : Framed) (problem : Problem) (n : ℕ) (rows : Rows) (k : ℕ) (p : Pass) : Type 0 where
  pub number : IsTrue p.live → p.number ≡ k
  pub spent : IsFalse p.live → p ≡ spent
  pub claim_ends : p.claim_ends ≤ weight p
  pub ticket_ends : p.ticket_ends ≤ weight p
  pub first : k ≡ 0 → IsTrue p.live × (p.made ≡ n)
  pub joined : k ≢ 0 → p.joined ≡ []
  pub known : (slot : ℕ) → Contains p.known slot → IsSome (rows slot)
  pub nodes : (ticket : Ticket) → Contains p.tickets ticket → IsNodeOf f problem.depth p.cubes ticket.node
  pub rest : p.looks ≤ LOOKS * problem.nodes
  pub turn : p.joined ≡ [] → IsInTurn p.tickets p.looks p.cursor

-- The cubes of all passes are the numbers below the lesser of claim word and cubes, each once, and the ends that were told
-- make up the rest of the word. So it is with the tickets. There is one right to an end for each pass that was made.
pub record Balances (s : State) : Type 0 where
  pub cubes : (c : ℕ) → total (λ p. times c p.cubes) s.passes ≡ once_below c (min s.claim s.problem.cubes)
  pub cube_count : total (λ p. length p.cubes) s.passes ≡ min s.claim s.problem.cubes
  pub claim : s.claim ≡ min s.claim s.problem.cubes + total (λ p. p.claim_ends) s.passes
  pub tickets : (t : ℕ) → total (λ p. times t (slots_of p.tickets)) s.passes ≡ once_below t (min s.ticket s.problem.nodes)
  pub ticket_count : total (λ p. length p.tickets) s.passes ≡ min s.ticket s.problem.nodes
  pub ticket : s.ticket ≡ min s.ticket s.problem.nodes + total (λ p. p.ticket_ends) s.passes
  pub some_made : 0 < length s.passes
  pub few : length s.passes ≤ s.limit
  pub weights : total weight s.passes ≡ length s.passes
  pub joined : (k : ℕ) → Contains (pass_at s 0).joined k → (1 ≤ k) × (k < length s.passes)
  pub joined_once : (k : ℕ) → 1 ≤ k → k < length s.passes → times k (pass_at s 0).joined ≡ one_if (not (pass_at s k).live)
  pub each : (k : ℕ) → PassBalance s.frame s.problem (length s.passes) s.rows k (pass_at s k)
  pub owned : (slot : ℕ) (row : Row) → s.rows slot ≡ Some row → IsOwned s slot
  pub proved : AreProved s.frame s.problem.nodes s.rows
