-- How large the parts of a state that is held may be.
use Rattle.std.proofs.Common.{◌≡◌, ℕ, ◌+◌, ◌^◌, ◌<◌, ◌≤◌, min, length, Contains, sym, ap, ◌∙◌, arith}
use Rattle.mr_frame.specs.Frame.{Framed}
use Rattle.mr_exchange.specs.declared.TheConstants.{SPLIT, NODES}
use Rattle.mr_exchange.specs.declared.problem.Problem.{Problem}
use Rattle.mr_exchange.specs.Cubes.{IsProblemOf, cube_count}
use Rattle.mr_exchange.specs.State.{Pass, spent, pass_at, IsLive, slots_of, latest_of}
use Rattle.mr_exchange.specs.Events.{MayLook, MayJoin}
use Rattle.mr_exchange.specs.Held.{Held, state_of}
use Rattle.mr_exchange.specs.Private.Held.{IsHeld}
use Rattle.mr_exchange.proofs.Totals.{total_two}
use Rattle.mr_exchange.proofs.Counting.{total-sum_by}
use Rattle.mr_exchange.proofs.Lookups.{within}
use Rattle.mr_exchange.proofs.Steps.{latest_among}
use Rattle.mr_exchange.proofs.OnePass.{words_are_small}
use Rattle.mr_exchange.proofs.Digits.{few_cubes}

-- there are as many cubes as the depth says
pub cubes_are : (f : Framed) (problem : Problem) → IsProblemOf f problem → problem.cubes ≡ cube_count f problem.depth
cubes_are f problem of = ap (λ (p : Problem). p.cubes) of.is ∙ ap (λ (p : Problem). cube_count f p.depth) (sym of.is)

-- few positions are split, all of them free
pub depth_is : (f : Framed) (problem : Problem) → IsProblemOf f problem → (problem.depth ≤ SPLIT) × (problem.depth ≤ length f.places)
depth_is f problem of =
    let e : problem.depth ≡ min of.split (length f.places) = ap (λ (p : Problem). p.depth) of.is in
    let few = of.few_split in
    (omega arith, omega arith)

-- there are few nodes
pub nodes_are : (f : Framed) (problem : Problem) → IsProblemOf f problem → problem.nodes ≤ NODES
nodes_are f problem of =
    let e : problem.nodes ≡ of.nodes = ap (λ (p : Problem). p.nodes) of.is in
    let few = of.few_nodes in
    omega arith

module _ (g : Held) (is : IsHeld g) where
  -- neither word is large
  pub small_words : (g.claim + 1 < 2 ^ 32) × (g.ticket + 1 < 2 ^ 32)
  small_words =
      let small = words_are_small (state_of g) is.sound in
      let claim = small.0 in
      let ticket = small.1 in
      let count = cubes_are g.frame g.problem is.problem in
      let few = few_cubes g.frame g.problem.depth (depth_is g.frame g.problem is.problem).0 in
      let nodes = nodes_are g.frame g.problem is.problem in
      let passes = is.limit in
      (omega arith, omega arith)

  -- a slot of a pass's own is one of the slots
  pub own_within : (k slot : ℕ) → IsLive (state_of g) k → Contains (slots_of (pass_at (state_of g) k).tickets) slot → slot < length g.slots
  own_within k slot live own = let below = is.sound.tickets.below k slot live own in let long = is.slots in omega arith

  -- a cube of a pass is one of the cubes
  pub cube_within : (k c : ℕ) → IsLive (state_of g) k → Contains (pass_at (state_of g) k).cubes c → c < cube_count g.frame g.problem.depth
  cube_within k c live own =
      let below = is.sound.cubes.below k c live own in
      let count = cubes_are g.frame g.problem is.problem in
      omega arith

  -- the cursor is at one of the slots
  pub cursor_within : (k : ℕ) → MayLook (state_of g) k → (pass_at (state_of g) k).cursor < length g.slots
  cursor_within k may =
      let place = (is.sound.turns k may.live may.alone).place may.some_ticket in
      let own = own_within k (latest_of (pass_at (state_of g) k).tickets) may.live (latest_among (pass_at (state_of g) k).tickets may.some_ticket) in
      omega arith

  -- there are few slots
  pub few_slots : length g.slots ≤ NODES
  few_slots = let nodes = nodes_are g.frame g.problem is.problem in let long = is.slots in omega arith

  -- two passes were not told of the end more often than the word says
  pub few_claim_ends : (k : ℕ) → MayJoin (state_of g) k → (pass_at (state_of g) 0).claim_ends + (pass_at (state_of g) k).claim_ends ≤ g.claim
  few_claim_ends k may =
      let lt = within g.passes k may.live in
      let two = total_two (λ (p : Pass). p.claim_ends) g.passes 0 k spent (λ e. may.other (sym e)) (omega arith) lt in
      let same = total-sum_by (λ (p : Pass). p.claim_ends) g.passes in
      let word = is.sound.claim_word in
      omega arith

  -- nor of the end of the tickets
  pub few_ticket_ends : (k : ℕ) → MayJoin (state_of g) k → (pass_at (state_of g) 0).ticket_ends + (pass_at (state_of g) k).ticket_ends ≤ g.ticket
  few_ticket_ends k may =
      let lt = within g.passes k may.live in
      let two = total_two (λ (p : Pass). p.ticket_ends) g.passes 0 k spent (λ e. may.other (sym e)) (omega arith) lt in
      let same = total-sum_by (λ (p : Pass). p.ticket_ends) g.passes in
      let word = is.sound.ticket_word in
      omega arith
