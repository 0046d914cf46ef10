-- How a search is split: its depth, its cubes in order, and how many nodes may be opened.
use Rattle.std.specs.Prelude.{◌≡◌, ◌≢◌, ◌↔◌, ℕ, zero, suc, ◌+◌, ◌-◌, ◌/◌, ◌%◌, ◌^◌, ◌<◌, ◌≤◌, min, List, [], ◌∷◌, ◌++◌, length, replicate, slice_index}
use Rattle.mr_field.specs.Gf.{order}
use Rattle.mr_assign.specs.Assign.{IsAssign}
use Rattle.mr_assign.specs.declared.TheConstants.{POSITIONS}
use Rattle.mr_frame.specs.Frame.{Framed}
use Rattle.mr_frame.specs.Test.{IsAssignmentOf}
use Rattle.mr_exchange.specs.declared.TheConstants.{SPLIT, NODES}
use Rattle.mr_exchange.specs.declared.problem.Problem.{Problem}

-- how many cubes there are of a depth: each position takes one of the nonzero elements
abbrev pub cube_count : Framed → ℕ → ℕ
cube_count f depth = (order f.field - 1) ^ depth

-- the problem of splitting the first positions, of which there may be fewer
abbrev pub problem_of : Framed → ℕ → ℕ → Problem
problem_of f split nodes =
    let depth = min split (length f.places) in
    record { depth = depth; cubes = cube_count f depth; nodes = nodes }

-- the problem of the frame for some split and number of nodes within the limits
pub record IsProblemOf (f : Framed) (problem : Problem) : Type 0 where
  pub split : ℕ
  pub nodes : ℕ
  pub few_split : split ≤ SPLIT
  pub some_nodes : 1 ≤ nodes
  pub few_nodes : nodes ≤ NODES
  pub is : problem ≡ problem_of f split nodes

-- gives an element to each of the first positions, as many as the depth says, and to nothing else
pub record IsCube (f : Framed) (depth : ℕ) (a : List ℕ) : Type 0 where
  pub map : IsAssign a
  pub assignment : IsAssignmentOf f a
  pub just : (p : ℕ) → (slice_index a p ≢ 0) ↔ (p < depth)

-- the digits of c to the base k, the highest of n digits first, each one more
unfoldable pub values_at : ℕ → ℕ → ℕ → List ℕ
values_at k zero c = []
values_at k (suc n) c = (c / k ^ n + 1) ∷ values_at k n (c % k ^ n)

-- The c-th cube of a depth, in lexicographic order: its values are the digits of c to the base of as many as there are
-- nonzero elements, each one more.
unfoldable pub cube_at : Framed → ℕ → ℕ → List ℕ
cube_at f depth c = values_at (order f.field - 1) depth c ++ replicate (POSITIONS - depth) 0
