-- Components, numbered in the order of their least vertices: words of private contracts and of the proofs.
use Rattle.std.specs.Prelude.{◌≡◌, ◌↔◌, ℕ, ◌<◌, ◌≤◌, List, length, slice_index}
use Rattle.mr_graph.specs.Components.{IsNumberedInOrder}

-- the first n labels have numbers, equal ones for equal labels
pub record IsNumbered (labels numbers : List ℕ) (count n : ℕ) : Type 0 where
  pub size : length numbers ≡ n
  pub few : count ≤ n
  pub same : (j k : ℕ) → j < n → k < n → (slice_index numbers j ≡ slice_index numbers k) ↔ (slice_index labels j ≡ slice_index labels k)
  pub order : IsNumberedInOrder numbers count
