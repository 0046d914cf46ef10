-- Rows that are added for the proper prefixes of cubes.
use Rattle.std.specs.Prelude.{◌≡◌, ◌≢◌, ℕ, ◌+◌, ◌<◌, List, Some, All, AllPairs, slice_get}
use Rattle.mr_frame.specs.Frame.{Framed}
use Rattle.mr_nogood.specs.declared.row.Row.{Row}
use Rattle.mr_exchange.specs.Cubes.{IsCube}

-- the row of an assignment of the first positions, fewer than the depth, that speaks of the next position
pub record IsPrefixRow (f : Framed) (depth : ℕ) (row : Row) : Type 0 where
  pub shorter : row.at < depth
  pub clause : IsCube f row.at row.clause

-- rows of proper prefixes of cubes, at most one for each
pub record ArePrefixRows (f : Framed) (depth : ℕ) (added : List Row) : Type 0 where
  pub each : All (IsPrefixRow f depth) added
  pub once : AllPairs (λ x y. x.clause ≢ y.clause) added

-- the ranks of the rows are n, n + 1 and so on
abbrev pub HaveRanksFrom : ℕ → List Row → Type 0
HaveRanksFrom n rows = (i : ℕ) (row : Row) → slice_get rows i ≡ Some row → row.rank ≡ n + i
