-- Rows that are added for the proper prefixes of cubes: words of private contracts and of the proofs.
use Rattle.std.specs.Prelude.{◌≡◌, ◌≢◌, ◌⊎◌, ℕ, zero, suc, ◌+◌, ◌-◌, ◌^◌, ◌<◌, ◌≤◌, List, [], ◌∷◌, ◌++◌, All, AllPairs, length, slice_index_or}
use Rattle.mr_field.specs.Gf.{order}
use Rattle.mr_frame.specs.Frame.{Framed}
use Rattle.mr_nogood.specs.declared.row.Row.{Row}
use Rattle.mr_nogood.specs.declared.row.Cite.{Cite}
use Rattle.mr_nogood.specs.declared.row.Cite.TheVariants.{Nothing}
use Rattle.mr_nogood.specs.Follows.{Rows}
use Rattle.mr_exchange.specs.declared.answer.CubeAnswer.TheVariants.{Refuted}
use Rattle.mr_exchange.specs.Cubes.{cube_at}
use Rattle.mr_exchange.specs.Right.{IsRight}
use Rattle.mr_merge.specs.Table.{TableIs, table_is, all_rows}
use Rattle.mr_merge.specs.Prefixes.{ArePrefixRows, HaveRanksFrom}

-- how many assignments there are of the first positions, fewer than n, where each takes one of k values
unfoldable pub prefix_count : ℕ → ℕ → ℕ
prefix_count k zero = 0
prefix_count k (suc n) = prefix_count k n + k ^ n

-- there is one cite for each assignment of the first positions, as many as the level says, in order, and each refutes it
pub record AreCited (f : Framed) (rows : Rows) (level n : ℕ) (cites : List Cite) : Type 0 where
  pub count : length cites ≡ n
  pub right : (c : ℕ) → c < n → IsRight f rows (cube_at f level c) (Refuted (slice_index_or cites c Nothing))

-- the row is that of the c-th assignment of the first positions, as many as the level says
pub record IsRowAt (f : Framed) (level c : ℕ) (row : Row) : Type 0 where
  pub at : row.at ≡ level
  pub clause : row.clause ≡ cube_at f level c

-- the row of one of the first n assignments of a level
abbrev pub IsRowBelow : Framed → ℕ → ℕ → Row → Type 0
IsRowBelow f level n row = (c : ℕ) × (c < n) × IsRowAt f level c row

-- rows were added for some of the first n assignments of a level, at most one for each, with their slots as their ranks
pub record HaveAdded (f : Framed) (level n : ℕ) (before after : TableIs) : Type 0 where
  pub more : List Row
  pub is : after ≡ table_is before.board (before.added ++ more)
  pub each : All (IsRowBelow f level n) more
  pub once : AllPairs (λ x y. x.clause ≢ y.clause) more
  pub ranks : HaveRanksFrom (length (all_rows before)) more
  pub few : length more ≤ n

-- a row was added for the c-th assignment of a level, with its slot as its rank, or none
abbrev pub HasAdded : Framed → ℕ → ℕ → TableIs → TableIs → Type 0
HasAdded f level c before after = (after ≡ before) ⊎ ((row : Row) × (after ≡ table_is before.board (before.added ++ row ∷ [])) × IsRowAt f level c row × (row.rank ≡ length (all_rows before)))

-- the rows were added for levels from this one on, below the depth, at most one for each assignment
pub record AreAddedFrom (f : Framed) (depth level : ℕ) (added : List Row) : Type 0 where
  pub rows : ArePrefixRows f depth added
  pub low : All (λ row. level ≤ row.at) added
  pub few : length added + prefix_count (order f.field - 1) level ≤ prefix_count (order f.field - 1) depth
