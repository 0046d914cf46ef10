-- What is merged of the answers of all cubes.
use Rattle.std.specs.Prelude.{◌≡◌, ℕ, List, Option, length}
use Rattle.mr_field.specs.Gf.{order}
use Rattle.mr_frame.specs.Frame.{Framed}
use Rattle.mr_nogood.specs.declared.row.Row.{Row}
use Rattle.mr_nogood.specs.declared.row.Cite.{Cite}
use Rattle.mr_nogood.specs.Follows.{in_slots}
use Rattle.mr_log.specs.declared.log.Log.{Log}
use Rattle.mr_log.specs.Log.{IsLog}
use Rattle.mr_check.specs.Accepted.{IsRefutation}
use Rattle.mr_exchange.specs.declared.problem.Problem.{Problem}
use Rattle.mr_merge.specs.declared.merging.Merged.{Merged}
use Rattle.mr_merge.specs.declared.merging.Merged.TheVariants.{Forms, Refuted}
use Rattle.mr_merge.specs.Table.{table_is, all_rows}
use Rattle.mr_merge.specs.Steps.{AreStepsTo}
use Rattle.mr_merge.specs.Prefixes.{ArePrefixRows, HaveRanksFrom}

-- P of the forms, or Q of the log
abbrev pub MatchMerged : Merged → (List (List ℕ) → Type 0) → (Log → Type 0) → Type 0
MatchMerged (Forms forms) P Q = P forms
MatchMerged (Refuted log) P Q = Q log

-- a log of the frame's matroid over its field, and a refutation
pub record IsRefutationOf (f : Framed) (l : Log) : Type 0 where
  pub log : IsLog l
  pub matroid : l.matroid ≡ f.matroid
  pub field : l.q ≡ order f.field
  pub refutation : IsRefutation f.field l

-- The steps are rows of the board and at most one row more for each proper prefix of a cube: those that the end leads to. What is
-- added stands in the slots after the board's, and the slot of such a row is its rank.
pub record IsMadeOf (f : Framed) (problem : Problem) (rows : List (Option Row)) (l : Log) : Type 0 where
  pub added : List Row
  pub end : Cite
  pub prefixes : ArePrefixRows f problem.depth added
  pub ranks : HaveRanksFrom (length rows) added
  pub steps : AreStepsTo (in_slots (all_rows (table_is rows added))) end l.steps l.last
