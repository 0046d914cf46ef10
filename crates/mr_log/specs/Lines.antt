-- The lines of a refutation log after its matroid.
use Rattle.std.specs.Prelude.{◌≡◌, ℕ, ◌+◌, ◌-◌, ◌<◌, ◌≤◌, List, [], ◌∷◌, ◌++◌, length, take, map, All, codes, decimal, ◌==◌, if◌then◌else◌}
use Rattle.std.specs.List.{join_with_byte}
use Rattle.mr_set.specs.Subsets.{IsSetOf}
use Rattle.mr_set.specs.Matroid.{Presentation}
use Rattle.mr_assign.specs.Assign.{IsAssign}
use Rattle.mr_assign.specs.declared.TheConstants.{POSITIONS, VALUES}
use Rattle.mr_text.specs.declared.TheConstants.{NUMBERS}
use Rattle.mr_text.specs.Text.{set_text}
use Rattle.mr_text.specs.Format.{Table}
use Rattle.mr_text.specs.Tables.{never}
use Rattle.mr_file.specs.declared.fault.Measure.{Measure}
use Rattle.mr_nogood.specs.Row.{cite_for}
use Rattle.mr_nogood.specs.declared.row.Cite.{Cite}
use Rattle.mr_nogood.specs.declared.row.Cite.TheVariants.{Nothing, Test, Slot}
use Rattle.mr_nogood.specs.declared.row.Row.{Row}

-- a position and its value
abbrev pub pair_text : ℕ → ℕ → List ℕ
pair_text p v = decimal p ++ codes ":" ++ decimal v

-- the pairs of a map whose first position is p
abbrev pub pair_texts : ℕ → List ℕ → List (List ℕ)
pair_texts p [] = []
pair_texts p (v ∷ vs) = if v == 0 then pair_texts (p + 1) vs else pair_text p v ∷ pair_texts (p + 1) vs

-- words with single spaces between them, or `-` where there is none
abbrev pub words_text : List (List ℕ) → List ℕ
words_text [] = codes "-"
words_text (w ∷ ws) = join_with_byte 32 (w ∷ ws)

-- the pairs of a clause
abbrev pub clause_text : List ℕ → List ℕ
clause_text a = words_text (pair_texts 0 a)

-- a set, or the number of a step
abbrev pub cite_text : Cite → List ℕ
cite_text Nothing = []
cite_text (Test x) = codes "t " ++ set_text x
cite_text (Slot s) = codes "s " ++ decimal s

-- a step of a log over the field with q elements: its position, its clause, and a cite for each value
abbrev pub step_text : ℕ → Row → List ℕ
step_text q row = codes "at " ++ decimal row.at ++ codes " if " ++ clause_text row.clause ++ codes " by " ++ join_with_byte 32 (map cite_text (take (q - 1) row.cites))

-- a log may cite a set of the rank's size, and a number of at most nine digits
abbrev pub IsLogCite : Presentation → Cite → Type 0
IsLogCite m Nothing = ⊥
IsLogCite m (Test x) = IsSetOf m.elements m.rank x
IsLogCite m (Slot s) = s < NUMBERS

-- The step with this number. Its positions are numbers below `POSITIONS`, its values elements, and it has a cite for each
-- element but 0.
pub record IsLogStep (m : Presentation) (q number : ℕ) (row : Row) : Type 0 where
  pub rank : row.rank ≡ number
  pub at : row.at < POSITIONS
  pub clause : IsAssign row.clause
  pub values : All (λ v. v < q) row.clause
  pub count : length row.cites ≡ VALUES
  pub cites : (k : ℕ) → k + 1 < q → IsLogCite m (cite_for row k)
  pub others : (k : ℕ) → q ≤ k + 1 → cite_for row k ≡ Nothing

-- the line is that of the step with this number
pub record IsStepLine (m : Presentation) (q number : ℕ) (line : List ℕ) (row : Row) : Type 0 where
  pub step : IsLogStep m q number row
  pub text : line ≡ step_text q row

-- a line of a step
abbrev pub step_table : Presentation → ℕ → ℕ → Table Measure Row
step_table m q number = record { spells = IsStepLine m q number; exceeds = never }

-- the line is the end, with this cite
pub record IsEndLine (m : Presentation) (line : List ℕ) (last : Cite) : Type 0 where
  pub cite : IsLogCite m last
  pub text : line ≡ codes "end " ++ cite_text last

-- the last line
abbrev pub end_table : Presentation → Table Measure Cite
end_table m = record { spells = IsEndLine m; exceeds = never }
