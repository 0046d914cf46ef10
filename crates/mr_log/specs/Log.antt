-- Refutation logs, line by line, and whole.
use Rattle.std.specs.Prelude.{◌≡◌, ℕ, zero, suc, ◌<◌, ◌≤◌, List, [], ◌∷◌, ◌++◌, Some, length, map, slice_get, codes, decimal}
use Rattle.mr_field.specs.Order.{IsOrder}
use Rattle.mr_set.specs.Matroid.{Presentation, IsMatroid}
use Rattle.mr_matroid.specs.Exchange.{IsWithinLimits}
use Rattle.mr_text.specs.Text.{text_of_lines}
use Rattle.mr_text.specs.Format.{Format, done, line_of}
use Rattle.mr_text.specs.Tables.{fixed, keyed}
use Rattle.mr_file.specs.File.{file, file_lines}
use Rattle.mr_file.specs.declared.fault.Measure.{Measure}
use Rattle.mr_file.specs.declared.fault.Measure.TheVariants.{Elements, Rank, Sets, Nonbases}
use Rattle.mr_nogood.specs.declared.row.Row.{Row}
use Rattle.mr_log.specs.Lines.{cite_text, step_text, IsLogCite, IsLogStep, step_table, end_table}
use Rattle.mr_log.specs.declared.TheConstants.{STEPS}
use Rattle.mr_log.specs.declared.log.Log.{Log}

-- A log of more than `STEPS` steps is too large. A log's refusal names no measure: that of sets stands for it here.
abbrev pub StepsExceed : ℕ → Measure → Type 0
StepsExceed count Elements = ⊥
StepsExceed count Rank = ⊥
StepsExceed count Sets = STEPS < count
StepsExceed count Nonbases = ⊥

-- so many more lines of steps, after those of these steps
unfoldable pub step_lines : {X : Type 0} → Presentation → ℕ → ℕ → List Row → (List Row → Format Measure X) → Format Measure X
step_lines m q zero steps due = due steps
step_lines m q (suc count) steps due = line_of (step_table m q (length steps)) (λ row. step_lines m q count (steps ++ row ∷ []) due)

-- the lines of a log over the field with q elements
abbrev pub log_format : ℕ → Format Measure Log
log_format q =
    line_of (fixed (codes "refutation 1")) (λ _.
    line_of (fixed (codes "field " ++ decimal q)) (λ _.
    file (λ m.
    line_of (keyed (codes "steps ") StepsExceed) (λ count.
    step_lines m q count [] (λ steps.
    line_of (end_table m) (λ last.
    done (record { matroid = m; q = q; steps = steps; last = last })))))))

-- the lines of this log
abbrev pub log_lines : Log → List (List ℕ)
log_lines l =
    codes "refutation 1"
    ∷ (codes "field " ++ decimal l.q)
    ∷ (file_lines l.matroid ++ (codes "steps " ++ decimal (length l.steps)) ∷ (map (step_text l.q) l.steps ++ (codes "end " ++ cite_text l.last) ∷ []))

-- the bytes of this log
abbrev pub log_text : Log → List ℕ
log_text l = text_of_lines (log_lines l)

-- the parts of a log are such as it may have
pub record IsLog (l : Log) : Type 0 where
  pub matroid : IsMatroid l.matroid
  pub limits : IsWithinLimits l.matroid
  pub field : IsOrder l.q
  pub count : length l.steps ≤ STEPS
  pub steps : (j : ℕ) (row : Row) → slice_get l.steps j ≡ Some row → IsLogStep l.matroid l.q j row
  pub last : IsLogCite l.matroid l.last

-- the bytes are those of the log l over the field with q elements
pub record IsLogOf (q : ℕ) (bytes : List ℕ) (l : Log) : Type 0 where
  pub log : IsLog l
  pub field : l.q ≡ q
  pub text : bytes ≡ log_text l
