-- The pieces of a log that are written one after another.
use Rattle.std.specs.Prelude.{ℕ, List, [], ◌∷◌, ◌++◌, Bool, true, false, length, map, codes, decimal}
use Rattle.mr_text.specs.Text.{text_of_lines}
use Rattle.mr_file.specs.File.{file_lines}
use Rattle.mr_nogood.specs.declared.row.Row.{Row}
use Rattle.mr_log.specs.Lines.{step_text}
use Rattle.mr_log.specs.declared.log.Log.{Log}

-- the space before all words but the first
abbrev pub gap : Bool → List ℕ
gap true = []
gap false = 32 ∷ []

-- the text of steps
abbrev pub steps_text : ℕ → List Row → List ℕ
steps_text q rows = text_of_lines (map (step_text q) rows)

-- the text before the steps
abbrev pub log_head : Log → List ℕ
log_head l = text_of_lines (codes "refutation 1" ∷ (codes "field " ++ decimal l.q) ∷ (file_lines l.matroid ++ (codes "steps " ++ decimal (length l.steps)) ∷ []))
