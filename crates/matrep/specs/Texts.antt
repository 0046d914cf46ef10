-- The texts that a run writes.
use Rattle.std.specs.Prelude.{ℕ, List, [], ◌∷◌, ◌++◌, length, flat_map, codes, decimal}
use Rattle.mr_field.specs.Gf.{Gf, order}
use Rattle.mr_linear.specs.Matrix.{Grid}
use Rattle.mr_text.specs.Text.{set_text, text_of_lines}
use Rattle.mr_file.specs.declared.fault.Measure.{Measure}
use Rattle.mr_file.specs.declared.fault.Measure.TheVariants.{Elements, Rank, Sets, Nonbases}
use Rattle.mr_matrix.specs.Block.{block_lines}
use Rattle.mr_log.specs.declared.fault.Why.{Why}
use Rattle.mr_log.specs.declared.fault.Why.TheVariants.{Grammar, Size, Basis, Exchange, Step, End}
use Rattle.matrep.specs.declared.outcome.Fault.{Fault}
use Rattle.matrep.specs.declared.outcome.Fault.TheVariants as fault

-- the line for an offending word
abbrev pub usage_text : ℕ → List ℕ
usage_text w = text_of_lines ((codes "usage word " ++ decimal w) ∷ [])

-- the word for what is too large
abbrev pub measure_word : Measure → List ℕ
measure_word Elements = codes "elements"
measure_word Rank = codes "rank"
measure_word Sets = codes "sets"
measure_word Nonbases = codes "nonbases"

-- what is said of a refusal
abbrev pub refusal_words : Fault → List ℕ
refusal_words fault.TooLong = codes "too long"
refusal_words (fault.Grammar line) = codes "grammar line " ++ decimal line
refusal_words (fault.Size line what) = codes "size line " ++ decimal line ++ codes " " ++ measure_word what
refusal_words fault.NoBasis = codes "no basis"
refusal_words (fault.Exchange b1 b2 x) = codes "exchange b1 " ++ set_text b1 ++ codes " b2 " ++ set_text b2 ++ codes " x " ++ decimal x
refusal_words (fault.Stranger e) = codes "stranger " ++ decimal e
refusal_words (fault.RankShort rank) = codes "rank " ++ decimal rank

-- the line for a refusal
abbrev pub refusal_text : Fault → List ℕ
refusal_text fault = text_of_lines ((codes "refused " ++ refusal_words fault) ∷ [])

-- the matrices over a field, one block after another
abbrev pub classes_text : Gf → List Grid → List ℕ
classes_text f answer = text_of_lines ((codes "representations " ++ decimal (length answer) ++ codes " field " ++ decimal (order f)) ∷ flat_map block_lines answer)

-- the lines of orbits: the size of each, and the block of its least matrix
abbrev pub orbit_lines : List Grid → List ℕ → List (List ℕ)
orbit_lines [] sizes = []
orbit_lines (a ∷ leasts) [] = []
orbit_lines (a ∷ leasts) (size ∷ sizes) = (codes "orbit " ++ decimal size) ∷ (block_lines a ++ orbit_lines leasts sizes)

-- the orbits over a field, one after another
abbrev pub orbits_text : Gf → List Grid → List ℕ → List ℕ
orbits_text f leasts sizes = text_of_lines ((codes "orbits " ++ decimal (length leasts) ++ codes " field " ++ decimal (order f)) ∷ orbit_lines leasts sizes)

-- the line for a search that was stopped after so many nodes
abbrev pub stopped_text : ℕ → List ℕ
stopped_text opened = text_of_lines ((codes "stopped opened " ++ decimal opened) ∷ [])

-- the line for an accepted log
abbrev pub accepted_text : List ℕ
accepted_text = text_of_lines (codes "accepted" ∷ [])

-- the word for what is wrong with a line of a log
abbrev pub why_word : Why → List ℕ
why_word Grammar = codes "grammar"
why_word Size = codes "size"
why_word Basis = codes "basis"
why_word Exchange = codes "exchange"
why_word Step = codes "step"
why_word End = codes "end"

-- the line for a rejected log
abbrev pub rejected_text : ℕ → Why → List ℕ
rejected_text line why = text_of_lines ((codes "rejected line " ++ decimal line ++ codes " " ++ why_word why) ∷ [])

-- the line for a matrix that represents the matroid
abbrev pub confirmed_text : List ℕ
confirmed_text = text_of_lines (codes "confirmed" ∷ [])

-- the line for the first set at which a matrix and a matroid differ
abbrev pub differs_text : List ℕ → List ℕ
differs_text x = text_of_lines ((codes "differs " ++ set_text x) ∷ [])

-- the line for the plane over a field: its elements, nonbases and classes
abbrev pub plane_line : Gf → ℕ → ℕ → ℕ → List ℕ
plane_line f elements nonbases classes =
    text_of_lines ((codes "plane " ++ decimal (order f) ++ codes " elements " ++ decimal elements ++ codes " nonbases " ++ decimal nonbases ++ codes " classes " ++ decimal classes) ∷ [])
