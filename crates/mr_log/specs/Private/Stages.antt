-- What is due from each line of a log on, and what a refusal names.
use Rattle.std.specs.Prelude.{ℕ, List, [], ◌++◌, codes, decimal}
use Rattle.mr_set.specs.Matroid.{Presentation}
use Rattle.mr_text.specs.Format.{FirstFault, grammar, size, Format, done, line_of}
use Rattle.mr_text.specs.Tables.{fixed, keyed}
use Rattle.mr_file.specs.File.{file}
use Rattle.mr_file.specs.Reading.{listing}
use Rattle.mr_file.specs.declared.fault.Measure.{Measure}
use Rattle.mr_file.specs.declared.fault.FileFault.{FileFault}
use Rattle.mr_file.specs.declared.fault.FileFault.TheVariants as file_fault
use Rattle.mr_nogood.specs.declared.row.Row.{Row}
use Rattle.mr_log.specs.Lines.{end_table}
use Rattle.mr_log.specs.Log.{StepsExceed, step_lines}
use Rattle.mr_log.specs.declared.log.Log.{Log}
use Rattle.mr_log.specs.declared.read.Found.{Found}
use Rattle.mr_log.specs.declared.fault.Why.{Why}
use Rattle.mr_log.specs.declared.fault.Why.TheVariants.{Grammar, Size, Basis, Exchange, Step, End}
use Rattle.mr_log.specs.declared.fault.LogFault.{LogFault}
use Rattle.mr_log.specs.declared.fault.LogFault.TheVariants.{Bad, Memory}

-- after the steps
abbrev pub from_end : ℕ → Presentation → List Row → Format Measure Log
from_end q m steps = line_of (end_table m) (λ last. done (record { matroid = m; q = q; steps = steps; last = last }))

-- after the number of steps, and after some steps
abbrev pub from_steps : ℕ → Presentation → ℕ → List Row → Format Measure Log
from_steps q m count steps = step_lines m q count steps (from_end q m)

-- after the file
abbrev pub from_count : ℕ → Presentation → Format Measure Log
from_count q m = line_of (keyed (codes "steps ") StepsExceed) (λ count. from_steps q m count [])

-- after the line of the field
abbrev pub from_file : ℕ → Format Measure Log
from_file q = file (from_count q)

-- the line of the field
abbrev pub field_text : ℕ → List ℕ
field_text q = codes "field " ++ decimal q

-- after the first line
abbrev pub from_field : ℕ → Format Measure Log
from_field q = line_of (fixed (field_text q)) (λ _. from_file q)

-- the log of the parts that were read
abbrev pub found_log : ℕ → Found → Log
found_log q x = record { matroid = listing x.listed; q = q; steps = x.steps; last = x.last }

-- the cause that a fault of a line has
abbrev pub NamesCause : (FirstFault Measure → Type 0) → ℕ → Why → Type 0
NamesCause P line Grammar = P (grammar line)
NamesCause P line Size = (what : Measure) × P (size line what)
NamesCause P line Basis = ⊥
NamesCause P line Exchange = ⊥
NamesCause P line Step = ⊥
NamesCause P line End = ⊥

-- the fault of a line that a refusal names; memory may run out
abbrev pub NamesBad : (FirstFault Measure → Type 0) → LogFault → Type 0
NamesBad P (Bad line why) = NamesCause P line why
NamesBad P Memory = Unit {0}

-- the fault of a line that a refusal names, where no memory is taken
abbrev pub NamesLine : (FirstFault Measure → Type 0) → LogFault → Type 0
NamesLine P (Bad line why) = NamesCause P line why
NamesLine P Memory = ⊥

-- a refusal of the file as one of the log, where this line ends the file
abbrev pub log_fault : FileFault → ℕ → LogFault
log_fault (file_fault.Grammar line) end = Bad line Grammar
log_fault (file_fault.Size line what) end = Bad line Size
log_fault file_fault.NoBasis end = Bad end Basis
log_fault (file_fault.Exchange b1 b2 x) end = Bad end Exchange
log_fault file_fault.Memory end = Memory
