-- What the readers of a matroid file answer.
use Rattle.std.specs.Prelude.{ℕ, List}
use Rattle.mr_set.specs.Matroid.{Presentation}
use Rattle.mr_matroid.specs.Exchange.{HasNoBasis, IsFirstFailure}
use Rattle.mr_text.specs.Format.{FirstFault, grammar, size, Format, done, IsFirstFault, StandsFor, IsTextOf, IsFirstFaultOf}
use Rattle.mr_file.specs.File.{file}
use Rattle.mr_file.specs.declared.fault.Measure.{Measure}
use Rattle.mr_file.specs.declared.fault.FileFault.{FileFault}
use Rattle.mr_file.specs.declared.fault.FileFault.TheVariants.{Grammar, Size, NoBasis, Exchange, Memory}
use Rattle.mr_file.specs.declared.listed.Listed.{Listed}

-- the fault of a line that a refusal names; memory may run out
abbrev pub Names : (FirstFault Measure → Type 0) → FileFault → Type 0
Names P (Grammar line) = P (grammar line)
Names P (Size line what) = P (size line what)
Names P NoBasis = ⊥
Names P (Exchange b1 b2 x) = ⊥
Names P Memory = Unit {0}

-- the numbers and sets that were read
abbrev pub listing : Listed → Presentation
listing m = record { elements = m.elements; rank = m.rank; nonbases = m.nonbases.items }

-- the format that begins with the first line
abbrev pub whole_file : Format Measure Presentation
whole_file = file done

-- a refusal of numbers and sets that were read
abbrev pub IsRefused : Presentation → FileFault → Type 0
IsRefused m (Grammar line) = ⊥
IsRefused m (Size line what) = ⊥
IsRefused m NoBasis = HasNoBasis m
IsRefused m (Exchange b1 b2 x) = IsFirstFailure m b1 b2 x
IsRefused m Memory = Unit {0}

-- A refusal of a text: its first fault, or else no basis, or else the first exchange that fails. Memory may run out.
abbrev pub IsRefusal : (FirstFault Measure → Type 0) → (Presentation → Type 0) → FileFault → Type 0
IsRefusal First Is (Grammar line) = First (grammar line)
IsRefusal First Is (Size line what) = First (size line what)
IsRefusal First Is NoBasis = (m : Presentation) × Is m × HasNoBasis m
IsRefusal First Is (Exchange b1 b2 x) = (m : Presentation) × Is m × IsFirstFailure m b1 b2 x
IsRefusal First Is Memory = Unit {0}

-- a refusal of a whole file
abbrev pub IsFileRefusal : List ℕ → FileFault → Type 0
IsFileRefusal bytes = IsRefusal (IsFirstFaultOf whole_file bytes) (IsTextOf whole_file bytes)

-- a refusal of a file that begins a text, whose first line has this number
abbrev pub IsPartRefusal : ℕ → List ℕ → FileFault → Type 0
IsPartRefusal number bytes = IsRefusal (IsFirstFault whole_file number bytes) (λ m. (rest : List ℕ) × (next : ℕ) × StandsFor whole_file number bytes m rest next)
