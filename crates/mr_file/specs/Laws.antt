-- What a text may be at once.
use Rattle.std.specs.Prelude.{◌≡◌, ◌≢◌, ◌↔◌, ℕ, ◌≤◌, List, length}
use Rattle.mr_set.specs.Matroid.{Presentation, IsPresentation, IsMatroid}
use Rattle.mr_matroid.specs.Exchange.{IsWithinLimits}
use Rattle.mr_text.specs.Format.{FirstFault, IsTextOf, IsFirstFaultOf}
use Rattle.mr_file.specs.File.{file_text, IsFileOf}
use Rattle.mr_file.specs.Reading.{whole_file, IsFileRefusal, IsPartRefusal}
use Rattle.mr_file.specs.declared.TheConstants.{FILE_BYTES}
use Rattle.mr_file.specs.declared.fault.Measure.{Measure}
use Rattle.mr_file.specs.declared.fault.FileFault.{FileFault}
use Rattle.mr_file.specs.declared.fault.FileFault.TheVariants.{Memory}

-- a text has at most one first fault
abbrev pub OneFault : Type 0
OneFault = (bytes : List ℕ) (e f : FirstFault Measure) → IsFirstFaultOf whole_file bytes e → IsFirstFaultOf whole_file bytes f → e ≡ f

-- a text that stands for numbers and sets has no fault
abbrev pub NoFault : Type 0
NoFault = (bytes : List ℕ) (m : Presentation) (e : FirstFault Measure) → IsTextOf whole_file bytes m → IsFirstFaultOf whole_file bytes e → ⊥

-- numbers and sets within the limits have a file of their own
abbrev pub OneFile : Type 0
OneFile = (m k : Presentation) → IsPresentation m → IsPresentation k → IsWithinLimits m → IsWithinLimits k → file_text m ≡ file_text k → m ≡ k

-- a text is refused for at most one cause, unless memory runs out
abbrev pub OneRefusal : Type 0
OneRefusal = (bytes : List ℕ) (e f : FileFault) → e ≢ Memory → f ≢ Memory → IsFileRefusal bytes e → IsFileRefusal bytes f → e ≡ f

-- so is a file that begins a text, whose first line has this number
abbrev pub OnePartRefusal : Type 0
OnePartRefusal = (number : ℕ) (bytes : List ℕ) (e f : FileFault) → e ≢ Memory → f ≢ Memory → IsPartRefusal number bytes e → IsPartRefusal number bytes f → e ≡ f

-- the file of a matroid is not refused, unless memory runs out
abbrev pub NoRefusal : Type 0
NoRefusal = (bytes : List ℕ) (m : Presentation) (e : FileFault) → IsFileOf bytes m → IsFileRefusal bytes e → e ≡ Memory

-- numbers and sets within the limits have a short file
abbrev pub FileLength : Type 0
FileLength = (m : Presentation) → IsPresentation m → IsWithinLimits m → length (file_text m) ≤ FILE_BYTES

-- a text is the file of a matroid exactly where its lines stand for it
abbrev pub LinesAreTheFile : Type 0
LinesAreTheFile = (bytes : List ℕ) (m : Presentation) → IsFileOf bytes m ↔ (IsTextOf whole_file bytes m × IsMatroid m)

-- a text that stands for no numbers and sets has a fault
abbrev pub EachTextStandsOrIsAtFault : Type 0
EachTextStandsOrIsAtFault = (bytes : List ℕ) → ((m : Presentation) → ¬ (IsTextOf whole_file bytes m)) → ((fault : FirstFault Measure) → ¬ (IsFirstFaultOf whole_file bytes fault)) → ⊥
