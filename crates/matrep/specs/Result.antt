-- Which exit and text may stand together for a command and the bytes that were read.
use Rattle.std.specs.Prelude.{◌≡◌, ◌⊎◌, ℕ, ◌<◌, ◌≤◌, List, [], length}
use Rattle.mr_field.specs.Gf.{Gf, order}
use Rattle.mr_set.specs.Matroid.{Presentation}
use Rattle.mr_file.specs.File.{IsFileOf}
use Rattle.mr_file.specs.declared.TheConstants.{FILE_BYTES}
use Rattle.mr_file.specs.Reading.{IsFileRefusal}
use Rattle.mr_file.specs.declared.fault.FileFault.{FileFault}
use Rattle.mr_file.specs.declared.fault.FileFault.TheVariants as file
use Rattle.mr_matrix.specs.Block.{IsBlockOf}
use Rattle.mr_matrix.specs.Reading.{IsMatrixRefusal}
use Rattle.mr_matrix.specs.Pairs.{IsPairOf, IsPairRefusal}
use Rattle.mr_matrix.specs.declared.fault.MatrixFault.{MatrixFault}
use Rattle.mr_matrix.specs.declared.fault.MatrixFault.TheVariants as matrix
use Rattle.matrep.specs.Texts.{refusal_text}
use Rattle.matrep.specs.Solving.{Solves}
use Rattle.matrep.specs.Answering.{Checks, Confirms, FindsMatroid, WritesDual, WritesMinor, CountsClasses}
use Rattle.matrep.specs.declared.TheConstants.{LOG_BYTES}
use Rattle.matrep.specs.declared.words.Command.{Command}
use Rattle.matrep.specs.declared.words.Command.TheVariants.{Solve, Check, Confirm, MatroidOf, Dual, Minor, Plane}
use Rattle.matrep.specs.declared.outcome.Exit.{Exit}
use Rattle.matrep.specs.declared.outcome.Exit.TheVariants.{Refused}
use Rattle.matrep.specs.declared.outcome.Fault.{Fault}
use Rattle.matrep.specs.declared.outcome.Fault.TheVariants.{TooLong, Grammar, Size, NoBasis, Exchange}

-- the fault is the one that a refusal of a file names
abbrev pub IsFileFault : (FileFault → Type 0) → Fault → Type 0
IsFileFault Names (Grammar line) = Names (file.Grammar line)
IsFileFault Names (Size line what) = Names (file.Size line what)
IsFileFault Names NoBasis = Names file.NoBasis
IsFileFault Names (Exchange b1 b2 x) = Names (file.Exchange b1 b2 x)
IsFileFault Names fault = ⊥

-- the fault is the one that a refusal of a matrix names
abbrev pub IsMatrixFault : (MatrixFault → Type 0) → Fault → Type 0
IsMatrixFault Names (Grammar line) = Names (matrix.Grammar line)
IsMatrixFault Names (Size line what) = Names (matrix.Size line what)
IsMatrixFault Names fault = ⊥

-- an input that is at fault is refused
abbrev pub Refuses : (Fault → Type 0) → Exit → List ℕ → Type 0
Refuses IsFault exit text = (fault : Fault) × IsFault fault × (exit ≡ Refused fault) × (text ≡ refusal_text fault)

-- the input is one that is read, and the exit and the text are its, or it is at fault
abbrev pub OfInput : {X : Type 0} → (X → Type 0) → (Fault → Type 0) → (X → Exit → List ℕ → Type 0) → Exit → List ℕ → Type 0
OfInput {X} Is IsFault Due exit text = ((x : X) × Is x × Due x exit text) ⊎ Refuses IsFault exit text

-- the same of the file of a matroid
abbrev pub OfFile : List ℕ → (Presentation → Exit → List ℕ → Type 0) → Exit → List ℕ → Type 0
OfFile bytes = OfInput (IsFileOf bytes) (IsFileFault (IsFileRefusal bytes))

-- The exit and the text of a command for bytes that are not too many.
abbrev pub Answers : Command → List ℕ → Exit → List ℕ → Type 0
Answers (Solve q workers nodes split orbits) bytes exit text = (f : Gf) × (order f ≡ q) × OfFile bytes (Solves f nodes split orbits) exit text
Answers (Check q) bytes exit text = (f : Gf) × (order f ≡ q) × Checks f bytes exit text
Answers (Confirm q) bytes exit text = (f : Gf) × (order f ≡ q) × OfInput (IsPairOf f bytes) (IsFileFault (IsPairRefusal f bytes)) Confirms exit text
Answers (MatroidOf q) bytes exit text = (f : Gf) × (order f ≡ q) × OfInput (IsBlockOf f bytes) (IsMatrixFault (IsMatrixRefusal f bytes)) FindsMatroid exit text
Answers Dual bytes exit text = OfFile bytes WritesDual exit text
Answers (Minor delete contract) bytes exit text = OfFile bytes (WritesMinor delete contract) exit text
Answers (Plane q) bytes exit text = (f : Gf) × (order f ≡ q) × CountsClasses f exit text

-- the most bytes that a command reads; `plane` reads none
abbrev pub limit_of : Command → ℕ
limit_of (Check q) = LOG_BYTES
limit_of (Plane q) = 0
limit_of command = FILE_BYTES

-- too many bytes are refused, whatever they are
abbrev pub IsTooLong : ℕ → List ℕ → Exit → List ℕ → Type 0
IsTooLong limit bytes exit text = (limit < length bytes) × (exit ≡ Refused TooLong) × (text ≡ refusal_text TooLong)

-- the exit and the text that may stand together for a command and the bytes that were read
abbrev pub Allows : Command → List ℕ → Exit → List ℕ → Type 0
Allows command bytes exit text = IsTooLong (limit_of command) bytes exit text ⊎ ((length bytes ≤ limit_of command) × Answers command bytes exit text)
