-- What a run does to its source and its sink.
use Rattle.std.specs.Prelude.{◌≡◌, ◌≢◌, ◌⊎◌, ℕ, ◌+◌, ◌≤◌, List, [], length, Option}
use Rattle.std.specs.Io.KnownBytes.{Consumes, IsAtEnd, Appends, Keeps}
use Rattle.mr_io.specs.Faults.{Rose}
use Rattle.mr_io.specs.Writing.{AppendsProperPrefix}
use Rattle.mr_field.specs.Gf.{Gf, order}
use Rattle.mr_set.specs.Matroid.{Presentation}
use Rattle.mr_file.specs.File.{IsFileOf}
use Rattle.mr_linear.specs.Matrix.{Grid}
use Rattle.mr_matrix.specs.declared.pair.Pair.{Pair}
use Rattle.mr_matrix.specs.Pairs.{IsPairOf}
use Rattle.mr_matrix.specs.Block.{IsBlockOf}
use Rattle.matrep.specs.Words.{Says, IsFirstOffence}
use Rattle.matrep.specs.Texts.{usage_text}
use Rattle.matrep.specs.Result.{limit_of, Allows}
use Rattle.matrep.specs.declared.words.Command.{Command}
use Rattle.matrep.specs.declared.words.Command.TheVariants.{Plane}
use Rattle.matrep.specs.declared.outcome.Exit.{Exit}
use Rattle.matrep.specs.declared.outcome.Exit.TheVariants.{Usage, Memory, ReadFault, WriteFault}

-- What is left in the source before and after a run, and what the sink holds before and after it, where they tell it.
pub record Streams : Type 0 where
  pub left : Option (List ℕ)
  pub rest : Option (List ℕ)
  pub held : Option (List ℕ)
  pub holds : Option (List ℕ)

-- the same from its parts
abbrev pub streams : Option (List ℕ) → Option (List ℕ) → Option (List ℕ) → Option (List ℕ) → Streams
streams left rest held holds = record { left = left; rest = rest; held = held; holds = holds }

-- These bytes were taken: all that was left, or one more than the limit.
pub record Takes (limit : ℕ) (old new : Option (List ℕ)) (bytes : List ℕ) : Type 0 where
  pub taken : Consumes old new bytes
  pub most : length bytes ≤ limit + 1
  pub ended : length bytes ≤ limit → IsAtEnd new

-- Some bytes were taken from the front, at most so many.
abbrev pub TakesAtMost : ℕ → Option (List ℕ) → Option (List ℕ) → Type 0
TakesAtMost most old new = (bytes : List ℕ) × Consumes old new bytes × (length bytes ≤ most)

-- what a command reads: `plane` nothing, and every other its input
abbrev pub Reads : Command → Option (List ℕ) → Option (List ℕ) → List ℕ → Type 0
Reads (Plane q) old new bytes = (bytes ≡ []) × Keeps old new
Reads command old new bytes = Takes (limit_of command) old new bytes

-- the command read these bytes, and the sink got this text, of which P holds
pub record Writes (io : Streams) (command : Command) (P : List ℕ → List ℕ → Type 0) : Type 0 where
  pub bytes : List ℕ
  pub text : List ℕ
  pub reads : Reads command io.left io.rest bytes
  pub is : P bytes text
  pub appends : Appends io.held io.holds text

-- P holds of a field with q elements, a matroid whose file the bytes are, and the text
pub record OfMatroid (q : ℕ) (P : Gf → Presentation → List ℕ → Type 0) (bytes text : List ℕ) : Type 0 where
  pub field : Gf
  pub over : order field ≡ q
  pub matroid : Presentation
  pub is_file : IsFileOf bytes matroid
  pub is : P field matroid text

-- P holds of a field with q elements, and the bytes and the text
pub record OfField (q : ℕ) (P : Gf → List ℕ → List ℕ → Type 0) (bytes text : List ℕ) : Type 0 where
  pub field : Gf
  pub over : order field ≡ q
  pub is : P field bytes text

-- P holds of a matroid whose file the bytes are, and the text
pub record OfFileOf (P : Presentation → List ℕ → Type 0) (bytes text : List ℕ) : Type 0 where
  pub matroid : Presentation
  pub is_file : IsFileOf bytes matroid
  pub is : P matroid text

-- P holds of a matroid and a matrix over a field with q elements that the bytes are, and the text
pub record OfPair (q : ℕ) (P : Pair → List ℕ → Type 0) (bytes text : List ℕ) : Type 0 where
  pub field : Gf
  pub over : order field ≡ q
  pub pair : Pair
  pub is_pair : IsPairOf field bytes pair
  pub is : P pair text

-- P holds of a matrix over a field with q elements that the bytes are, and the text
pub record OfMatrix (q : ℕ) (P : Grid → List ℕ → Type 0) (bytes text : List ℕ) : Type 0 where
  pub field : Gf
  pub over : order field ≡ q
  pub matrix : Grid
  pub is_block : IsBlockOf field bytes matrix
  pub is : P matrix text

-- an exit that goes with a text
abbrev pub HasText : Exit → Type 0
HasText Memory = ⊥
HasText ReadFault = ⊥
HasText WriteFault = ⊥
HasText exit = Unit {0}

-- the words say a command, and the exit and the text are what it allows for the bytes that were taken
pub record IsAnswered (words : List (List ℕ)) (old new : Option (List ℕ)) (exit : Exit) (text : List ℕ) : Type 0 where
  pub command : Command
  pub says : Says words command
  pub bytes : List ℕ
  pub reads : Reads command old new bytes
  pub allows : Allows command bytes exit text

-- a word offends, nothing is taken, and the exit and the text name the first place that does
pub record IsMisused (words : List (List ℕ)) (old new : Option (List ℕ)) (exit : Exit) (text : List ℕ) : Type 0 where
  pub word : ℕ
  pub offends : IsFirstOffence words word
  pub keeps : Keeps old new
  pub exit_is : exit ≡ Usage word
  pub text_is : text ≡ usage_text word

-- the exit and the text that are due
abbrev pub IsDue : List (List ℕ) → Option (List ℕ) → Option (List ℕ) → Exit → List ℕ → Type 0
IsDue words old new exit text = IsAnswered words old new exit text ⊎ IsMisused words old new exit text

-- a front of a text that was due was appended, and not all of it
abbrev pub WritesPart : List (List ℕ) → Streams → Type 0
WritesPart words io = (exit : Exit) × (text : List ℕ) × IsDue words io.left io.rest exit text × AppendsProperPrefix io.held io.holds text

-- a word offends, or the words say a command that reads no input
abbrev pub TakesNothing : List (List ℕ) → Type 0
TakesNothing words = ((word : ℕ) × IsFirstOffence words word) ⊎ ((q : ℕ) × Says words (Plane q))

-- How a run ends: what it took from its source, and what its sink holds.
abbrev pub Ends : List (List ℕ) → Streams → Exit → Type 0
Ends words io Memory = Keeps io.held io.holds
Ends words io ReadFault = Keeps io.held io.holds
Ends words io WriteFault = WritesPart words io
Ends words io exit = (text : List ℕ) × IsDue words io.left io.rest exit text × Appends io.held io.holds text

-- A fault of a device comes only where that device's count of faults rose, no count falls, and the count of a device whose fault
-- the exit isn't stays.
pub record HasCauses (read read_after written written_after : ℕ) (exit : Exit) : Type 0 where
  pub read_fault : exit ≡ ReadFault → Rose read read_after
  pub write_fault : exit ≡ WriteFault → Rose written written_after
  pub input_count : read ≤ read_after
  pub output_count : written ≤ written_after
  pub input_steady : exit ≢ ReadFault → read_after ≡ read
  pub output_steady : exit ≢ WriteFault → written_after ≡ written

-- Whatever the exit, no more than one byte beyond the command's limit is taken; and no more than the limit where a read failed.
pub record TakesLittle (words : List (List ℕ)) (old new : Option (List ℕ)) (exit : Exit) : Type 0 where
  pub most : (command : Command) → Says words command → TakesAtMost (limit_of command + 1) old new
  pub early : (command : Command) → Says words command → exit ≡ ReadFault → TakesAtMost (limit_of command) old new
