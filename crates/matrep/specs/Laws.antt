-- What is due of words and an input.
use Rattle.std.specs.Prelude.{◌≡◌, ◌≢◌, ◌⊎◌, ℕ, ◌≤◌, min, Bool, List, [], length, Option, Some}
use Rattle.mr_field.specs.Gf.{Gf, order}
use Rattle.mr_set.specs.Matroid.{Presentation, IsMatroid}
use Rattle.mr_matroid.specs.Exchange.{IsWithinLimits}
use Rattle.mr_file.specs.File.{IsFileOf}
use Rattle.mr_file.specs.declared.TheConstants.{FILE_BYTES}
use Rattle.mr_linear.specs.Matrix.{Grid, height, IsColumnRank}
use Rattle.mr_linear.specs.Representation.{Represents, IsAnswer}
use Rattle.mr_frame.specs.Frame.{Framed, IsFrameOf}
use Rattle.mr_log.specs.declared.log.Log.{Log}
use Rattle.mr_log.specs.declared.fault.Why.{Why}
use Rattle.mr_check.specs.Accepted.{IsAcceptedLog, IsRejection}
use Rattle.mr_matrix.specs.Block.{IsBlockOf}
use Rattle.mr_matrix.specs.Difference.{IsFirstDifference}
use Rattle.mr_matrix.specs.Pairs.{IsPairOf}
use Rattle.mr_matrix.specs.declared.pair.Pair.{Pair}
use Rattle.mr_search.specs.Nodes.{IsNeed, enough}
use Rattle.matrep.specs.Words.{Says, IsFirstOffence}
use Rattle.matrep.specs.Headline.{IsDue}
use Rattle.matrep.specs.Texts.{accepted_text}
use Rattle.matrep.specs.Answering.{IsStranger}
use Rattle.matrep.specs.Result.{Allows}
use Rattle.matrep.specs.declared.TheConstants.{LOG_BYTES}
use Rattle.matrep.specs.declared.words.Command.{Command}
use Rattle.matrep.specs.declared.words.Command.TheVariants.{Solve, Check, Confirm, MatroidOf, Dual, Minor, Plane}
use Rattle.matrep.specs.declared.outcome.Exit.TheVariants.{Done, Negative, Stopped}
use Rattle.matrep.specs.declared.outcome.Exit.{Exit}

-- words say one command at most
abbrev pub OneCommand : Type 0
OneCommand = (words : List (List ℕ)) (c d : Command) → Says words c → Says words d → c ≡ d

-- words say a command, or a place is the first that offends
abbrev pub SaysOrOffends : List (List ℕ) → Type 0
SaysOrOffends words = ((c : Command) × Says words c) ⊎ ((place : ℕ) × IsFirstOffence words place)

-- words that say a command don't offend
abbrev pub NoOffence : Type 0
NoOffence = (words : List (List ℕ)) (c : Command) (place : ℕ) → Says words c → ¬ (IsFirstOffence words place)

-- one place is the first that offends
abbrev pub OneOffence : Type 0
OneOffence = (words : List (List ℕ)) (place other : ℕ) → IsFirstOffence words place → IsFirstOffence words other → place ≡ other

-- the search was stopped
abbrev pub IsStopped : Exit → Type 0
IsStopped exit = (opened : ℕ) × (exit ≡ Stopped opened)

-- the words are those of a solve, and the exit tells that no matrix represents the matroid
abbrev pub IsRefuted : List (List ℕ) → Exit → Type 0
IsRefuted words exit =
    (q : ℕ) × (workers : ℕ) × (nodes : ℕ) × (split : ℕ) × (orbits : Bool) × Says words (Solve q workers nodes split orbits) × (exit ≡ Negative)

-- For given words and a known input one exit and one text are due, and one rest of the input: unless a search was stopped, and
-- but for the log, which isn't the only one.
abbrev pub OneEndIsDue : Type 0
OneEndIsDue =
    (words : List (List ℕ)) (old : List ℕ) (new rest : Option (List ℕ)) (exit end : Exit) (text line : List ℕ) →
    IsDue words (Some old) new exit text → IsDue words (Some old) rest end line → ¬ (IsStopped exit) → ¬ (IsStopped end) →
    (exit ≡ end) × (new ≡ rest) × (IsRefuted words exit ⊎ (text ≡ line))

-- a log that is written for the file of a matroid is within the checker's limit, and accepted when it is checked in turn: no other
-- exit and text are allowed
abbrev pub WrittenLogsAreAccepted : Type 0
WrittenLogsAreAccepted =
    (q workers nodes split : ℕ) (orbits : Bool) (bytes text : List ℕ) →
    Allows (Solve q workers nodes split orbits) bytes Negative text →
    Allows (Check q) text Done accepted_text × ((exit : Exit) (line : List ℕ) → Allows (Check q) text exit line → (exit ≡ Done) × (line ≡ accepted_text))

-- n is the need of the matroid over the field for a split: how many nodes its frame has from the depth of the split on
pub record IsNeedOf (f : Gf) (m : Presentation) (split n : ℕ) : Type 0 where
  pub frame : Framed
  pub is_frame : IsFrameOf m f frame
  pub need : IsNeed frame (min split (length frame.places)) n

-- n is what the powers of the number of nonzero elements add up to, from the depth of the split to the frame's number of free
-- positions
pub record IsEnoughFor (f : Gf) (m : Presentation) (split n : ℕ) : Type 0 where
  pub frame : Framed
  pub is_frame : IsFrameOf m f frame
  pub is : n ≡ enough (order f) (length frame.places) (min split (length frame.places))

-- a solve whose budget is no smaller than the matroid's need isn't stopped
abbrev pub EnoughNodesSuffice : Type 0
EnoughNodesSuffice =
    (q workers nodes split opened need : ℕ) (orbits : Bool) (f : Gf) (m : Presentation) (bytes text : List ℕ) →
    order f ≡ q → IsFileOf bytes m → IsNeedOf f m split need → need ≤ nodes → ¬ (Allows (Solve q workers nodes split orbits) bytes (Stopped opened) text)

-- nor is one whose budget is no smaller than what the powers add up to
abbrev pub PowersSuffice : Type 0
PowersSuffice =
    (q workers nodes split opened sum : ℕ) (orbits : Bool) (f : Gf) (m : Presentation) (bytes text : List ℕ) →
    order f ≡ q → IsFileOf bytes m → IsEnoughFor f m split sum → sum ≤ nodes → ¬ (Allows (Solve q workers nodes split orbits) bytes (Stopped opened) text)

-- each matroid within the limits has both numbers over each field, and the need is at most the other
abbrev pub MatroidsHaveNeeds : Type 0
MatroidsHaveNeeds =
    (f : Gf) (m : Presentation) (split : ℕ) → IsMatroid m → IsWithinLimits m → (n : ℕ) × (sum : ℕ) × IsNeedOf f m split n × IsEnoughFor f m split sum × (n ≤ sum)

-- Where the bytes are the file of a matroid and the search isn't stopped, a solve is done if the answer over the field has
-- members, and negative if it has none.
abbrev pub SolvesEnd : Type 0
SolvesEnd =
    (q workers nodes split : ℕ) (orbits : Bool) (f : Gf) (m : Presentation) (answer : List Grid) (bytes text : List ℕ) (exit : Exit) →
    order f ≡ q → IsFileOf bytes m → IsAnswer m f answer → Allows (Solve q workers nodes split orbits) bytes exit text → ¬ (IsStopped exit) →
    ((answer ≢ []) × (exit ≡ Done)) ⊎ ((answer ≡ []) × (exit ≡ Negative))

-- a check is done if the bytes are an accepted log, and negative if they are rejected
abbrev pub ChecksEnd : Type 0
ChecksEnd =
    (q : ℕ) (f : Gf) (bytes text : List ℕ) (exit : Exit) → order f ≡ q → length bytes ≤ LOG_BYTES → Allows (Check q) bytes exit text →
    ((log : Log) × IsAcceptedLog f bytes log × (exit ≡ Done)) ⊎ ((line : ℕ) × (why : Why) × IsRejection f bytes line why × (exit ≡ Negative))

-- of a matroid and a matrix, a confirmation is done if the matrix represents the matroid, and negative if they differ at a set
abbrev pub ConfirmationsEnd : Type 0
ConfirmationsEnd =
    (q : ℕ) (f : Gf) (p : Pair) (bytes text : List ℕ) (exit : Exit) → order f ≡ q → length bytes ≤ FILE_BYTES → IsPairOf f bytes p → Allows (Confirm q) bytes exit text →
    (Represents p.matrix p.matroid × (exit ≡ Done)) ⊎ ((x : List ℕ) × IsFirstDifference p.matroid p.matrix x × (exit ≡ Negative))

-- of a matrix whose rank is its number of rows the matroid is written
abbrev pub MatroidsEnd : Type 0
MatroidsEnd =
    (q : ℕ) (f : Gf) (a : Grid) (bytes text : List ℕ) (exit : Exit) →
    order f ≡ q → length bytes ≤ FILE_BYTES → IsBlockOf f bytes a → IsColumnRank a (height a) → Allows (MatroidOf q) bytes exit text → exit ≡ Done

-- of a matroid the dual is written
abbrev pub DualsEnd : Type 0
DualsEnd = (m : Presentation) (bytes text : List ℕ) (exit : Exit) → IsFileOf bytes m → Allows Dual bytes exit text → exit ≡ Done

-- and the minor by numbers that all are elements
abbrev pub MinorsEnd : Type 0
MinorsEnd = (d c : ℕ) (m : Presentation) (bytes text : List ℕ) (exit : Exit) → IsFileOf bytes m → ((e : ℕ) → ¬ (IsStranger d c m e)) → Allows (Minor d c) bytes exit text → exit ≡ Done

-- the classes of a plane are counted where the search isn't stopped
abbrev pub PlanesEnd : Type 0
PlanesEnd = (q : ℕ) (text : List ℕ) (exit : Exit) → Allows (Plane q) [] exit text → ¬ (IsStopped exit) → exit ≡ Done
