-- The exit and the text of the other commands, for what they read.
use Rattle.std.specs.Prelude.{◌≡◌, ℕ, List, length}
use Rattle.mr_field.specs.Gf.{Gf}
use Rattle.mr_set.specs.Elements.{elements_below, union}
use Rattle.mr_set.specs.Matroid.{Presentation}
use Rattle.mr_linear.specs.Matrix.{Grid}
use Rattle.mr_linear.specs.Representation.{Represents, IsAnswer, HasNoRepresentation}
use Rattle.mr_file.specs.File.{file_text}
use Rattle.mr_minor.specs.declared.masks.TheConstants.{BITS}
use Rattle.mr_minor.specs.Dual.{IsDual}
use Rattle.mr_minor.specs.Minor.{IsMinor, IsFirstStranger}
use Rattle.mr_matrix.specs.declared.pair.Pair.{Pair}
use Rattle.mr_matrix.specs.Difference.{IsFirstDifference}
use Rattle.mr_matrix.specs.Represented.{IsMatroidOf, IsRankShort}
use Rattle.mr_matrix.specs.Plane.{IsPlane}
use Rattle.mr_log.specs.declared.log.Log.{Log}
use Rattle.mr_log.specs.declared.fault.Why.{Why}
use Rattle.mr_check.specs.Accepted.{IsAcceptedLog, IsRejection}
use Rattle.mr_exchange.specs.declared.TheConstants.{NODES}
use Rattle.matrep.specs.Texts.{refusal_text, accepted_text, rejected_text, confirmed_text, differs_text, plane_line}
use Rattle.matrep.specs.Solving.{IsOutOfNodes}
use Rattle.matrep.specs.declared.outcome.Fault.TheVariants.{Stranger, RankShort}
use Rattle.matrep.specs.declared.outcome.Exit.{Exit}
use Rattle.matrep.specs.declared.outcome.Exit.TheVariants.{Done, Negative, Refused, Stopped}

-- the bytes are an accepted log over the field, and no matrix over it represents the log's matroid
pub record AcceptsLog (f : Gf) (bytes text : List ℕ) : Type 0 where
  pub log : Log
  pub accepted : IsAcceptedLog f bytes log
  pub none : HasNoRepresentation log.matroid f
  pub text_is : text ≡ accepted_text

-- the bytes are no accepted log over the field, and the text names the first fault
pub record RejectsLog (f : Gf) (bytes text : List ℕ) : Type 0 where
  pub line : ℕ
  pub why : Why
  pub rejected : IsRejection f bytes line why
  pub text_is : text ≡ rejected_text line why

-- of a text that is checked as a log
abbrev pub Checks : Gf → List ℕ → Exit → List ℕ → Type 0
Checks f bytes Done text = AcceptsLog f bytes text
Checks f bytes Negative text = RejectsLog f bytes text
Checks f bytes exit text = ⊥

-- of a matroid and a matrix: it represents the matroid, or the first set at which they differ is named
abbrev pub Confirms : Pair → Exit → List ℕ → Type 0
Confirms p Done text = Represents p.matrix p.matroid × (text ≡ confirmed_text)
Confirms p Negative text = (x : List ℕ) × IsFirstDifference p.matroid p.matrix x × (text ≡ differs_text x)
Confirms p exit text = ⊥

-- of a matrix: the file of the matroid that it represents, or its rank, where that is below the number of rows
abbrev pub FindsMatroid : Grid → Exit → List ℕ → Type 0
FindsMatroid a Done text = (m : Presentation) × IsMatroidOf a m × (text ≡ file_text m)
FindsMatroid a (Refused (RankShort rank)) text = IsRankShort a rank × (text ≡ refusal_text (RankShort rank))
FindsMatroid a exit text = ⊥

-- of a matroid: the file of its dual
abbrev pub WritesDual : Presentation → Exit → List ℕ → Type 0
WritesDual m Done text = (dual : Presentation) × IsDual m dual × (text ≡ file_text dual)
WritesDual m exit text = ⊥

-- e is the least number of the masks of the elements to delete and to contract that is no element of the matroid
abbrev pub IsStranger : ℕ → ℕ → Presentation → ℕ → Type 0
IsStranger d c m e = IsFirstStranger m.elements (union (elements_below BITS d) (elements_below BITS c)) e

-- of a matroid, with the elements to delete and those to contract as masks: the file of its minor where they are elements, or the least number that is none
abbrev pub WritesMinor : ℕ → ℕ → Presentation → Exit → List ℕ → Type 0
WritesMinor d c m Done text = (minor : Presentation) × ((e : ℕ) → ¬ (IsStranger d c m e)) × IsMinor m (elements_below BITS d) (elements_below BITS c) minor × (text ≡ file_text minor)
WritesMinor d c m (Refused (Stranger e)) text = IsStranger d c m e × (text ≡ refusal_text (Stranger e))
WritesMinor d c m exit text = ⊥

-- the matroid of the plane over the field
pub record IsPlaneMatroid (f : Gf) (m : Presentation) : Type 0 where
  pub matrix : Grid
  pub plane : IsPlane f matrix
  pub of_matrix : IsMatroidOf matrix m

-- the line names the numbers of elements and nonbases of the plane, and of its classes over the field
pub record CountsPlane (f : Gf) (text : List ℕ) : Type 0 where
  pub plane : Presentation
  pub is_plane : IsPlaneMatroid f plane
  pub answer : List Grid
  pub is_answer : IsAnswer plane f answer
  pub text_is : text ≡ plane_line f plane.elements (length plane.nonbases) (length answer)

-- of the plane over a field: its line, or that the greatest budget of nodes is too small
abbrev pub CountsClasses : Gf → Exit → List ℕ → Type 0
CountsClasses f Done text = CountsPlane f text
CountsClasses f (Stopped opened) text = (m : Presentation) × IsPlaneMatroid f m × IsOutOfNodes f m NODES 0 opened text
CountsClasses f exit text = ⊥
