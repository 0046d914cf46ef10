-- What a run of each command wrote, from how it ended.
use Rattle.std.proofs.Common.{◌≡◌, ℕ, Bool, true, false, List, refl, sym, ap, subst, ◌∙◌, inl, inr, ◌⊎◌, Option}
use Rattle.mr_field.specs.Gf.{Gf}
use Rattle.mr_set.specs.Matroid.{Presentation}
use Rattle.mr_file.specs.File.{IsFileOf}
use Rattle.mr_file.specs.Reading.{IsFileRefusal}
use Rattle.mr_matrix.specs.Block.{IsBlockOf}
use Rattle.mr_matrix.specs.Reading.{IsMatrixRefusal}
use Rattle.mr_matrix.specs.Pairs.{IsPairOf, IsPairRefusal}
use Rattle.matrep.specs.Words.{Says, IsFirstOffence}
use Rattle.matrep.specs.Solving.{Solves, ListsClasses, ListsOrbits, Refutes, IsOutOfNodes}
use Rattle.matrep.specs.Answering.{AcceptsLog, RejectsLog, Confirms, FindsMatroid, WritesDual, WritesMinor, CountsPlane}
use Rattle.std.specs.Io.KnownBytes.{Appends}
use Rattle.matrep.specs.Texts.{usage_text}
use Rattle.matrep.specs.Result.{Allows, OfInput, IsFileFault, IsMatrixFault}
use Rattle.matrep.specs.Headline.{Streams, Reads, Writes, OfMatroid, OfField, OfFileOf, OfPair, OfMatrix, HasText, IsAnswered, IsMisused, IsDue, Ends}
use Rattle.matrep.specs.declared.words.Command.{Command}
use Rattle.matrep.specs.declared.words.Command.TheVariants.{Solve, Check, Confirm, MatroidOf, Dual, Minor, Plane}
use Rattle.matrep.specs.declared.outcome.Exit.{Exit}
use Rattle.matrep.specs.declared.outcome.Fault.{Fault}
use Rattle.matrep.specs.declared.outcome.Fault.TheVariants.{TooLong}
use Rattle.matrep.specs.declared.outcome.Exit.TheVariants.{Done, Negative, Refused, Usage, Stopped, Memory, ReadFault, WriteFault}
use Rattle.matrep.proofs.OneReading.{one_command, no_offence, one_offence}

-- an exit with a text has written the text that is due
written : (words : List (List ℕ)) (io : Streams) (exit : Exit) → HasText exit → Ends words io exit → (text : List ℕ) × IsDue words io.left io.rest exit text × Appends io.held io.holds text
written words io Done has ends = ends
written words io Negative has ends = ends
written words io (Refused fault) has ends = ends
written words io (Usage word) has ends = ends
written words io (Stopped opened) has ends = ends
written words io Memory has ends = absurd has
written words io ReadFault has ends = absurd has
written words io WriteFault has ends = absurd has

-- what is due of the words of a command is what the command allows
module _ (words : List (List ℕ)) (io : Streams) (command : Command) (says : Says words command) where
  of_due : (exit : Exit) (text : List ℕ) → IsDue words io.left io.rest exit text → Appends io.held io.holds text → Writes io command (λ bytes text. Allows command bytes exit text)
  of_due exit text (inr misused) appended = absurd (no_offence words command misused.word says misused.offends)
  of_due exit text (inl answered) appended =
      subst (λ (c : Command). Writes io c (λ bytes text. Allows c bytes exit text)) (one_command words answered.command command answered.says says)
      (record { bytes = answered.bytes; text = text; reads = answered.reads; is = answered.allows; appends = appended })

  -- of any exit with a text
  pub answered : (exit : Exit) → HasText exit → Ends words io exit → Writes io command (λ bytes text. Allows command bytes exit text)
  answered exit has ends = let all = written words io exit has ends in of_due exit all.0 all.1 all.2

  -- and what follows of it
  pub follows : (P : List ℕ → List ℕ → Type 0) (exit known : Exit) → exit ≡ known → HasText known → ((bytes text : List ℕ) → Allows command bytes known text → P bytes text) → Ends words io exit → Writes io command P
  follows P exit known is has each ends =
      let wrote = answered known has (subst (λ (e : Exit). Ends words io e) is ends) in
      record { bytes = wrote.bytes; text = wrote.text; reads = wrote.reads; is = each wrote.bytes wrote.text wrote.is; appends = wrote.appends }

-- where a word offends its line was written
pub misused : (words : List (List ℕ)) (io : Streams) (word : ℕ) (exit : Exit) → IsFirstOffence words word → exit ≡ Usage word → Ends words io exit → Appends io.held io.holds (usage_text word)
misused words io word exit offends is ends = by (subst (λ (e : Exit). Ends words io e) is ends)
  where
    by : (text : List ℕ) × IsDue words io.left io.rest (Usage word) text × Appends io.held io.holds text → Appends io.held io.holds (usage_text word)
    by (text, inl answered, appended) = absurd (no_offence words answered.command word answered.says offends)
    by (text, inr named, appended) =
        subst (λ (t : List ℕ). Appends io.held io.holds t) (named.text_is ∙ ap usage_text (one_offence words named.word word named.offends offends)) appended

-- an exit that is no refusal
abbrev IsNoRefusal : Exit → Type 0
IsNoRefusal exit = (fault : Fault) → exit ≡ Refused fault → ⊥

no_done : IsNoRefusal Done
no_done fault is = cc

no_negative : IsNoRefusal Negative
no_negative fault is = cc

no_stop : (opened : ℕ) → IsNoRefusal (Stopped opened)
no_stop opened fault is = cc

-- such an exit is allowed for bytes that are not too many
few_bytes : {L T M A : Type 0} (exit : Exit) → IsNoRefusal exit → (L × (exit ≡ Refused TooLong) × T) ⊎ (M × A) → A
few_bytes exit none (inl long) = absurd (none TooLong long.1)
few_bytes exit none (inr few) = few.1

-- and for an input that is read
read : {X : Type 0} (Is : X → Type 0) (IsFault : Fault → Type 0) (Due : X → Exit → List ℕ → Type 0) (exit : Exit) (text : List ℕ) → IsNoRefusal exit → OfInput Is IsFault Due exit text → (x : X) × Is x × Due x exit text
read Is IsFault Due exit text none (inl due) = due
read Is IsFault Due exit text none (inr refused) = absurd (none refused.0 refused.2)

-- what a solve allows, of a file of a matroid
module _ (q workers nodes split : ℕ) (orbits : Bool) (bytes text : List ℕ) where
  solved : (exit : Exit) → IsNoRefusal exit → Allows (Solve q workers nodes split orbits) bytes exit text → OfMatroid q (λ f m t. Solves f nodes split orbits m exit t) bytes text
  solved exit none allows =
      let due = few_bytes exit none allows in
      let found = read (IsFileOf bytes) (IsFileFault (IsFileRefusal bytes)) (Solves due.0 nodes split orbits) exit text none due.2 in
      record { field = due.0; over = due.1; matroid = found.0; is_file = found.1; is = found.2 }

-- the negative of a solve is a refutation, and its stop one for want of nodes
negative_is : (f : Gf) (nodes split : ℕ) (orbits : Bool) (m : Presentation) (text : List ℕ) → Solves f nodes split orbits m Negative text → Refutes f nodes m text
negative_is f nodes split true m text h = h
negative_is f nodes split false m text h = h

stop_is : (f : Gf) (nodes split : ℕ) (orbits : Bool) (m : Presentation) (opened : ℕ) (text : List ℕ) → Solves f nodes split orbits m (Stopped opened) text → IsOutOfNodes f m nodes split opened text
stop_is f nodes split true m opened text h = h
stop_is f nodes split false m opened text h = h

-- the classes of a solve
pub classes : (q workers nodes split : ℕ) (bytes text : List ℕ) → Allows (Solve q workers nodes split false) bytes Done text → OfMatroid q (λ f. ListsClasses f nodes) bytes text
classes q workers nodes split bytes text allows =
    let due = solved q workers nodes split false bytes text Done no_done allows in
    record { field = due.field; over = due.over; matroid = due.matroid; is_file = due.is_file; is = due.is }

-- its orbits
pub orbits : (q workers nodes split : ℕ) (bytes text : List ℕ) → Allows (Solve q workers nodes split true) bytes Done text → OfMatroid q (λ f. ListsOrbits f nodes) bytes text
orbits q workers nodes split bytes text allows =
    let due = solved q workers nodes split true bytes text Done no_done allows in
    record { field = due.field; over = due.over; matroid = due.matroid; is_file = due.is_file; is = due.is }

-- its log
pub refuted : (q workers nodes split : ℕ) (b : Bool) (bytes text : List ℕ) → Allows (Solve q workers nodes split b) bytes Negative text → OfMatroid q (λ f. Refutes f nodes) bytes text
refuted q workers nodes split b bytes text allows =
    let due = solved q workers nodes split b bytes text Negative no_negative allows in
    record { field = due.field; over = due.over; matroid = due.matroid; is_file = due.is_file; is = negative_is due.field nodes split b due.matroid text due.is }

-- and its stop
pub stopped : (q workers nodes split opened : ℕ) (b : Bool) (bytes text : List ℕ) → Allows (Solve q workers nodes split b) bytes (Stopped opened) text → OfMatroid q (λ f m. IsOutOfNodes f m nodes split opened) bytes text
stopped q workers nodes split opened b bytes text allows =
    let due = solved q workers nodes split b bytes text (Stopped opened) (no_stop opened) allows in
    record { field = due.field; over = due.over; matroid = due.matroid; is_file = due.is_file; is = stop_is due.field nodes split b due.matroid opened text due.is }

-- a log that is accepted
pub accepted : (q : ℕ) (bytes text : List ℕ) → Allows (Check q) bytes Done text → OfField q AcceptsLog bytes text
accepted q bytes text allows = let due = few_bytes Done no_done allows in record { field = due.0; over = due.1; is = due.2 }

-- and one that isn't
pub rejected : (q : ℕ) (bytes text : List ℕ) → Allows (Check q) bytes Negative text → OfField q RejectsLog bytes text
rejected q bytes text allows = let due = few_bytes Negative no_negative allows in record { field = due.0; over = due.1; is = due.2 }

-- a matrix that is held against a matroid
confirming : (q : ℕ) (bytes text : List ℕ) (exit : Exit) → IsNoRefusal exit → Allows (Confirm q) bytes exit text → OfPair q (λ p. Confirms p exit) bytes text
confirming q bytes text exit none allows =
    let due = few_bytes exit none allows in
    let found = read (IsPairOf due.0 bytes) (IsFileFault (IsPairRefusal due.0 bytes)) Confirms exit text none due.2 in
    record { field = due.0; over = due.1; pair = found.0; is_pair = found.1; is = found.2 }

-- one that represents the matroid
pub confirmed : (q : ℕ) (bytes text : List ℕ) → Allows (Confirm q) bytes Done text → OfPair q (λ p. Confirms p Done) bytes text
confirmed q bytes text = confirming q bytes text Done no_done

-- and one that doesn't
pub differs : (q : ℕ) (bytes text : List ℕ) → Allows (Confirm q) bytes Negative text → OfPair q (λ p. Confirms p Negative) bytes text
differs q bytes text = confirming q bytes text Negative no_negative

-- the matroid of a matrix
pub matroid : (q : ℕ) (bytes text : List ℕ) → Allows (MatroidOf q) bytes Done text → OfMatrix q (λ a. FindsMatroid a Done) bytes text
matroid q bytes text allows =
    let due = few_bytes Done no_done allows in
    let found = read (IsBlockOf due.0 bytes) (IsMatrixFault (IsMatrixRefusal due.0 bytes)) FindsMatroid Done text no_done due.2 in
    record { field = due.0; over = due.1; matrix = found.0; is_block = found.1; is = found.2 }

-- the dual
pub dual : (bytes text : List ℕ) → Allows Dual bytes Done text → OfFileOf (λ m. WritesDual m Done) bytes text
dual bytes text allows =
    let found = read (IsFileOf bytes) (IsFileFault (IsFileRefusal bytes)) WritesDual Done text no_done (few_bytes Done no_done allows) in
    record { matroid = found.0; is_file = found.1; is = found.2 }

-- the minor
pub minor : (d c : ℕ) (bytes text : List ℕ) → Allows (Minor d c) bytes Done text → OfFileOf (λ m. WritesMinor d c m Done) bytes text
minor d c bytes text allows =
    let found = read (IsFileOf bytes) (IsFileFault (IsFileRefusal bytes)) (WritesMinor d c) Done text no_done (few_bytes Done no_done allows) in
    record { matroid = found.0; is_file = found.1; is = found.2 }

-- and the plane
pub plane : (q : ℕ) (bytes text : List ℕ) → Allows (Plane q) bytes Done text → OfField q (λ f bytes. CountsPlane f) bytes text
plane q bytes text allows = let due = few_bytes Done no_done allows in record { field = due.0; over = due.1; is = due.2 }
