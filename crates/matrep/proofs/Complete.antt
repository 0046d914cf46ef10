-- What an accepted input leaves to each command: done or negative, as the input decides.
use Rattle.std.proofs.Common.{◌≡◌, ◌≢◌, ◌⊎◌, ℕ, ◌≤◌, List, [], length, refl, sym, subst, ◌∙◌, inl, inr, ⊎_elim, arith}
use Rattle.mr_set.specs.Elements.{elements_below}
use Rattle.mr_field.specs.Gf.{Gf, order}
use Rattle.mr_set.specs.Matroid.{Presentation}
use Rattle.mr_file.specs.File.{file_text}
use Rattle.mr_file.specs.declared.TheConstants.{FILE_BYTES}
use Rattle.mr_file.proofs.Lengths.{file_length}
use Rattle.mr_linear.specs.Matrix.{Grid, height, IsColumnRank}
use Rattle.mr_linear.specs.Representation.{Represents, IsAnswer}
use Rattle.mr_linear.proofs.Unique.{one-answer, one-rank}
use Rattle.mr_matrix.specs.Block.{IsBlockOf}
use Rattle.mr_matrix.specs.Difference.{IsFirstDifference}
use Rattle.mr_matrix.specs.Reading.{IsMatrixRefusal}
use Rattle.mr_matrix.specs.Pairs.{IsPairOf, IsPairRefusal}
use Rattle.mr_matrix.specs.Represented.{IsMatroidOf, IsRankShort}
use Rattle.mr_matrix.specs.declared.pair.Pair.{Pair}
use Rattle.mr_minor.specs.declared.masks.TheConstants.{BITS}
use Rattle.mr_minor.specs.Minor.{IsMinor}
use Rattle.matrep.specs.Texts.{refusal_text}
use Rattle.matrep.specs.Solving.{Solves, Refutes}
use Rattle.matrep.specs.Answering.{AcceptsLog, RejectsLog, Checks, Confirms, FindsMatroid, WritesDual, IsStranger, WritesMinor, CountsClasses}
use Rattle.matrep.specs.Result.{OfInput, IsFileFault, IsMatrixFault, Answers, Allows, limit_of}
use Rattle.matrep.specs.Laws.{SolvesEnd, ChecksEnd, ConfirmationsEnd, MatroidsEnd, DualsEnd, MinorsEnd, PlanesEnd}
use Rattle.matrep.specs.declared.words.Command.{Command}
use Rattle.matrep.specs.declared.words.Command.TheVariants.{Solve, Check, Confirm, MatroidOf, Dual, Minor, Plane}
use Rattle.matrep.specs.declared.outcome.Exit.{Exit}
use Rattle.matrep.specs.declared.outcome.Exit.TheVariants.{Done, Negative, Refused, Usage, Stopped, Memory, ReadFault, WriteFault}
use Rattle.matrep.specs.declared.outcome.Fault.TheVariants.{Stranger, RankShort}
use Rattle.matrep.proofs.OneInput.{due_of_file, due_of_pair, due_of_matrix}
use Rattle.matrep.proofs.OneAnswer.{same_field, Lists, not_empty, solved, checked, found, written, taken, counted}

-- bytes that aren't too many are answered
pub few : (command : Command) (bytes : List ℕ) (exit : Exit) (text : List ℕ) → length bytes ≤ limit_of command → Allows command bytes exit text → Answers command bytes exit text
few command bytes exit text le (inl long) = absurd (omega (arith, le, long.0))
few command bytes exit text le (inr answers) = answers.1

-- a solve is done where the answer has members, and negative where it has none
pub solves_end : SolvesEnd
solves_end q workers nodes split orbits f m answer bytes text exit over file is_answer allows goes =
    let within : length bytes ≤ FILE_BYTES = subst (λ (b : List ℕ). length b ≤ FILE_BYTES) (sym file.text) (file_length m file.matroid.presentation file.limits) in
    let due = few (Solve q workers nodes split orbits) bytes exit text within allows in
    let same : due.0 ≡ f = same_field due.0 f (due.1 ∙ sym over) in
    by (solved f nodes split orbits m exit text goes (subst (λ (g : Gf). Solves g nodes split orbits m exit text) same (due_of_file bytes m (Solves due.0 nodes split orbits) exit text file due.2)))
  where
    by : ((exit ≡ Done) × Lists orbits f nodes m text) ⊎ ((exit ≡ Negative) × Refutes f nodes m text) → ((answer ≢ []) × (exit ≡ Done)) ⊎ ((answer ≡ []) × (exit ≡ Negative))
    by (inl (done, lists)) = inl ((λ none. not_empty orbits f nodes m text lists (subst (IsAnswer m f) none is_answer)), done)
    by (inr (negative, refuted)) = inr (one-answer m f answer [] is_answer refuted.empty, negative)

-- a check is done where the bytes are an accepted log, and negative where they are none
pub checks_end : ChecksEnd
checks_end q f bytes text exit over within allows =
    let due = few (Check q) bytes exit text within allows in
    let same : due.0 ≡ f = same_field due.0 f (due.1 ∙ sym over) in
    ⊎_elim
    (λ (here : (exit ≡ Done) × AcceptsLog f bytes text). inl (here.1.log, here.1.accepted, here.0))
    (λ (here : (exit ≡ Negative) × RejectsLog f bytes text). inr (here.1.line, here.1.why, here.1.rejected, here.0))
    (checked f bytes exit text (subst (λ (g : Gf). Checks g bytes exit text) same due.2))

-- a confirmation is done where the matrix represents the matroid, and negative where they differ
pub confirmations_end : ConfirmationsEnd
confirmations_end q f p bytes text exit over within is allows =
    let due = few (Confirm q) bytes exit text within allows in
    let same : due.0 ≡ f = same_field due.0 f (due.1 ∙ sym over) in
    by exit text (due_of_pair f bytes p Confirms exit text is (subst (λ (g : Gf). OfInput (IsPairOf g bytes) (IsFileFault (IsPairRefusal g bytes)) Confirms exit text) same due.2))
  where
    by : (exit : Exit) (text : List ℕ) → Confirms p exit text → (Represents p.matrix p.matroid × (exit ≡ Done)) ⊎ ((x : List ℕ) × IsFirstDifference p.matroid p.matrix x × (exit ≡ Negative))
    by Done text (represents, is) = inl (represents, refl)
    by Negative text (x, first, is) = inr (x, first, refl)
    by (Refused fault) text none = absurd none
    by (Usage word) text none = absurd none
    by (Stopped opened) text none = absurd none
    by Memory text none = absurd none
    by ReadFault text none = absurd none
    by WriteFault text none = absurd none

-- the matroid of a matrix of full rank is written
pub matroids_end : MatroidsEnd
matroids_end q f a bytes text exit over within is full allows =
    let due = few (MatroidOf q) bytes exit text within allows in
    let same : due.0 ≡ f = same_field due.0 f (due.1 ∙ sym over) in
    ⊎_elim
    (λ (made : (m : Presentation) × IsMatroidOf a m × (exit ≡ Done) × (text ≡ file_text m)). made.2)
    (λ (short : (k : ℕ) × IsRankShort a k × (exit ≡ Refused (RankShort k)) × (text ≡ refusal_text (RankShort k))).
    absurd (let one = one-rank a short.0 (height a) short.1.rank full in let less = short.1.short in omega arith))
    (found a exit text (due_of_matrix f bytes a FindsMatroid exit text is (subst (λ (g : Gf). OfInput (IsBlockOf g bytes) (IsMatrixFault (IsMatrixRefusal g bytes)) FindsMatroid exit text) same due.2)))

-- a dual is written
pub duals_end : DualsEnd
duals_end m bytes text exit file allows =
    let within : length bytes ≤ FILE_BYTES = subst (λ (b : List ℕ). length b ≤ FILE_BYTES) (sym file.text) (file_length m file.matroid.presentation file.limits) in
    (written m exit text (due_of_file bytes m WritesDual exit text file (few Dual bytes exit text within allows))).2

-- and a minor by elements
pub minors_end : MinorsEnd
minors_end d c m bytes text exit file none allows =
    let within : length bytes ≤ FILE_BYTES = subst (λ (b : List ℕ). length b ≤ FILE_BYTES) (sym file.text) (file_length m file.matroid.presentation file.limits) in
    ⊎_elim
    (λ (made : (minor : Presentation) × ((e : ℕ) → ¬ (IsStranger d c m e)) × IsMinor m (elements_below BITS d) (elements_below BITS c) minor × (exit ≡ Done) × (text ≡ file_text minor)). made.3)
    (λ (stranger : (e : ℕ) × IsStranger d c m e × (exit ≡ Refused (Stranger e)) × (text ≡ refusal_text (Stranger e))). absurd (none stranger.0 stranger.1))
    (taken d c m exit text (due_of_file bytes m (WritesMinor d c) exit text file (few (Minor d c) bytes exit text within allows)))

-- a plane is counted
pub planes_end : PlanesEnd
planes_end q text exit allows goes =
    let due = few (Plane q) [] exit text (omega arith) allows in
    (counted due.0 exit text goes due.2).0
