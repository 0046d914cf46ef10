-- What is written for a matroid without representations is accepted when it is checked in turn.
use Rattle.std.proofs.Common.{◌≡◌, ◌⊎◌, ◌≤◌, ◌∙◌, ℕ, List, length, refl, sym, subst, inl, inr}
use Rattle.mr_field.specs.Gf.{Gf, order}
use Rattle.mr_set.specs.Matroid.{Presentation}
use Rattle.mr_linear.specs.Representation.{HasNoRepresentation}
use Rattle.matrep.specs.Texts.{accepted_text}
use Rattle.matrep.specs.Answering.{AcceptsLog, Checks}
use Rattle.matrep.specs.Result.{Allows}
use Rattle.matrep.specs.Laws.{WrittenLogsAreAccepted}
use Rattle.matrep.specs.declared.TheConstants.{LOG_BYTES}
use Rattle.matrep.specs.declared.words.Command.TheVariants.{Check}
use Rattle.matrep.specs.declared.outcome.Exit.{Exit}
use Rattle.matrep.specs.declared.outcome.Exit.TheVariants.{Done, Negative, Refused}
use Rattle.matrep.specs.declared.outcome.Fault.{Fault}
use Rattle.matrep.specs.declared.outcome.Fault.TheVariants.{TooLong}
use Rattle.matrep.proofs.Solved.{solved_negative}
use Rattle.matrep.proofs.Complete.{few}
use Rattle.matrep.proofs.OneAnswer.{same_field, one_checked}

-- a refusal isn't the exit of a log
not_negative : (fault : Fault) → Negative ≡ Refused fault → ⊥
not_negative fault is = cc

-- an accepted log has no other exit and text
only_accepted : (q : ℕ) (f : Gf) (bytes line : List ℕ) (exit : Exit) → order f ≡ q → length bytes ≤ LOG_BYTES → AcceptsLog f bytes accepted_text → Allows (Check q) bytes exit line → (exit ≡ Done) × (line ≡ accepted_text)
only_accepted q f bytes line exit over within accepts allows =
    let due = few (Check q) bytes exit line within allows in
    let same : due.0 ≡ f = same_field due.0 f (due.1 ∙ sym over) in
    one_checked f bytes exit Done line accepted_text (subst (λ (g : Gf). Checks g bytes exit line) same due.2) accepts

-- what is written is accepted
pub written_logs_are_accepted : WrittenLogsAreAccepted
written_logs_are_accepted q workers nodes split orbits bytes text (inl long) = absurd (not_negative TooLong long.1)
written_logs_are_accepted q workers nodes split orbits bytes text (inr (most, (f, over, inr refused))) = absurd (not_negative refused.0 refused.2)
written_logs_are_accepted q workers nodes split orbits bytes text (inr (most, (f, over, inl (m, file, solves)))) =
    let refuted = solved_negative f nodes split orbits m text solves in
    let accepts : AcceptsLog f text accepted_text = record {
      log = refuted.log;
      accepted = refuted.accepted;
      none = subst (λ (k : Presentation). HasNoRepresentation k f) (sym refuted.matroid) refuted.none;
      text_is = refl;
    } in
    (inr (refuted.within, (f, over, accepts)), λ exit line allows. only_accepted q f text line exit over refuted.within accepts allows)
