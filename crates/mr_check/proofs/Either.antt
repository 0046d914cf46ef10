-- A text that is no accepted log is rejected.
use Rattle.std.proofs.Common.{ℕ, zero, suc, ◌≡◌, List, length, refl, sym, subst, ⊎_elim, arith}
use Rattle.std.proofs.lemmas.Bool.{cases_eq}
use Rattle.std.proofs.lemmas.Option.{slice_get_within}
use Rattle.mr_field.specs.Gf.{Gf, order}
use Rattle.mr_frame.specs.Frame.{Framed, IsFrameOf}
use Rattle.mr_class.proofs.SomeFrame.{matroids_have_frames}
use Rattle.mr_log.specs.Log.{IsLogOf}
use Rattle.mr_log.specs.Reading.{IsLogFault}
use Rattle.mr_log.specs.declared.log.Log.{Log}
use Rattle.mr_log.specs.declared.fault.Why.{Why}
use Rattle.mr_log.specs.declared.fault.Why.TheVariants.{Grammar, Size, Basis, Exchange, Step, End}
use Rattle.mr_log.proofs.Complete.{each_text_is_a_log_or_at_fault}
use Rattle.mr_check.specs.Accepted.{StepFollows, IsEnd, step_line, IsAcceptedLog, IsRejection}
use Rattle.mr_check.specs.Private.Judging.{FollowBelow}
use Rattle.mr_check.specs.Laws.{EachTextIsAcceptedOrRejected}

-- a log that is neither accepted nor rejected
module _ (field : Gf) (bytes : List ℕ) (none : (l : Log) → IsAcceptedLog field bytes l → ⊥) (sound : (line : ℕ) (why : Why) → IsRejection field bytes line why → ⊥) (l : Log) (log : IsLogOf (order field) bytes l) (f : Framed) (is : IsFrameOf l.matroid field f) where
  -- no step is the first that doesn't follow, so however many first steps are taken they follow
  follow_below : (n : ℕ) → (FollowBelow f l.steps n → ⊥) → ⊥
  follow_below zero not = not (λ j lt. absurd (omega arith))
  follow_below (suc n) not = follow_below n (λ before.
      let stray : (StepFollows f l.steps n → ⊥) → ⊥ = λ other. sound (step_line l n) Step (l, log, record { frame = f; is_frame = is; number = n; before = before; stray = other; line_is = refl }) in
      stray (λ follows. not (λ j lt. ⊎_elim
      (λ (same : j ≡ n). subst (StepFollows f l.steps) (sym same) follows)
      (λ (less : j ≡ n → ⊥). before j (omega arith))
      (cases_eq j n))))

  -- past the last there is none
  past_last : FollowBelow f l.steps (length l.steps) → (j : ℕ) → StepFollows f l.steps j
  past_last all j row there = all j (slice_get_within l.steps j row there) row there

  -- and the last line is an end, so the log would be accepted
  not_both : ⊥
  not_both = follow_below (length l.steps) (λ all.
      let steps = past_last all in
      let end : (IsEnd f l.steps l.last → ⊥) → ⊥ = λ bad. sound (step_line l (length l.steps)) End (l, log, record { frame = f; is_frame = is; steps = steps; bad = bad; line_is = refl }) in
      end (λ ends. none l (record { log = log; refutation = record { frame = f; is_frame = is; steps = steps; end = ends } })))

-- a text that is no log is rejected
pub accepted_or_rejected : EachTextIsAcceptedOrRejected
accepted_or_rejected field bytes none sound = each_text_is_a_log_or_at_fault (order field) bytes (field, refl) no_log no_fault
  where
    no_log : (l : Log) → IsLogOf (order field) bytes l → ⊥
    no_log l log = let f = matroids_have_frames l.matroid field log.log.matroid log.log.limits in not_both field bytes none sound l log f.0 f.1

    no_fault : (line : ℕ) (why : Why) → IsLogFault (order field) bytes line why → ⊥
    no_fault line Grammar fault = sound line Grammar fault
    no_fault line Size fault = sound line Size fault
    no_fault line Basis fault = sound line Basis fault
    no_fault line Exchange fault = sound line Exchange fault
    no_fault line Step fault = fault
    no_fault line End fault = fault
