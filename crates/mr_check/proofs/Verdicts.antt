-- The verdict on a text from that of reading it and that on the log.
use Rattle.std.proofs.Common.{◌≡◌, ℕ, List, length, refl, ap, subst, ◌∙◌, Result, Ok, Err}
use Rattle.std.specs.Prelude.{IfOk, IfErr, MatchResult}
use Rattle.mr_field.specs.Gf.{Gf, order}
use Rattle.mr_linear.specs.Representation.{HasNoRepresentation}
use Rattle.mr_log.specs.Log.{IsLogOf}
use Rattle.mr_log.specs.Reading.{IsLogRefusal}
use Rattle.mr_log.proofs.Accepting.{one_log}
use Rattle.mr_log.specs.declared.log.Log.{Log}
use Rattle.mr_log.specs.declared.fault.Why.TheVariants.{Grammar, Size, Basis, Exchange, Step, End}
use Rattle.mr_log.specs.declared.fault.LogFault.{LogFault}
use Rattle.mr_log.specs.declared.fault.LogFault.TheVariants.{Bad, Memory}
use Rattle.mr_check.specs.declared.checker.Accepted.{Accepted}
use Rattle.mr_check.specs.declared.checker.CheckFault.{CheckFault}
use Rattle.mr_check.specs.declared.checker.CheckFault.TheVariants as check
use Rattle.mr_check.specs.Accepted.{IsRefutation, IsAcceptedLog, IsRejected}
use Rattle.mr_check.specs.Private.Judging.{IsFaulty, as_check_fault}
use Rattle.mr_check.proofs.Sound.{refutes}
use Rattle.mr_check.proofs.Rejections.{accepted_is_not_rejected}

-- a text that is no log is rejected for the same cause
pub refused : (field : Gf) (bytes : List ℕ) (e : LogFault) → IsLogRefusal (order field) bytes e → IsRejected field bytes (as_check_fault e)
refused field bytes (Bad line Grammar) p = p
refused field bytes (Bad line Size) p = p
refused field bytes (Bad line Basis) p = p
refused field bytes (Bad line Exchange) p = p
refused field bytes (Bad line Step) p = absurd p
refused field bytes (Bad line End) p = absurd p
refused field bytes Memory p = tt

-- a log that is a refutation is accepted
pub accepted : (field : Gf) (bytes : List ℕ) (l : Log) (r : Result Accepted CheckFault) → IsLogOf (order field) bytes l → MatchResult r (λ a. IsRefutation field l × (a.steps ≡ length l.steps)) (IsFaulty field l) →
    IfOk r (λ a. (k : Log) × IsAcceptedLog field bytes k × (a.steps ≡ length k.steps))
accepted field bytes l (Ok a) log (refutation, steps) = (l, record { log = log; refutation = refutation }, steps)
accepted field bytes l (Err e) log faulty = tt

-- another log is rejected
pub faulty : (field : Gf) (bytes : List ℕ) (l : Log) (r : Result Accepted CheckFault) → IsLogOf (order field) bytes l → MatchResult r (λ a. IsRefutation field l × (a.steps ≡ length l.steps)) (IsFaulty field l) →
    IfErr r (IsRejected field bytes)
faulty field bytes l (Ok a) log good = tt
faulty field bytes l (Err (check.Rejected line Grammar)) log none = absurd none
faulty field bytes l (Err (check.Rejected line Size)) log none = absurd none
faulty field bytes l (Err (check.Rejected line Basis)) log none = absurd none
faulty field bytes l (Err (check.Rejected line Exchange)) log none = absurd none
faulty field bytes l (Err (check.Rejected line Step)) log stray = (l, log, stray)
faulty field bytes l (Err (check.Rejected line End)) log bad = (l, log, bad)
faulty field bytes l (Err check.Memory) log none = tt

-- an accepted log is accepted, unless memory runs out
pub accepts : (field : Gf) (bytes : List ℕ) (r : Result Accepted CheckFault) → IfOk r (λ a. (l : Log) × IsAcceptedLog field bytes l × (a.steps ≡ length l.steps)) →
    IfErr r (IsRejected field bytes) → (l : Log) → IsAcceptedLog field bytes l → MatchResult r (λ a. a.steps ≡ length l.steps) (λ e. e ≡ check.Memory)
accepts field bytes (Ok a) (k, is, steps) rejected l log = steps ∙ ap (λ (x : Log). length x.steps) (one_log (order field) bytes k l is.log log.log)
accepts field bytes (Err (check.Rejected line why)) ok rejected l log = absurd (accepted_is_not_rejected field bytes l line why log rejected)
accepts field bytes (Err check.Memory) ok rejected l log = refl

-- no matrix over the field represents the log's matroid then
pub refuted : (field : Gf) (bytes : List ℕ) (r : Result Accepted CheckFault) → IfOk r (λ a. (l : Log) × IsAcceptedLog field bytes l × (a.steps ≡ length l.steps)) →
    IfOk r (λ a. (l : Log) → IsLogOf (order field) bytes l → HasNoRepresentation l.matroid field)
refuted field bytes (Ok a) (k, is, steps) = λ l log. subst (λ (x : Log). HasNoRepresentation x.matroid field) (one_log (order field) bytes k l is.log log) (refutes field bytes k is)
refuted field bytes (Err e) ok = tt
