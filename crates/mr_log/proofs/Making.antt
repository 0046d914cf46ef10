-- The matroid of a log is made once the whole text was read.
use Rattle.std.proofs.Common.{◌≡◌, ℕ, ◌≤◌, List, [], length, sym, subst, arith, Result, Ok, Err}
use Rattle.std.specs.Prelude.{MatchResult}
use Rattle.std.specs.Borrow.{Bor}
use Rattle.mr_set.specs.Matroid.{Presentation, IsPresentation, IsMatroid}
use Rattle.mr_set.specs.declared.TheConstants.{SETS}
use Rattle.mr_set.proofs.Counting.{no_more_sets}
use Rattle.mr_matroid.specs.Exchange.{IsWithinLimits}
use Rattle.mr_text.specs.Format.{Format, StandsFor, IsFirstFault, IsTextOf}
use Rattle.mr_file.specs.Reading.{whole_file, listing, IsRefused}
use Rattle.mr_file.specs.declared.fault.Measure.{Measure}
use Rattle.mr_file.specs.declared.fault.FileFault.{FileFault}
use Rattle.mr_file.specs.declared.fault.FileFault.TheVariants as file_fault
use Rattle.mr_file.proofs.AfterFile.{file_leads}
use Rattle.mr_log.specs.Log.{log_format}
use Rattle.mr_log.specs.Reading.{file_end, IsLogRefusal}
use Rattle.mr_log.specs.Private.Stages.{from_count, from_file, found_log, log_fault, NamesBad}
use Rattle.mr_log.specs.declared.log.Log.{Log}
use Rattle.mr_log.specs.declared.read.Found.{Found}
use Rattle.mr_log.specs.declared.fault.LogFault.{LogFault}
use Rattle.mr_log.proofs.Outcomes.{bad_map}
use Rattle.mr_log.proofs.LogText.{LogRead, log_read}

-- what was read from some line on
abbrev pub IsReadFrom : ℕ → Format Measure Log → ℕ → List ℕ → Result (Found × Bor (List ℕ) × ℕ) LogFault → Type 0
IsReadFrom q format number bytes r = MatchResult r (λ x. StandsFor format number bytes (found_log q x.0) x.1.now x.2) (NamesBad (IsFirstFault format number bytes))

-- what was read after the file was read from the file on
pub after_file : (q number : ℕ) (bytes : List ℕ) (m : Presentation) (rest : List ℕ) (next : ℕ) (r : Result (Found × Bor (List ℕ) × ℕ) LogFault) → StandsFor whole_file number bytes m rest next → IsReadFrom q (from_count q m) next rest r → IsReadFrom q (from_file q) number bytes r
after_file q number bytes m rest next (Ok x) file h = let leads = file_leads (from_count q) number bytes m rest next file in leads.values (found_log q x.0) x.1.now x.2 h
after_file q number bytes m rest next (Err e) file h =
    let leads = file_leads (from_count q) number bytes m rest next file in
    bad_map (IsFirstFault (from_count q m) next rest) (IsFirstFault (from_file q) number bytes) e leads.faults h

-- the numbers and sets of a log are within the limits
pub few_nonbases : (m : Presentation) → IsPresentation m → IsWithinLimits m → length m.nonbases ≤ SETS
few_nonbases m is limits =
    let most = no_more_sets m.elements m.rank m.nonbases is.sets is.increasing in
    let sets = limits.sets in
    omega arith

-- what a whole text stands for
pub text_read : (q : ℕ) (bytes : List ℕ) (l : Log) → IsTextOf (log_format q) bytes l → LogRead q bytes l []
text_read q bytes l (next, stands) = log_read q bytes l [] next stands

-- the log with the matroid that was made
pub with_matroid : (q : ℕ) (bytes : List ℕ) (x : Found) (m : Presentation) → IsTextOf (log_format q) bytes (found_log q x) → (m ≡ listing x.listed) × IsMatroid m → IsTextOf (log_format q) bytes (record { matroid = m; q = q; steps = x.steps; last = x.last }) × IsMatroid m
with_matroid q bytes x m text made = (subst (λ (p : Presentation). IsTextOf (log_format q) bytes (record { matroid = p; q = q; steps = x.steps; last = x.last })) (sym made.0) text, made.1)

-- the refusal of what was read, whose numbers and sets are no matroid
pub no_matroid : (q : ℕ) (bytes : List ℕ) (x : Found) (e : FileFault) (line : ℕ) → IsTextOf (log_format q) bytes (found_log q x) → IsRefused (listing x.listed) e → line ≡ file_end (found_log q x) → IsLogRefusal q bytes (log_fault e line)
no_matroid q bytes x (file_fault.Grammar _) line text refused is = absurd refused
no_matroid q bytes x (file_fault.Size _ _) line text refused is = absurd refused
no_matroid q bytes x file_fault.NoBasis line text refused is = (found_log q x, text, refused, is)
no_matroid q bytes x (file_fault.Exchange b1 b2 e) line text refused is = (found_log q x, text, b1, b2, e, refused.fails, is)
no_matroid q bytes x file_fault.Memory line text refused is = tt
