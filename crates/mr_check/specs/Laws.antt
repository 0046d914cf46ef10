-- What an accepted log shows.
use Rattle.std.specs.Prelude.{◌≡◌, ℕ, List}
use Rattle.mr_field.specs.Gf.{Gf}
use Rattle.mr_linear.specs.Representation.{HasNoRepresentation}
use Rattle.mr_log.specs.declared.log.Log.{Log}
use Rattle.mr_log.specs.declared.fault.Why.{Why}
use Rattle.mr_check.specs.Accepted.{IsAcceptedLog, IsRejection}

-- no matrix over the field represents the matroid of an accepted log
abbrev pub AcceptedLogsRefute : Type 0
AcceptedLogsRefute = (field : Gf) (bytes : List ℕ) (l : Log) → IsAcceptedLog field bytes l → HasNoRepresentation l.matroid field

-- an accepted log is not rejected
abbrev pub AcceptedLogsAreNotRejected : Type 0
AcceptedLogsAreNotRejected = (field : Gf) (bytes : List ℕ) (l : Log) (line : ℕ) (why : Why) → IsAcceptedLog field bytes l → ¬ (IsRejection field bytes line why)

-- a text is rejected in one line and for one cause
abbrev pub OneRejection : Type 0
OneRejection = (field : Gf) (bytes : List ℕ) (line other : ℕ) (why cause : Why) → IsRejection field bytes line why → IsRejection field bytes other cause → (line ≡ other) × (why ≡ cause)

-- a text that is no accepted log is rejected
abbrev pub EachTextIsAcceptedOrRejected : Type 0
EachTextIsAcceptedOrRejected = (field : Gf) (bytes : List ℕ) → ((l : Log) → ¬ (IsAcceptedLog field bytes l)) → ((line : ℕ) (why : Why) → ¬ (IsRejection field bytes line why)) → ⊥
