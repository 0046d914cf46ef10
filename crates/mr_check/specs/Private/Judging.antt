-- What the walk over the steps of a log leaves.
use Rattle.std.specs.Prelude.{◌≡◌, ℕ, ◌+◌, ◌<◌, List, length}
use Rattle.mr_field.specs.Gf.{Gf}
use Rattle.mr_frame.specs.Frame.{Framed}
use Rattle.mr_nogood.specs.declared.row.Cite.{Cite}
use Rattle.mr_nogood.specs.declared.row.Row.{Row}
use Rattle.mr_log.specs.declared.log.Log.{Log}
use Rattle.mr_log.specs.declared.fault.LogFault.{LogFault}
use Rattle.mr_log.specs.declared.fault.LogFault.TheVariants as log
use Rattle.mr_log.specs.declared.fault.Why.TheVariants.{Step, End}
use Rattle.mr_check.specs.Accepted.{StepFollows, IsEnd, IsFirstStray, IsBadEnd}
use Rattle.mr_check.specs.declared.checker.CheckFault.{CheckFault}
use Rattle.mr_check.specs.declared.checker.CheckFault.TheVariants.{Rejected, Memory}

-- the first n steps follow
abbrev pub FollowBelow : Framed → List Row → ℕ → Type 0
FollowBelow f steps n = (j : ℕ) → j < n → StepFollows f steps j

-- each step follows
abbrev pub AllFollow : Framed → List Row → Type 0
AllFollow f steps = (j : ℕ) → StepFollows f steps j

-- the step with this number is the first that doesn't
pub record IsFirstStrayStep (f : Framed) (steps : List Row) (number : ℕ) : Type 0 where
  pub before : FollowBelow f steps number
  pub stray : ¬ (StepFollows f steps number)

-- why a log is no refutation; memory may run out
abbrev pub IsFaulty : Gf → Log → CheckFault → Type 0
IsFaulty field l (Rejected line Step) = IsFirstStray field l line
IsFaulty field l (Rejected line End) = IsBadEnd field l line
IsFaulty field l (Rejected line why) = ⊥
IsFaulty field l Memory = Unit {0}

-- each step follows, and the last line is an end
pub record IsJudged (f : Framed) (steps : List Row) (last : Cite) : Type 0 where
  pub steps_follow : AllFollow f steps
  pub end : IsEnd f steps last

-- which step doesn't follow, or that the end is none, by the line where the first step stands
abbrev pub IsFaultAt : Framed → List Row → Cite → ℕ → CheckFault → Type 0
IsFaultAt f steps last first (Rejected line Step) = (j : ℕ) × IsFirstStrayStep f steps j × (line ≡ first + j)
IsFaultAt f steps last first (Rejected line End) = AllFollow f steps × (¬ (IsEnd f steps last)) × (line ≡ first + length steps)
IsFaultAt f steps last first (Rejected line why) = ⊥
IsFaultAt f steps last first Memory = ⊥

-- the refusal of a text that is no log, as a rejection
abbrev pub as_check_fault : LogFault → CheckFault
as_check_fault (log.Bad line why) = Rejected line why
as_check_fault log.Memory = Memory
