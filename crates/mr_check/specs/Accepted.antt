-- Logs that are accepted, and why a text is not.
use Rattle.std.specs.Prelude.{◌≡◌, ℕ, ◌+◌, ◌<◌, List, Some, length, take, slice_get, slice_index}
use Rattle.mr_field.specs.Gf.{Gf, order}
use Rattle.mr_assign.specs.Assign.{no_values}
use Rattle.mr_frame.specs.Frame.{Framed, IsFrameOf}
use Rattle.mr_frame.specs.Test.{SetFails}
use Rattle.mr_nogood.specs.declared.row.Cite.{Cite}
use Rattle.mr_nogood.specs.declared.row.Cite.TheVariants.{Nothing, Test, Slot}
use Rattle.mr_nogood.specs.declared.row.Row.{Row}
use Rattle.mr_nogood.specs.Follows.{in_list, Follows}
use Rattle.mr_log.specs.Log.{IsLogOf}
use Rattle.mr_log.specs.Reading.{IsLogFault}
use Rattle.mr_log.specs.declared.log.Log.{Log}
use Rattle.mr_log.specs.declared.fault.Why.{Why}
use Rattle.mr_log.specs.declared.fault.Why.TheVariants.{Step, End}
use Rattle.mr_check.specs.declared.checker.CheckFault.{CheckFault}
use Rattle.mr_check.specs.declared.checker.CheckFault.TheVariants.{Rejected, Memory}

-- the step with the number j, if there is one, follows from the steps with smaller numbers
abbrev pub StepFollows : Framed → List Row → ℕ → Type 0
StepFollows f steps j = (row : Row) → slice_get steps j ≡ Some row → Follows f (in_list (take j steps)) row

-- the end is a set that fails where no position has a value, or a step whose clause gives no value
abbrev pub IsEnd : Framed → List Row → Cite → Type 0
IsEnd f steps Nothing = ⊥
IsEnd f steps (Test x) = SetFails f no_values x
IsEnd f steps (Slot s) = (row : Row) × (slice_get steps s ≡ Some row) × ((p : ℕ) → slice_index row.clause p ≡ 0)

-- in the frame of the log's matroid over a field each step follows from the steps before it, and the last line is an end
pub record IsRefutation (field : Gf) (l : Log) : Type 0 where
  pub frame : Framed
  pub is_frame : IsFrameOf l.matroid field frame
  pub steps : (j : ℕ) → StepFollows frame l.steps j
  pub end : IsEnd frame l.steps l.last

-- the bytes are those of the log l over a field, which is a refutation
pub record IsAcceptedLog (field : Gf) (bytes : List ℕ) (l : Log) : Type 0 where
  pub log : IsLogOf (order field) bytes l
  pub refutation : IsRefutation field l

-- the line of the step with the number j
abbrev pub step_line : Log → ℕ → ℕ
step_line l j = 9 + length l.matroid.nonbases + j

-- the step in the line is the first that doesn't follow
pub record IsFirstStray (field : Gf) (l : Log) (line : ℕ) : Type 0 where
  pub frame : Framed
  pub is_frame : IsFrameOf l.matroid field frame
  pub number : ℕ
  pub before : (j : ℕ) → j < number → StepFollows frame l.steps j
  pub stray : ¬ (StepFollows frame l.steps number)
  pub line_is : line ≡ step_line l number

-- each step follows, and the last line is no end
pub record IsBadEnd (field : Gf) (l : Log) (line : ℕ) : Type 0 where
  pub frame : Framed
  pub is_frame : IsFrameOf l.matroid field frame
  pub steps : (j : ℕ) → StepFollows frame l.steps j
  pub bad : ¬ (IsEnd frame l.steps l.last)
  pub line_is : line ≡ step_line l (length l.steps)

-- The first fault of a text that is no accepted log: it is no log, or else a step doesn't follow, or else the end is none.
abbrev pub IsRejection : Gf → List ℕ → ℕ → Why → Type 0
IsRejection field bytes line Step = (l : Log) × IsLogOf (order field) bytes l × IsFirstStray field l line
IsRejection field bytes line End = (l : Log) × IsLogOf (order field) bytes l × IsBadEnd field l line
IsRejection field bytes line why = IsLogFault (order field) bytes line why

-- a rejection; memory may run out
abbrev pub IsRejected : Gf → List ℕ → CheckFault → Type 0
IsRejected field bytes (Rejected line why) = IsRejection field bytes line why
IsRejected field bytes Memory = Unit {0}
