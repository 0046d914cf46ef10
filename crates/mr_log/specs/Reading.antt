-- Why a text is no log.
use Rattle.std.specs.Prelude.{◌≡◌, ◌≢◌, ℕ, ◌+◌, List, length}
use Rattle.mr_field.specs.Order.{IsOrder}
use Rattle.mr_set.specs.Matroid.{FailsExchange}
use Rattle.mr_matroid.specs.Exchange.{HasNoBasis}
use Rattle.mr_text.specs.Format.{grammar, size, IsTextOf, IsFirstFaultOf}
use Rattle.mr_file.specs.declared.fault.Measure.{Measure}
use Rattle.mr_log.specs.Log.{log_format, IsLogOf}
use Rattle.mr_log.specs.declared.log.Log.{Log}
use Rattle.mr_log.specs.declared.fault.Why.{Why}
use Rattle.mr_log.specs.declared.fault.Why.TheVariants.{Grammar, Size, Basis, Exchange, Step, End}
use Rattle.mr_log.specs.declared.fault.LogFault.{LogFault}
use Rattle.mr_log.specs.declared.fault.LogFault.TheVariants.{Bad, Memory}

-- the line that ends the matroid's file
abbrev pub file_end : Log → ℕ
file_end l = 7 + length l.matroid.nonbases

-- The first line with a fault. Where there is none, the line that ends the file of numbers and sets that are no matroid:
-- there is no basis, or else an exchange fails.
abbrev pub IsLogFault : ℕ → List ℕ → ℕ → Why → Type 0
IsLogFault q bytes line Grammar = IsFirstFaultOf (log_format q) bytes (grammar line)
IsLogFault q bytes line Size = (what : Measure) × IsFirstFaultOf (log_format q) bytes (size line what)
IsLogFault q bytes line Basis = (l : Log) × IsTextOf (log_format q) bytes l × HasNoBasis l.matroid × (line ≡ file_end l)
IsLogFault q bytes line Exchange = (l : Log) × IsTextOf (log_format q) bytes l × (b1 b2 : List ℕ) × (x : ℕ) × FailsExchange l.matroid b1 b2 x × (line ≡ file_end l)
IsLogFault q bytes line Step = ⊥
IsLogFault q bytes line End = ⊥

-- a refusal of a text; memory may run out
abbrev pub IsLogRefusal : ℕ → List ℕ → LogFault → Type 0
IsLogRefusal q bytes (Bad line why) = IsLogFault q bytes line why
IsLogRefusal q bytes Memory = Unit {0}

-- a text is refused for one cause, unless memory runs out
abbrev pub OneLogRefusal : Type 0
OneLogRefusal = (q : ℕ) (bytes : List ℕ) (e f : LogFault) → e ≢ Memory → f ≢ Memory → IsLogRefusal q bytes e → IsLogRefusal q bytes f → e ≡ f

-- the bytes of a log are not refused, unless memory runs out
abbrev pub NoLogRefusal : Type 0
NoLogRefusal = (q : ℕ) (bytes : List ℕ) (l : Log) (e : LogFault) → IsLogOf q bytes l → IsLogRefusal q bytes e → e ≡ Memory

-- the bytes are those of one log
abbrev pub OneLog : Type 0
OneLog = (q : ℕ) (bytes : List ℕ) (k l : Log) → IsLogOf q bytes k → IsLogOf q bytes l → k ≡ l

-- a text over a field that is no log has a fault
abbrev pub EachTextIsALogOrAtFault : Type 0
EachTextIsALogOrAtFault = (q : ℕ) (bytes : List ℕ) → IsOrder q → ((l : Log) → ¬ (IsLogOf q bytes l)) → ((line : ℕ) (why : Why) → ¬ (IsLogFault q bytes line why)) → ⊥
