-- Each text is a log or has a fault.
use Rattle.std.proofs.Common.{ℕ, List, refl}
use Rattle.mr_field.specs.Order.{IsOrder}
use Rattle.mr_text.specs.Format.{FirstFault, grammar, size, IsTextOf, IsFirstFaultOf}
use Rattle.mr_text.proofs.Complete.{stands_or_is_at_fault}
use Rattle.mr_file.specs.declared.fault.Measure.{Measure}
use Rattle.mr_log.specs.Log.{log_format, IsLogOf}
use Rattle.mr_log.specs.Reading.{IsLogFault}
use Rattle.mr_log.specs.declared.log.Log.{Log}
use Rattle.mr_log.specs.declared.fault.Why.{Why}
use Rattle.mr_log.specs.declared.fault.Why.TheVariants.{Grammar, Size, Basis, Exchange}
use Rattle.mr_log.proofs.Accepting.{is_log}
use Rattle.mr_log.proofs.Making.{text_read}

-- each text is a log or has a fault
pub each_text_is_a_log_or_at_fault : (q : ℕ) (bytes : List ℕ) → IsOrder q → ((l : Log) → IsLogOf q bytes l → ⊥) → ((line : ℕ) (why : Why) → IsLogFault q bytes line why → ⊥) → ⊥
each_text_is_a_log_or_at_fault q bytes order none sound = stands_or_is_at_fault (log_format q) bytes by_fault by_text
  where
    by_fault : (fault : FirstFault Measure) → IsFirstFaultOf (log_format q) bytes fault → ⊥
    by_fault (grammar line) h = sound line Grammar h
    by_fault (size line what) h = sound line Size (what, h)

    by_text : (l : Log) → IsTextOf (log_format q) bytes l → ⊥
    by_text l text = sound _ Basis (l, text, (λ x basis. none l (is_log q bytes l order text (record { presentation = (text_read q bytes l text).presentation; basis = (x, basis); exchange = λ b1 b2 e fails. sound _ Exchange (l, text, b1, b2, e, fails, refl) }))), refl)
