-- From the verdict on a log to the exit and the text.
use Rattle.std.proofs.Common.{◌≡◌, ℕ, List, refl}
use Rattle.mr_field.specs.Gf.{Gf, order}
use Rattle.mr_log.specs.declared.log.Log.{Log}
use Rattle.mr_check.specs.Accepted.{IsAcceptedLog}
use Rattle.mr_check.proofs.Sound.{refutes}
use Rattle.matrep.specs.Texts.{accepted_text}
use Rattle.matrep.specs.Answering.{AcceptsLog}

-- an accepted log
pub accepts : (f : Gf) (bytes : List ℕ) (l : Log) → IsAcceptedLog f bytes l → AcceptsLog f bytes accepted_text
accepts f bytes l accepted = record { log = l; accepted = accepted; none = refutes f bytes l accepted; text_is = refl }
