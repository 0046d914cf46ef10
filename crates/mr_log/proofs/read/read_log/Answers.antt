-- What is read is a log, and the bytes of a log are read.
use Rattle.std.proofs.Common.{sym, subst}
use Rattle.std.specs.Prelude.{IfOk}
use Rattle.mr_log.specs.Log.{IsLogOf}
use Rattle.mr_log.proofs.Accepting.{ok, only}
use Rattle.mr_log.proofs.read.read_log.Goals as goal

pub returns-clause-ok : goal.returns-clause-ok
returns-clause-ok c =
    subst (λ q. IfOk c.read_whole.result (IsLogOf q c.args.bytes.now)) c.order.ensures.value (ok c.order.result c.args.bytes.now c.read_whole.result (c.args.field, sym c.order.ensures.value) c.read_whole.ensures.ok)

pub returns-clause-only : goal.returns-clause-only
returns-clause-only c l is =
    only c.order.result c.args.bytes.now c.read_whole.result c.read_whole.ensures.ok c.read_whole.ensures.refusal l (subst (λ q. IsLogOf q c.args.bytes.now l) (sym c.order.ensures.value) is)
