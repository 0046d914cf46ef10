-- The line of this field, and of another.
use Rattle.std.proofs.Common.{◌∙◌, sym, arith}
use Rattle.mr_log.proofs.Outcomes.{other_field}
use Rattle.mr_log.proofs.read.field_line.Goals as goal

pub returns-else-found-from : goal.returns-else-found-from
returns-else-found-from c = other_field c.args.line_number c.args.q c.in-Ok.found.0 c.args.bytes.now c.in-Ok.found.1.now (omega arith) c.in-Ok.ensures.line (λ is. c.if-found-from.false (is ∙ sym c.from.ensures))
