-- A number of one digit.
use Rattle.std.proofs.Common.{arith}
use Rattle.std.proofs.lemmas.Fmt.{decimal_digit}
use Rattle.mr_text.proofs.text.Text.put_number.Goals as goal

pub returns-then-v-lt10-clause-ok : goal.returns-then-v-lt10-clause-ok
returns-then-v-lt10-clause-ok c = rw (decimal_digit c.args.v (omega arith)) c.put_byte.ensures.ok
