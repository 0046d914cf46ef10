-- the pieces, one after another, are the words
use Rattle.std.proofs.Common.{append_assoc}
use Rattle.matrep.proofs.refusal.put_exchange.Goals as goal

pub returns : goal.returns
returns c = rw (c.in_ok-put_numbered.ensures, c.in_ok-put_named-2.ensures, c.in_ok-put_named.ensures) (simp append_assoc)
