-- the pieces, one after another, are the words
use Rattle.std.proofs.Common.{append_assoc}
use Rattle.matrep.proofs.refusal.put_size.Goals as goal

pub returns : goal.returns
returns c = rw (c.in_ok-put-2.ensures.ok, c.word_of.ensures, c.in_ok-put.ensures.ok, c.in_ok-put_numbered.ensures) (simp append_assoc)
