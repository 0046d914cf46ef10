-- the changed words are those of the changed map
use Rattle.std.proofs.Common.{arith}
use Rattle.mr_assign.proofs.Nibbles.{nibbles-words_with, IsPacking-words_with}
use Rattle.mr_assign.proofs.assign.changed.Goals as goal

pub returns-clause-changed : goal.returns-clause-changed
returns-clause-changed c =
    rw c.nibble_at.ensures (nibbles-words_with c.args.words c.args.p c.args.v c.requires.packing.size c.requires.place (omega arith))

pub returns-clause-packing : goal.returns-clause-packing
returns-clause-packing c =
    rw c.nibble_at.ensures (IsPacking-words_with c.args.words c.args.p c.args.v c.requires.packing c.requires.place c.requires.value)
