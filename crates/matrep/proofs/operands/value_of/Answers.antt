-- word by word
use Rattle.std.proofs.Common.{◌≡◌, ◌≤◌, ◌∙◌, length, arith}
use Rattle.matrep.proofs.Scanning.{key_not_yet, key_not_given}
use Rattle.matrep.proofs.operands.value_of.Goals as goal

pub loop-word-preserved : goal.loop-word-preserved
loop-word-preserved c =
    key_not_yet c.args.words.now c.word-item.result c.args.key c.loop-word.word-index (omega arith) c.word-item.is c.loop-word.invariant (λ value is. c.in_default.ensures value (c.as_bytes.ensures.value ∙ is))

pub returns : goal.returns
returns c = key_not_given c.args.words.now c.args.key c.loop-word.word-index (omega arith) c.loop-word.invariant
