-- none of the words so far gives the key a value
use Rattle.std.proofs.Common.{take}
use Rattle.matrep.specs.Words.{texts, HasKey}
use Rattle.matrep.proofs.operands.value_of.Given as goal

abbrev pub invariant-loop-word : goal.invariant-loop-word
invariant-loop-word l = ¬ (HasKey (take l.word-index (texts l.words)) l.key)
