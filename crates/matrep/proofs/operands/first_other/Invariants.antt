-- the words so far are operands
use Rattle.matrep.specs.Words.{texts, AreOperands}
use Rattle.matrep.proofs.operands.first_other.Given as goal

abbrev pub invariant-loop-place : goal.invariant-loop-place
invariant-loop-place l = AreOperands l.name (texts l.operands) l.place
