use Rattle.std.proofs.Common.{take}
use Rattle.matrep.specs.Private.Listing.{AppendsBlocks}
use Rattle.matrep.proofs.listing.put_blocks.Given as goal

abbrev pub invariant-loop-form : goal.invariant-loop-form
invariant-loop-form l = AppendsBlocks l.frame (take l.form-index l.forms) l.fn.text l.text
