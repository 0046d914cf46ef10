-- the sums have no carry, and the flags become the mask
use Rattle.std.proofs.Common.{arith}
use Rattle.mr_assign.proofs.Masks.{raised-lt, mask-lt, nibble-mask}
use Rattle.mr_assign.proofs.word.mask_of.Goals as goal

pub overflow_add-flags : goal.overflow_add-flags
overflow_add-flags c = let lt = raised-lt c.args.word c.ranges.word.fits c.requires in omega arith

pub overflow_mul-result : goal.overflow_mul-result
overflow_mul-result c = let lt = mask-lt c.args.word c.ranges.word.fits c.requires in omega arith

pub returns : goal.returns
returns c = nibble-mask c.args.word c.ranges.word.fits c.requires
