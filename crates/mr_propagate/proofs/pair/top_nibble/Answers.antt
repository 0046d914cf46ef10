-- by its greatest bit
use Rattle.std.proofs.Common.{arith}
use Rattle.mr_propagate.proofs.Words.{top_nibble}
use Rattle.mr_propagate.proofs.pair.top_nibble.Goals as goal

pub returns : goal.returns
returns c = let top = top_nibble c.args.word c.requires c.ranges.word.fits in (omega arith, top.0, top.1)
