-- the last cite is read
use Rattle.std.proofs.Common.{◌≡◌, length, arith}
use Rattle.mr_nogood.specs.declared.TheConstants.{ROW_WORDS}
use Rattle.mr_nogood.proofs.Words.{read_all}
use Rattle.mr_nogood.proofs.packing.read.Goals as goal

pub returns : goal.returns
returns c =
    let size : length c.args.words.now ≡ ROW_WORDS = omega arith in
    read_all c.args.words.now c.args.clause c.loop-k.cites size c.requires c.loop-k.invariant.0 (λ j lt. c.loop-k.invariant.1 j (omega arith))
