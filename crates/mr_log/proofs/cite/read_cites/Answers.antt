-- The cites one after another.
use Rattle.std.proofs.Common.{arith}
use Rattle.mr_file.specs.Reading.{listing}
use Rattle.mr_log.proofs.CiteLists.{missing}
use Rattle.mr_log.proofs.cite.read_cites.Goals as goal

pub returns-in-None : goal.returns-in-None
returns-in-None c =
    missing (listing c.args.listed.now) c.args.q c.loop-k.k c.loop-k.cites c.args.words.now c.loop-k.words c.requires.elements c.requires.field.1 (omega arith) c.loop-k.invariant c.in-None.ensures
