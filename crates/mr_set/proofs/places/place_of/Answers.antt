use Rattle.std.proofs.Common.{length}
use Rattle.mr_set.proofs.Lexicographic.{from_set}
use Rattle.mr_set.proofs.Placing.{place_of-all}
use Rattle.mr_set.proofs.places.place_of.Goals as goal

pub place_from-requires : goal.place_from-requires
place_from-requires c = record { elements = c.requires.elements; set = from_set c.args.n (length c.args.s) c.args.s c.requires.set }

pub returns : goal.returns
returns c = place_of-all c.args.n c.place_from.result c.args.s c.place_from.ensures
