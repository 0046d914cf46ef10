-- what is read from the words of a row is that row
use Rattle.std.proofs.Common.{refl, sym, subst}
use Rattle.mr_nogood.specs.Row.{IsRow}
use Rattle.mr_nogood.proofs.Words.{is_unpacked, packed-unpacked, none_large}
use Rattle.mr_nogood.proofs.packing.row_of.Goals as goal

pub returns-clause-packing : goal.returns-clause-packing
returns-clause-packing c = sym (packed-unpacked c.args.words.now c.read.result c.requires.0 c.read.ensures c.requires.1 c.requires.2)

pub returns-clause-row : goal.returns-clause-row
returns-clause-row c = subst IsRow (sym (is_unpacked c.args.words.now c.read.result c.requires.0 c.read.ensures c.requires.1 c.requires.2)) c.requires.1

pub unreachable-requires : goal.unreachable-requires
unreachable-requires c = none_large c.args.words.now c.requires.0 c.requires.1 c.requires.2 (c.in-None.ensures.none.0 refl)
