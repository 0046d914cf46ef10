-- the words of a row are those of the row that is read from them
use Rattle.std.proofs.Common.{◌≡◌, refl, ◌∙◌}
use Rattle.std.specs.Cmp.Lexicographic.{other_text}
use Rattle.mr_nogood.proofs.Words.{packed-unpacked, none_large}
use Rattle.mr_nogood.proofs.packing.unpack.Goals as goal

pub returns-else-eq-clause-none : goal.returns-else-eq-clause-none
returns-else-eq-clause-none c = λ _ row is same.
    let again = packed-unpacked c.args.words.now c.read-row.result row c.read-row.ensures is same in
    other_text c.pack.result c.args.words.now c.if-eq.ensures (c.pack.ensures.packing ∙ again)

pub returns-in-None-clause-none : goal.returns-in-None-clause-none
returns-in-None-clause-none c = λ _ row is same. none_large c.args.words.now row is same (c.in-None.ensures.none.0 refl)
