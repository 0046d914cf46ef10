-- the words are those of the row as far as they are written, and all are in the end
use Rattle.std.proofs.Common.{◌≡◌, ◌+◌, ◌*◌, ◌^◌, refl, ap, subst, ◌∙◌, arith}
use Rattle.mr_assign.specs.declared.TheConstants.{VALUES}
use Rattle.mr_nogood.proofs.Words.{IsPackedTo, packed_none, packed_more, packed_all, packed_row}
use Rattle.mr_nogood.proofs.packing.pack.Goals as goal

pub loop-k-init : goal.loop-k-init
loop-k-init c =
    packed_none c.args.row.now c.head.result c.copy_from_slice.new.self _
    (c.head.ensures.word ∙ ap (λ n. 2 ^ 63 + n * 2 ^ 40 + c.args.row.now.at * 2 ^ 32 + c.args.row.now.rank) c.count.ensures)
    (c.copy_from_slice.ensures.after ∙ c.words-clause.ensures.packing) refl

pub loop-k-preserved : goal.loop-k-preserved
loop-k-preserved c =
    packed_more c.args.row.now c.loop-k.words c.loop-k.k c.cite_word.result _ (omega arith) c.cite_at.ensures.count c.cite_at.ensures.cite c.cite_word.ensures.cite c.cite_word.ensures.word c.loop-k.invariant

pub returns-clause-packing : goal.returns-clause-packing
returns-clause-packing c = let last : c.loop-k.k ≡ VALUES = omega arith in packed_all c.args.row.now c.loop-k.words (subst (IsPackedTo c.args.row.now c.loop-k.words) last c.loop-k.invariant)

pub returns-clause-row : goal.returns-clause-row
returns-clause-row c =
    let last : c.loop-k.k ≡ VALUES = omega arith in
    packed_row c.args.row.now c.loop-k.words c.head.ensures.rank c.head.ensures.at c.words-clause.ensures.assign (subst (IsPackedTo c.args.row.now c.loop-k.words) last c.loop-k.invariant)
