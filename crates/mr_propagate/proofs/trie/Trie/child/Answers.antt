-- the branch of the pair is there, or it is made below or beside others
use Rattle.std.proofs.Common.{◌≡◌, length, refl, ap, ◌∙◌, ⊎_elim}
use Rattle.std.proofs.lemmas.Option.{slice_get_read, slice_get_within}
use Rattle.std.proofs.lemmas.Result.{IfOk-weaker}
use Rattle.mr_propagate.specs.Private.Trie.{pairs_of, HasPair, IsBeside, IsChild}
use Rattle.mr_propagate.proofs.Branches.{stands, one_there}
use Rattle.mr_propagate.proofs.Inserting.{beside_above, child_found, child_beside}
use Rattle.mr_propagate.proofs.trie.Trie.child.Goals as goal

pub beside-beside-requires-clause-branch : goal.beside-beside-requires-clause-branch
beside-beside-requires-clause-branch c =
    let (b, there, is) = c.requires.branch in
    let bs = c.args.self.now.branches.items in
    let here = slice_get_read bs (length bs) c.args.at c.index.result.now refl (slice_get_within bs c.args.at b there) c.index.ensures in
    let link = c.requires.trie.first c.args.at c.index.result.now here c.if-first-eq0.false in
    slice_get_within bs c.index.result.now.first link.branch link.there

pub returns-then-has_pair-clause-child : goal.returns-then-has_pair-clause-child
returns-then-has_pair-clause-child c =
    let (b, there, is) = c.requires.branch in
    let bs = c.args.self.now.branches.items in
    let here = slice_get_read bs (length bs) c.args.at c.index.result.now refl (slice_get_within bs c.args.at b there) c.index.ensures in
    let (d, at) = stands bs c.beside-beside.result c.beside-beside.ensures.within in
    child_found bs c.requires.trie c.args.at c.args.p c.args.v c.args.pairs.now c.index.result.now here (ap pairs_of (one_there bs c.args.at c.index.result.now b here there) ∙ is) c.if-first-eq0.false
    c.beside-beside.result d c.beside-beside.ensures.along at (c.if-has_pair.ensures d at)

pub hang_beside-requires-clause-branch : goal.hang_beside-requires-clause-branch
hang_beside-requires-clause-branch c =
    let (b, there, is) = c.requires.branch in
    let bs = c.args.self.now.branches.items in
    let here = slice_get_read bs (length bs) c.args.at c.index.result.now refl (slice_get_within bs c.args.at b there) c.index.ensures in
    let (d, at) = stands bs c.beside-beside.result c.beside-beside.ensures.within in (
      d,
      at,
      ⊎_elim (λ (has : HasPair c.args.p c.args.v d). absurd (c.if-has_pair.ensures d at has)) (λ (none : d.next ≡ 0). none) (c.beside-beside.ensures.last d at),
      beside_above bs c.requires.trie c.args.at c.args.p c.args.v c.args.pairs.now c.index.result.now here (ap pairs_of (one_there bs c.args.at c.index.result.now b here there) ∙ is) c.if-first-eq0.false
          c.beside-beside.result d c.beside-beside.ensures.along at,
    )

pub returns-clause-child : goal.returns-clause-child
returns-clause-child c =
    let (b, there, is) = c.requires.branch in
    let bs = c.args.self.now.branches.items in
    let here = slice_get_read bs (length bs) c.args.at c.index.result.now refl (slice_get_within bs c.args.at b there) c.index.ensures in
    IfOk-weaker c.hang_beside.result (IsBeside bs c.hang_beside.new.self.branches.items c.beside-beside.result c.args.p c.args.v c.args.pairs.now) (IsChild c.hang_beside.new.self.branches.items c.args.at c.args.p c.args.v c.args.pairs.now)
    (λ k beside. child_beside bs c.requires.trie c.args.at c.args.p c.args.v c.args.pairs.now c.index.result.now here (ap pairs_of (one_there bs c.args.at c.index.result.now b here there) ∙ is) c.if-first-eq0.false
    c.hang_beside.new.self.branches.items c.beside-beside.result k c.beside-beside.ensures.along beside)
    c.hang_beside.ensures.child
