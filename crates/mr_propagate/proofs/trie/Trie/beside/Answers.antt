-- the branches are gone through by their links
use Rattle.std.proofs.Common.{length, refl, ap, subst, ◌∙◌, inl, inr, arith}
use Rattle.std.proofs.lemmas.Option.{slice_get_read, slice_get_within}
use Rattle.mr_propagate.specs.declared.trie.Branch.{Branch}
use Rattle.mr_propagate.specs.Private.Trie.{it, later, HasPair}
use Rattle.mr_propagate.proofs.Branches.{one_there, along_trans}
use Rattle.mr_propagate.proofs.trie.Trie.beside.Goals as goal

pub beside-init : goal.beside-init
beside-init c = (c.requires.branch, it)

pub returns-then-is_pair_of-clause-last : goal.returns-then-is_pair_of-clause-last
returns-then-is_pair_of-clause-last c = λ b at.
    let bs = c.args.self.now.branches.items in
    let there = slice_get_read bs (length bs) c.beside.at c.index-branch.result.now refl c.beside.invariant.0 c.index-branch.ensures in
    inl (subst (HasPair c.args.p c.args.v) (one_there bs c.beside.at c.index-branch.result.now b there at) c.if-is_pair_of.ensures)

pub returns-then-next-eq0-clause-last : goal.returns-then-next-eq0-clause-last
returns-then-next-eq0-clause-last c = λ b at.
    let bs = c.args.self.now.branches.items in
    let there = slice_get_read bs (length bs) c.beside.at c.index-branch.result.now refl c.beside.invariant.0 c.index-branch.ensures in
    inr (ap (λ (x : Branch). x.next) (one_there bs c.beside.at b c.index-branch.result.now at there) ∙ c.if-next-eq0.true)

pub beside-smaller : goal.beside-smaller
beside-smaller c =
    let bs = c.args.self.now.branches.items in
    let there = slice_get_read bs (length bs) c.beside.at c.index-branch.result.now refl c.beside.invariant.0 c.index-branch.ensures in
    let link = c.requires.trie.next c.beside.at c.index-branch.result.now there c.if-next-eq0.false in
    let up = link.later in
    let within = slice_get_within bs c.index-branch.result.now.next link.branch link.there in
    omega arith

pub beside-preserved : goal.beside-preserved
beside-preserved c =
    let bs = c.args.self.now.branches.items in
    let there = slice_get_read bs (length bs) c.beside.at c.index-branch.result.now refl c.beside.invariant.0 c.index-branch.ensures in
    let link = c.requires.trie.next c.beside.at c.index-branch.result.now there c.if-next-eq0.false in
    (slice_get_within bs c.index-branch.result.now.next link.branch link.there, along_trans bs c.beside.invariant.1 (later c.index-branch.result.now there c.if-next-eq0.false it))
