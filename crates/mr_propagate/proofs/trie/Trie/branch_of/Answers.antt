-- a clause begins at its greatest pair
use Rattle.std.proofs.Common.{ℕ, List, get_or, set, ap, ◌∙◌}
use Rattle.std.proofs.lemmas.Result.{IfOk-weaker}
use Rattle.mr_propagate.specs.Private.Pairs.{pair_number}
use Rattle.mr_propagate.specs.Private.Trie.{IsOnTheWay, EndsThere}
use Rattle.mr_propagate.proofs.Inserting.{ends_first, way_start, way_ends}
use Rattle.mr_propagate.proofs.trie.Trie.branch_of.Goals as goal

pub branch_from-requires-clause-way : goal.branch_from-requires-clause-way
branch_from-requires-clause-way c =
    way_start c.args.self.now.branches.items c.requires c.args.clause.now c.in-Some.p c.get-v.result c.pair_number.result c.with-pairs.result c.words-words.ensures.assign c.in-Some.ensures.0 c.get-v.ensures.value c.in-Some.ensures.1
    c.pair_number.ensures (c.with-pairs.ensures ∙ ap (λ (xs : List ℕ). set xs c.in-Some.p c.get-v.result) c.empty.ensures)

pub returns-in-None-clause-ends : goal.returns-in-None-clause-ends
returns-in-None-clause-ends c = ends_first c.args.self.now.branches.items c.requires c.args.clause.now c.words-words.ensures.assign c.in-None.ensures

pub returns-in-Some-clause-ends : goal.returns-in-Some-clause-ends
returns-in-Some-clause-ends c =
    let after = c.branch_from.new.self.branches.items in
    IfOk-weaker c.branch_from.result (IsOnTheWay after c.args.clause.now c.pair_number.result 0 c.args.clause.now) (EndsThere after c.args.clause.now)
    (λ k way. way_ends after c.args.clause.now c.in-Some.p (get_or c.args.clause.now c.in-Some.p 0) c.pair_number.result k c.in-Some.ensures.1 (c.pair_number.ensures ∙ ap (pair_number c.in-Some.p) c.get-v.ensures.value) way)
    c.branch_from.ensures.ends
