-- the way down to this position, after some branches were made
use Rattle.std.proofs.Common.{◌≤◌}
use Rattle.mr_propagate.specs.Private.Trie.{IsMore, IsOnTheWay}
use Rattle.mr_propagate.proofs.trie.Trie.branch_from.Given as goal

abbrev pub invariant-loop-q : goal.invariant-loop-q
invariant-loop-q l = (l.q ≤ l.p) × IsMore l.initial.self.branches.items l.self.branches.items × IsOnTheWay l.self.branches.items l.clause l.fn.start l.q l.pairs l.at

abbrev pub decreases-loop-q : goal.decreases-loop-q
decreases-loop-q l = l.q
