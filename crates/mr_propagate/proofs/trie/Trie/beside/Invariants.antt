-- this branch comes after the first beside it
use Rattle.std.proofs.Common.{◌-◌, ◌<◌, length}
use Rattle.mr_propagate.specs.Private.Trie.{Along}
use Rattle.mr_propagate.proofs.trie.Trie.beside.Given as goal

abbrev pub invariant-beside : goal.invariant-beside
invariant-beside l = (l.at < length l.self.branches.items) × Along l.self.branches.items l.first l.at

abbrev pub decreases-beside : goal.decreases-beside
decreases-beside l = length l.self.branches.items - l.at
