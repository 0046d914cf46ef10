use Rattle.std.proofs.Common.{sym, subst, ◌∙◌, List, ℕ}
use Rattle.mr_set.specs.Subsets.{IsFirst}
use Rattle.mr_set.proofs.Lexicographic.{first_of_all, run-numbers_below}
use Rattle.mr_set.proofs.subsets.first_subset.Goals as goal

pub returns-clause-first : goal.returns-clause-first
returns-clause-first c = subst (λ (x : List ℕ). IsFirst c.args.n c.args.r x) (run-numbers_below c.args.r ∙ sym c.below.ensures) (first_of_all c.args.n c.args.r c.requires.size)
