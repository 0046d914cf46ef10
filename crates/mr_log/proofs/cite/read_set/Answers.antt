-- A set of some elements, and the empty set.
use Rattle.std.proofs.Common.{◌≡◌, ◌++◌, List, ℕ, subst, sym, arith}
use Rattle.mr_set.specs.Subsets.{IsSetOf}
use Rattle.mr_log.specs.Private.Words.{set_words}
use Rattle.mr_log.proofs.Cites.{set_read, empty_read}
use Rattle.mr_log.proofs.cite.read_set.Goals as goal

pub returns-then-rank-gt0 : goal.returns-then-rank-gt0
returns-then-rank-gt0 c = set_read c.args.elements c.args.rank c.args.words.now c.read_elements.new.words c.read_elements.result c.if-rank-gt0.true c.read_elements.ensures

pub returns-then-next_is : goal.returns-then-next_is
returns-then-next_is c =
    subst (λ (x : List ℕ). IsSetOf c.args.elements c.args.rank x × (c.args.words.now ≡ set_words x ++ c.next_is.new.self)) (sym c.empty.ensures)
    (empty_read c.args.elements c.args.rank (omega arith), c.if-next_is.ensures.yes)
