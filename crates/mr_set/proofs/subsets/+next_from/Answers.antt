use Rattle.std.proofs.Common.{◌-◌, length, sym, subst, List, ℕ, drop, arith}
use Rattle.mr_set.specs.Private.Enumeration.{IsNextFrom}
use Rattle.mr_set.proofs.Steps.{element_small, rest_from, step_same, step_raised, step_last}
use Rattle.mr_set.proofs.subsets.+next_from.Goals as goal

pub returns-in-Some : goal.returns-in-Some
returns-in-Some t c low is =
    subst (λ (y : List ℕ). IsNextFrom low c.args.n (drop c.args.at c.args.elements.now) y) (sym c.with.ensures)
    (step_same low c.args.n c.args.at c.args.elements.now c.in-Some.rest (omega arith) is (c.in-Some.ensures _ (rest_from low c.args.n c.args.at c.args.elements.now (omega arith) is)))

pub returns-then-count-n : goal.returns-then-count-n
returns-then-count-n t c low is =
    subst (λ (y : List ℕ). IsNextFrom low c.args.n (drop c.args.at c.args.elements.now) y) (sym c.run_of.ensures)
    (step_raised low c.args.n c.args.at (length c.args.elements.now - c.args.at) c.args.elements.now (omega arith) (omega arith) is (c.in-None.ensures _ (rest_from low c.args.n c.args.at c.args.elements.now (omega arith) is)) (omega arith))

pub returns-else-count-n : goal.returns-else-count-n
returns-else-count-n t c low is =
    step_last low c.args.n c.args.at (length c.args.elements.now - c.args.at) c.args.elements.now (omega arith) (omega arith) (element_small c.args.n c.args.at c.args.elements.now c.requires.set (omega arith)) (c.in-None.ensures _ (rest_from low c.args.n c.args.at c.args.elements.now (omega arith) is)) (omega arith)
