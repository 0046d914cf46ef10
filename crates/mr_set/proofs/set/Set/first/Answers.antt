-- the lowest bit that is set
use Rattle.std.proofs.Common.{◌∙◌, ap, sym, arith}
use Rattle.mr_set.specs.Elements.{elements_below}
use Rattle.mr_set.proofs.Lowest.{first_bit, lowest_small, no_first}
use Rattle.mr_set.proofs.set.Set.first.Goals as goal

pub returns-then-self-eq0-clause-least : goal.returns-then-self-eq0-clause-least
returns-then-self-eq0-clause-least c = sym (no_first c.args.self.now (ap (elements_below 32) (sym c.if-self-eq0.true) ∙ c.self.view_is))

pub returns-clause-least : goal.returns-clause-least
returns-clause-least c = first_bit c.self.inside.mask c.args.self.now c.self.view_is c.self.invariant (let some = c.if-self-eq0.false in omega arith)

pub returns-clause-bound : goal.returns-clause-bound
returns-clause-bound c = lowest_small c.self.inside.mask c.self.invariant (let some = c.if-self-eq0.false in omega arith)
