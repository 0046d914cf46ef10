-- a row but the last one is a row
use Rattle.mr_set.proofs.Members.{Contains-from_element}
use Rattle.mr_linear.proofs.Opening.{of_others}
use Rattle.mr_linear.proofs.elimination.find_pivot.Goals as goal

pub returns-in-Some : goal.returns-in-Some
returns-in-Some c = (
  c.in-Some.ensures.0,
  Contains-from_element c.args.rows c.in-Some.k (of_others c.args.rows c.without.result c.args.last c.in-Some.k c.without.ensures c.in-Some.ensures.1).1,
  c.in-Some.ensures.2,
)
