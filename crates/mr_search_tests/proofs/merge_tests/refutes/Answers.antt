-- the row of the slot
use Rattle.std.proofs.Common.{sym, subst}
use Rattle.mr_nogood.specs.declared.row.Cite.{Cite}
use Rattle.mr_nogood.specs.Follows.{in_slots}
use Rattle.mr_exchange.specs.declared.answer.CubeAnswer.TheVariants.{Refuted}
use Rattle.mr_exchange.specs.Right.{IsRight}
use Rattle.mr_search_tests.proofs.merge_tests.refutes.Goals as goal

pub returns-in-Some : goal.returns-in-Some
returns-in-Some c = λ part.
    subst (λ (x : Cite). IsRight c.args.frame.now (in_slots c.args.closed.now.rows) c.args.a.now (Refuted x)) (sym c.in-Slot.is) (c.in-Some.row, sym c.in-Some.ensures.row, c.contains.ensures.0 part)
