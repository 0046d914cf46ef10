-- A number that is no element.
use Rattle.std.proofs.Common.{◌∙◌, List, ℕ, sym, subst}
use Rattle.mr_matroid.proofs.Failures.{untrue}
use Rattle.mr_matrix.specs.Private.Numbers.{AreNumbers}
use Rattle.mr_matrix.proofs.Blocks.{order_small}
use Rattle.mr_matrix.proofs.Headers.{row_too_large}
use Rattle.mr_matrix.proofs.row_line.row.Goals as goal

pub returns-else-are_below : goal.returns-else-are_below
returns-else-are_below c = λ xs.
    row_too_large c.args.field.now c.args.n c.from.result c.args.line.now c.as_slice.result.now xs (order_small c.args.field.now) (c.from.ensures ∙ c.order.ensures.value)
    (subst (λ (w : List ℕ). AreNumbers c.args.n c.args.line.now w) (sym c.as_slice.ensures.value) c.in-Some.ensures) (untrue c.are_below.result c.are_below.ensures c.if-are_below.false)
