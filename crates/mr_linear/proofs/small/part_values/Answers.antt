-- the values by the determinant; and the copy has the same entries in the rows
use Rattle.std.proofs.Common.{arith}
use Rattle.mr_linear.specs.Stored.{cell}
use Rattle.mr_linear.proofs.Pairs.{pair-values, values-same}
use Rattle.mr_linear.proofs.small.part_values.Goals as goal

pub returns-in-Some-only_other-clause-values : goal.returns-in-Some-only_other-clause-values
returns-in-Some-only_other-clause-values c =
    pair-values c.args.field.now c.args.rows c.args.cols c.args.in_rows c.args.x (cell c.args.full.now) c.args.row c.in-Some.k c.args.column c.in-Some-only_other.j c.pair_values.result
    c.in-Some.ensures c.in-Some-only_other.ensures c.pair_values.ensures

pub returns-clause-values : goal.returns-clause-values
returns-clause-values c =
    let wide = c.requires.shape.3 in
    values-same c.args.field.now c.args.rows c.args.in_rows c.args.cols (cell c.copy_rows.new.copy) (cell c.args.full.now) c.args.row c.args.column c.args.x c.dependent_values.result
    (λ i j il jl. c.copy_rows.ensures.same i j il (omega arith)) c.dependent_values.ensures.values
