use Rattle.std.proofs.Common.{◌-◌, arith}
use Rattle.mr_set.proofs.Placing.{some_left, set_at-empty, set_at-with, set_at-without, place-rest}
use Rattle.mr_set.proofs.places.+subset_from.Goals as goal

pub returns-then-r-eq0 : goal.returns-then-r-eq0
returns-then-r-eq0 t c = set_at-empty c.args.low (c.args.n - c.args.low) c.args.r c.args.k c.empty.result c.if-r-eq0.true c.requires.place c.empty.ensures

pub subset_from-requires-else-k-with_low : goal.subset_from-requires-else-k-with_low
subset_from-requires-else-k-with_low t c =
    let lt = some_left c.args.low c.args.n c.args.r c.args.k c.requires.place c.if-r-eq0.false in
    (omega arith, (c.requires.elements, place-rest c.args.low c.args.n c.args.r c.args.k c.combinations-with_low.result lt c.if-r-eq0.false c.combinations-with_low.ensures c.if-k-with_low.false c.requires.place))

pub returns-then-k-with_low : goal.returns-then-k-with_low
returns-then-k-with_low t c =
    let lt = some_left c.args.low c.args.n c.args.r c.args.k c.requires.place c.if-r-eq0.false in
    set_at-with c.args.low c.args.n c.args.r c.args.k c.subset_from.result c.with.result lt c.if-r-eq0.false c.subset_from.ensures c.with.ensures

pub returns-else-k-with_low : goal.returns-else-k-with_low
returns-else-k-with_low t c =
    let lt = some_left c.args.low c.args.n c.args.r c.args.k c.requires.place c.if-r-eq0.false in
    set_at-without c.args.low c.args.n c.args.r c.args.k c.combinations-with_low.result c.subset_from-else-k-with_low.result lt c.if-r-eq0.false c.combinations-with_low.ensures c.if-k-with_low.false c.subset_from-else-k-with_low.ensures
