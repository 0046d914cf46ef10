-- the values by the determinant after a pivot
use Rattle.std.proofs.Common.{◌∙◌, sym}
use Rattle.mr_set.proofs.Lowest.{first_inside}
use Rattle.mr_set.proofs.Members.{Contains-from_element}
use Rattle.mr_field.proofs.Laws.{norm-element}
use Rattle.mr_linear.specs.Stored.{cell}
use Rattle.mr_linear.proofs.Opening.{of_others}
use Rattle.mr_linear.proofs.Pairs.{still_in, triple-values}
use Rattle.mr_linear.proofs.small.triple_part.Goals as goal

pub only_other-requires-clause-first : goal.only_other-requires-clause-first
only_other-requires-clause-first c =
    let other = of_others c.args.in_rows c.without.result c.args.row c.in-Some.p c.without.ensures (first_inside c.without.result c.in-Some.p (sym c.in-Some.is ∙ c.first.ensures.least)) in
    (c.requires.place.0, still_in c.args.in_rows c.without-3.result c.in-Some.p c.args.row c.without-3.ensures other.0 c.requires.place.2)

pub only_other-requires-2-clause-first : goal.only_other-requires-2-clause-first
only_other-requires-2-clause-first c =
    let other = of_others c.args.x c.without-2.result c.args.column c.in-Some-first.h c.without-2.ensures (first_inside c.without-2.result c.in-Some-first.h (sym c.in-Some-first.is ∙ c.first-2.ensures.least)) in
    (c.requires.place.1, still_in c.args.x c.without-4.result c.in-Some-first.h c.args.column c.without-4.ensures other.0 c.requires.place.3)

pub triple_values-requires-clause-rows : goal.triple_values-requires-clause-rows
triple_values-requires-clause-rows c =
    let other = of_others c.args.in_rows c.without.result c.args.row c.in-Some.p c.without.ensures (first_inside c.without.result c.in-Some.p (sym c.in-Some.is ∙ c.first.ensures.least)) in
    (c.in-Some-only_other.ensures.apart, λ q. other.0 (sym q))

pub triple_values-requires-clause-columns : goal.triple_values-requires-clause-columns
triple_values-requires-clause-columns c =
    let other = of_others c.args.x c.without-2.result c.args.column c.in-Some-first.h c.without-2.ensures (first_inside c.without-2.result c.in-Some-first.h (sym c.in-Some-first.is ∙ c.first-2.ensures.least)) in
    (c.in-Some-only_other-2.ensures.apart, λ q. other.0 (sym q))

pub returns : goal.returns
returns c =
    let row = of_others c.args.in_rows c.without.result c.args.row c.in-Some.p c.without.ensures (first_inside c.without.result c.in-Some.p (sym c.in-Some.is ∙ c.first.ensures.least)) in
    let column = of_others c.args.x c.without-2.result c.args.column c.in-Some-first.h c.without-2.ensures (first_inside c.without-2.result c.in-Some-first.h (sym c.in-Some-first.is ∙ c.first-2.ensures.least)) in
    triple-values c.args.field.now c.args.rows c.args.cols c.args.in_rows c.without-3.result c.args.x c.without-4.result (cell c.args.w.now)
    c.args.row c.in-Some-only_other.k c.in-Some.p c.args.column c.in-Some-only_other-2.j c.in-Some-first.h c.triple_values.result
    c.if-p-rows.false (Contains-from_element c.args.in_rows c.in-Some.p row.1) (λ q. row.0 (sym q)) c.if-h-cols.false (Contains-from_element c.args.x c.in-Some-first.h column.1)
    (λ z. c.if-w-p-eq0.false (sym (norm-element c.args.field.now (cell c.args.w.now c.in-Some.p c.in-Some-first.h) (c.requires.elements _)) ∙ z))
    c.without-3.ensures c.without-4.ensures c.in-Some-only_other.ensures c.in-Some-only_other-2.ensures c.triple_values.ensures
