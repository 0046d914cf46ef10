-- the value keeps its set, or gets this one
use Rattle.std.proofs.Common.{rules, ◌≡◌, ◌<◌, ◌∙◌, length, refl, sym, arith, true}
use Rattle.mr_set.specs.Elements.{is_element}
use Rattle.mr_set.proofs.Members.{Contains-from_element, is_element-from_Contains}
use Rattle.mr_set.proofs.Lowest.{first_inside, first_shorter}
use Rattle.mr_linear.proofs.Opening.{none_left}
use Rattle.mr_frame.proofs.Firsts.{marked-none, marked-some, marked-set, read-none, read-some}
use Rattle.mr_frame.proofs.first.mark.Goals as goal

pub loop-first-init : goal.loop-first-init
loop-first-init c = marked-none c.args.values c.args.x c.args.first.now (search rules)

pub listed : goal.listed
listed c =
    let here : is_element c.loop-first.left c.in-Some.v ≡ true = is_element-from_Contains c.loop-first.left c.in-Some.v (first_inside c.loop-first.left c.in-Some.v (sym c.in-Some.is ∙ c.first.ensures.least)) in
    let small : c.in-Some.v < 9 = c.requires c.in-Some.v (Contains-from_element c.args.values c.in-Some.v (c.loop-first.invariant.within c.in-Some.v here)) in
    let size : length c.loop-first.first ≡ 9 = c.loop-first.invariant.len in
    omega arith

pub listed-then-is_none : goal.listed-then-is_none
listed-then-is_none c =
    let here : is_element c.loop-first.left c.in-Some.v ≡ true = is_element-from_Contains c.loop-first.left c.in-Some.v (first_inside c.loop-first.left c.in-Some.v (sym c.in-Some.is ∙ c.first.ensures.least)) in
    let small : c.in-Some.v < 9 = c.requires c.in-Some.v (Contains-from_element c.args.values c.in-Some.v (c.loop-first.invariant.within c.in-Some.v here)) in
    let size : length c.loop-first.first ≡ 9 = c.loop-first.invariant.len in
    omega arith

pub bounds-first-at : goal.bounds-first-at
bounds-first-at c =
    let here : is_element c.loop-first.left c.in-Some.v ≡ true = is_element-from_Contains c.loop-first.left c.in-Some.v (first_inside c.loop-first.left c.in-Some.v (sym c.in-Some.is ∙ c.first.ensures.least)) in
    let small : c.in-Some.v < 9 = c.requires c.in-Some.v (Contains-from_element c.args.values c.in-Some.v (c.loop-first.invariant.within c.in-Some.v here)) in
    let size : length c.loop-first.first ≡ 9 = c.loop-first.invariant.len in
    omega arith

pub bounds-first-at-then-is_none : goal.bounds-first-at-then-is_none
bounds-first-at-then-is_none c =
    let here : is_element c.loop-first.left c.in-Some.v ≡ true = is_element-from_Contains c.loop-first.left c.in-Some.v (first_inside c.loop-first.left c.in-Some.v (sym c.in-Some.is ∙ c.first.ensures.least)) in
    let small : c.in-Some.v < 9 = c.requires c.in-Some.v (Contains-from_element c.args.values c.in-Some.v (c.loop-first.invariant.within c.in-Some.v here)) in
    let size : length c.loop-first.first ≡ 9 = c.loop-first.invariant.len in
    omega arith

pub loop-first-smaller-then-is_none : goal.loop-first-smaller-then-is_none
loop-first-smaller-then-is_none c = rw c.without-left.ensures (first_shorter c.loop-first.left c.in-Some.v (sym c.in-Some.is ∙ c.first.ensures.least))

pub loop-first-smaller : goal.loop-first-smaller
loop-first-smaller c = rw c.without-left.ensures (first_shorter c.loop-first.left c.in-Some.v (sym c.in-Some.is ∙ c.first.ensures.least))

pub loop-first-preserved-then-is_none : goal.loop-first-preserved-then-is_none
loop-first-preserved-then-is_none c =
    let here : is_element c.loop-first.left c.in-Some.v ≡ true = is_element-from_Contains c.loop-first.left c.in-Some.v (first_inside c.loop-first.left c.in-Some.v (sym c.in-Some.is ∙ c.first.ensures.least)) in
    let small : c.in-Some.v < 9 = c.requires c.in-Some.v (Contains-from_element c.args.values c.in-Some.v (c.loop-first.invariant.within c.in-Some.v here)) in
    let size : length c.loop-first.first ≡ 9 = c.loop-first.invariant.len in
    marked-set c.args.values c.args.x c.args.first.now c.loop-first.first c.loop-first.left c.without-left.result c.in-Some.v c.loop-first.invariant c.without-left.ensures here small
    (read-none c.loop-first.first c.in-Some.v c.index-first-at.result c.is_none.result (omega arith) c.is_none.ensures c.if-is_none.true)

pub loop-first-preserved : goal.loop-first-preserved
loop-first-preserved c =
    let here : is_element c.loop-first.left c.in-Some.v ≡ true = is_element-from_Contains c.loop-first.left c.in-Some.v (first_inside c.loop-first.left c.in-Some.v (sym c.in-Some.is ∙ c.first.ensures.least)) in
    let small : c.in-Some.v < 9 = c.requires c.in-Some.v (Contains-from_element c.args.values c.in-Some.v (c.loop-first.invariant.within c.in-Some.v here)) in
    let size : length c.loop-first.first ≡ 9 = c.loop-first.invariant.len in
    let had = read-some c.loop-first.first c.in-Some.v c.index-first-at.result c.is_none.result (omega arith) c.is_none.ensures c.if-is_none.false in
    marked-some c.args.values c.args.x c.args.first.now c.loop-first.first c.loop-first.left c.without-left.result c.in-Some.v c.loop-first.invariant c.without-left.ensures here had.0 had.1

pub returns-clause-values : goal.returns-clause-values
returns-clause-values c = λ v l.
    let none = none_left c.loop-first.left c.first.result c.first.ensures.least c.in_default.not-Some in
    c.loop-first.invariant.done v (rw none refl)
