use Rattle.std.proofs.Common.{◌≢◌, ◌+◌, ◌-◌, ◌∙◌, length, ap, arith}
use Rattle.mr_set.specs.Subsets.{choose}
use Rattle.mr_set.proofs.Placing.{begins_rest, begins_above, place-empty, some_room, place_of-with, place_of-without, place_of-small}
use Rattle.mr_set.proofs.places.+place_from.Goals as goal

pub returns-then-size-eq0 : goal.returns-then-size-eq0
returns-then-size-eq0 t c = place-empty c.args.low (c.args.n - c.args.low) c.args.s (omega arith)

pub place_from-requires : goal.place_from-requires
place_from-requires t c =
    let lt = some_room c.args.low c.args.n c.args.s c.requires.set (λ none. c.if-size-eq0.false (omega arith)) in
    (omega arith, (c.requires.elements, begins_rest c.args.low c.args.n c.args.s c.without.result c.requires.set (c.has.ensures.0 c.if-has.true) c.without.ensures))

pub returns-then-has : goal.returns-then-has
returns-then-has t c =
    let lt = some_room c.args.low c.args.n c.args.s c.requires.set (λ none. c.if-size-eq0.false (omega arith)) in
    place_of-with c.args.low c.args.n c.place_from.result c.args.s c.without.result lt c.requires.set (c.has.ensures.0 c.if-has.true) c.without.ensures c.place_from.ensures

pub place_from-requires-2 : goal.place_from-requires-2
place_from-requires-2 t c =
    let lt = some_room c.args.low c.args.n c.args.s c.requires.set (λ none. c.if-size-eq0.false (omega arith)) in
    (omega arith, (c.requires.elements, begins_above c.args.low c.args.n c.args.s c.requires.set (λ inside. let has = c.has.ensures.1 inside in let lacks = c.if-has.false in cc)))

pub overflow_add-result : goal.overflow_add-result
overflow_add-result t c =
    let some : length c.args.s ≢ 0 = λ none. c.if-size-eq0.false (omega arith) in
    let lt = some_room c.args.low c.args.n c.args.s c.requires.set some in
    let count = c.combinations-with_low.ensures ∙ ap (λ r. choose (c.args.n - (c.args.low + 1)) (r - 1)) c.len-size.ensures in
    let small = place_of-small c.args.low c.args.n c.place_from-2.result c.combinations-with_low.result (length c.args.s) c.args.s c.requires.elements lt some count c.place_from-2.ensures in
    omega arith

pub returns : goal.returns
returns t c =
    let some : length c.args.s ≢ 0 = λ none. c.if-size-eq0.false (omega arith) in
    let lt = some_room c.args.low c.args.n c.args.s c.requires.set some in
    let count = c.combinations-with_low.ensures ∙ ap (λ r. choose (c.args.n - (c.args.low + 1)) (r - 1)) c.len-size.ensures in
    place_of-without c.args.low c.args.n c.place_from-2.result c.combinations-with_low.result c.args.s lt some count c.place_from-2.ensures
