-- the values by one elimination
use Rattle.std.proofs.Common.{ℕ, List, ◌≡◌, ◌<◌, ◌∙◌, length, ap, subst, arith}
use Rattle.std.specs.Prelude.{Contains}
use Rattle.std.proofs.lemmas.Option.{slice_get_within}
use Rattle.mr_field.proofs.Lookups.{order-le}
use Rattle.mr_linear.specs.Stored.{cell}
use Rattle.mr_frame.specs.Frame.{Framed}
use Rattle.mr_frame.proofs.Keeping.{kept_now}
use Rattle.mr_frame.proofs.Values.{failing, minus_member, place_inside, row_inside, spare_outside}
use Rattle.mr_frame.proofs.frame.Frame.failing_part.Goals as goal

pub part_values-dependent-requires-clause-place : goal.part_values-dependent-requires-clause-place
part_values-dependent-requires-clause-place c =
    let kept = kept_now c.self.view_is c.self.invariant.0 in
    let inside = place_inside c.args.self.now kept.frame c.args.part.now.set c.args.part.now.columns c.args.p c.args.place c.rank.result c.elements.result c.requires.place c.requires.position c.requires.part.columns
    (c.rank.ensures ∙ ap (λ (f : Framed). f.matroid.rank) c.self.view_is) (c.elements.ensures.value ∙ ap (λ (f : Framed). f.matroid.elements) c.self.view_is) in
    (inside.0, inside.1, row_inside c.args.self.now kept.frame c.args.part.now.set c.args.part.now.rows c.args.p c.args.place c.requires.place c.requires.position c.requires.part.rows, inside.2)

pub part_values-dependent-requires-clause-spare : goal.part_values-dependent-requires-clause-spare
part_values-dependent-requires-clause-spare c =
    let kept = kept_now c.self.view_is c.self.invariant.0 in
    spare_outside c.args.self.now kept.frame c.args.part.now.set c.args.part.now.columns c.args.p c.args.place c.args.spare c.elements.result c.requires.place c.requires.position c.requires.part.columns
    c.requires.spare (c.elements.ensures.value ∙ ap (λ (f : Framed). f.matroid.elements) c.self.view_is)

pub returns-clause-fails : goal.returns-clause-fails
returns-clause-fails c =
    let kept = kept_now c.self.view_is c.self.invariant.0 in
    let rank : c.rank.result ≡ c.args.self.now.matroid.rank = c.rank.ensures ∙ ap (λ (f : Framed). f.matroid.rank) c.self.view_is in
    let limits = kept.frame.limits.elements in
    let inside : c.args.p < length c.args.self.now.places = slice_get_within c.args.self.now.places c.args.p c.requires.position.place c.requires.position.is in
    failing c.args.self.now c.self.inside.cells.items c.self.inside.tests.items c.args.a.now c.args.part.now.set c.args.part.now.rows c.args.part.now.columns (cell c.args.full.now) c.args.p c.args.place
    kept c.requires.place (let few = kept.few in let long = c.words-positions.ensures.assign.positions in omega arith) c.requires.assignment c.requires.set c.requires.position c.requires.others
    c.requires.part.rows inside c.requires.part.columns
    (λ i e row col in_rows in_columns. c.requires.values i e row col (minus_member c.args.part.now.set c.args.self.now.basis e (subst (λ (ys : List ℕ). Contains ys e) c.requires.part.columns in_columns)).1)
    c.self.inside.field c.rank.result c.elements.result (ap (λ (f : Framed). f.field) c.self.view_is) (c.rank.ensures ∙ ap (λ (f : Framed). f.matroid.rank) c.self.view_is)
    (c.elements.ensures.value ∙ ap (λ (f : Framed). f.matroid.elements) c.self.view_is)
    c.part_values-dependent.result c.part_values-dependent.ensures.values c.args.part.now.basis c.values_where.result c.requires.part.basis c.values_where.ensures

pub returns-clause-small : goal.returns-clause-small
returns-clause-small c = λ v h.
    let k = (c.values_where.ensures v).0 h in
    let most = order-le c.self.inside.field in
    let below = k.1 in
    omega arith
