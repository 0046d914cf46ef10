-- place by place
use Rattle.std.proofs.Common.{◌≡◌, ◌≢◌, ap, sym, subst, ◌∙◌, ⊎_elim, arith}
use Rattle.std.specs.Prelude.{◌<◌, slice_get, slice_index}
use Rattle.std.proofs.lemmas.Bool.{cases_eq}
use Rattle.std.proofs.lemmas.Option.{get_or_from_slice_get, slice_get_within}
use Rattle.mr_graph.specs.declared.edge.Edge.{Edge}
use Rattle.mr_frame.specs.Private.Building.{HasAndNot}
use Rattle.mr_frame.proofs.set_list.has_later.Goals as goal

pub loop-q-preserved : goal.loop-q-preserved
loop-q-preserved c = λ r e low high is has. ⊎_elim
    (λ (same : r ≡ c.loop-q.q). c.if-has_place.ensures (subst (λ (z : Edge). HasAndNot z.col (slice_index c.args.members.now z.row) c.args.x)
    (sym (get_or_from_slice_get c.args.places.now c.loop-q.q e (record { row = 0; col = 0 }) (ap (slice_get c.args.places.now) (sym same) ∙ is))) has))
    (λ (other : r ≢ c.loop-q.q). c.loop-q.invariant r e low (omega arith) is has)
    (cases_eq r c.loop-q.q)

pub returns : goal.returns
returns c = λ (q, e, low, is, has).
    let within = slice_get_within c.args.places.now q e is in
    let high : q < c.loop-q.q = omega arith in
    c.loop-q.invariant q e low high is has
