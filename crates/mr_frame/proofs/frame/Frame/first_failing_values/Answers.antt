-- set by set
use Rattle.std.proofs.Common.{ℕ, List, ◌≡◌, ◌<◌, ◌∙◌, get_or, length, refl, ap, sym, subst, arith}
use Rattle.std.specs.Prelude.{Option, None, replicate}
use Rattle.std.proofs.lemmas.List.{length-map}
use Rattle.std.proofs.lemmas.Option.{slice_get_read}
use Rattle.mr_field.specs.Gf.{order}
use Rattle.mr_field.proofs.Lookups.{order-le}
use Rattle.mr_set.specs.Elements.{numbers_below, without_element}
use Rattle.mr_linear.proofs.Opening.{none_left}
use Rattle.mr_frame.specs.Frame.{Framed}
use Rattle.mr_frame.specs.declared.part.Part.{Part}
use Rattle.mr_frame.proofs.Outside.{HasEdge-slice_get}
use Rattle.mr_frame.proofs.Uniqueness.{place_exchange}
use Rattle.mr_frame.proofs.Keeping.{kept_now, due_now}
use Rattle.mr_frame.proofs.Owning.{AreOfFrame, sets_of, parts_of_frame, due_part, set_here}
use Rattle.mr_frame.proofs.Firsts.{no_set, firsts-none, firsts-more, firsts-all, firsts-early, open-all, open-less, others_filled}
use Rattle.mr_frame.proofs.frame.Frame.first_failing_values.Goals as goal

pub bounds-deref-place : goal.bounds-deref-place
bounds-deref-place c =
    let kept = kept_now c.self.view_is c.self.invariant.0 in
    let edge = place_exchange c.args.self.now kept.frame c.place-place.result.row c.place-place.result.col (HasEdge-slice_get c.args.self.now.places c.args.p c.place-place.result c.place-place.ensures) in
    let row = edge.row in
    let size : length c.args.self.now.basis ≡ c.args.self.now.matroid.rank = kept.frame.basis.basis.0.size in
    let members : c.deref.result.now ≡ c.args.self.now.basis = c.deref.ensures.0 ∙ c.elements.ensures ∙ ap (λ (f : Framed). f.basis) c.self.view_is in
    subst (λ (ys : List ℕ). c.place-place.result.row < length ys) (sym members) (omega arith)

pub failing_part-failing-requires-clause-spare : goal.failing_part-failing-requires-clause-spare
failing_part-failing-requires-clause-spare c =
    let members : c.deref.result.now ≡ c.args.self.now.basis = c.deref.ensures.0 ∙ c.elements.ensures ∙ ap (λ (f : Framed). f.basis) c.self.view_is in
    ap (λ (ys : List ℕ). get_or ys c.place-place.result.row 0) members

pub failing_part-failing-requires-clause-part : goal.failing_part-failing-requires-clause-part
failing_part-failing-requires-clause-part c =
    let kept = kept_now c.self.view_is c.self.invariant.0 in
    let due = due_now c.self.view_is c.self.invariant.1 in
    let parts : List Part = c.as_slice-part-items.result.now in
    let own : AreOfFrame c.args.self.now c.args.p parts = subst (AreOfFrame c.args.self.now c.args.p) (sym c.as_slice-part-items.ensures)
    (parts_of_frame c.args.self.now c.self.inside.cells.items c.self.inside.tests.items c.self.inside.parts.items kept due c.args.p c.index.result.now c.requires.position c.index.ensures) in
    own.each c.loop-part.part-index c.part-item.result (slice_get_read parts (length parts) c.loop-part.part-index c.part-item.result refl c.loop-part-test.true c.part-item.is)

pub failing_part-failing-requires-clause-set : goal.failing_part-failing-requires-clause-set
failing_part-failing-requires-clause-set c =
    let kept = kept_now c.self.view_is c.self.invariant.0 in
    let due = due_now c.self.view_is c.self.invariant.1 in
    let parts : List Part = c.as_slice-part-items.result.now in
    let own : AreOfFrame c.args.self.now c.args.p parts = subst (AreOfFrame c.args.self.now c.args.p) (sym c.as_slice-part-items.ensures)
    (parts_of_frame c.args.self.now c.self.inside.cells.items c.self.inside.tests.items c.self.inside.parts.items kept due c.args.p c.index.result.now c.requires.position c.index.ensures) in
    (due_part c.args.self.now c.args.p parts own c.loop-part.part-index c.part-item.result c.loop-part-test.true c.part-item.is).0

pub failing_part-failing-requires-clause-position : goal.failing_part-failing-requires-clause-position
failing_part-failing-requires-clause-position c =
    let kept = kept_now c.self.view_is c.self.invariant.0 in
    let due = due_now c.self.view_is c.self.invariant.1 in
    let parts : List Part = c.as_slice-part-items.result.now in
    let own : AreOfFrame c.args.self.now c.args.p parts = subst (AreOfFrame c.args.self.now c.args.p) (sym c.as_slice-part-items.ensures)
    (parts_of_frame c.args.self.now c.self.inside.cells.items c.self.inside.tests.items c.self.inside.parts.items kept due c.args.p c.index.result.now c.requires.position c.index.ensures) in
    (due_part c.args.self.now c.args.p parts own c.loop-part.part-index c.part-item.result c.loop-part-test.true c.part-item.is).1.needs

pub failing_part-failing-requires-clause-others : goal.failing_part-failing-requires-clause-others
failing_part-failing-requires-clause-others c =
    let kept = kept_now c.self.view_is c.self.invariant.0 in
    let due = due_now c.self.view_is c.self.invariant.1 in
    let parts : List Part = c.as_slice-part-items.result.now in
    let own : AreOfFrame c.args.self.now c.args.p parts = subst (AreOfFrame c.args.self.now c.args.p) (sym c.as_slice-part-items.ensures)
    (parts_of_frame c.args.self.now c.self.inside.cells.items c.self.inside.tests.items c.self.inside.parts.items kept due c.args.p c.index.result.now c.requires.position c.index.ensures) in
    others_filled c.args.self.now c.args.a.now c.args.p c.requires.earlier c.part-item.result.set (due_part c.args.self.now c.args.p parts own c.loop-part.part-index c.part-item.result c.loop-part-test.true c.part-item.is).1

pub loop-part-preserved : goal.loop-part-preserved
loop-part-preserved c =
    let kept = kept_now c.self.view_is c.self.invariant.0 in
    let due = due_now c.self.view_is c.self.invariant.1 in
    let parts : List Part = c.as_slice-part-items.result.now in
    let own : AreOfFrame c.args.self.now c.args.p parts = subst (AreOfFrame c.args.self.now c.args.p) (sym c.as_slice-part-items.ensures)
    (parts_of_frame c.args.self.now c.self.inside.cells.items c.self.inside.tests.items c.self.inside.parts.items kept due c.args.p c.index.result.now c.requires.position c.index.ensures) in
    let size = length-map parts (λ (q : Part). q.set) in (
      firsts-more c.args.self.now c.args.a.now c.args.p (sets_of parts) own.sorted own.exactly
          c.loop-part.first c.mark.new.first c.failing_part-failing.result c.part-item.result.set c.loop-part.part-index c.loop-part.invariant.0 (let lt = c.loop-part-test.true in omega arith)
          (set_here parts c.loop-part.part-index c.part-item.result c.loop-part-test.true c.part-item.is) (c.mark.ensures.size ∙ sym c.loop-part.invariant.0.len) c.failing_part-failing.ensures.fails c.mark.ensures.values,
      c.failing_part-failing.ensures.scratch,
      open-less (order c.args.self.now.field) c.loop-part.open c.minus-open.result c.failing_part-failing.result c.part-item.result.set c.loop-part.first c.mark.new.first (order-le c.args.self.now.field) c.loop-part.invariant.2 c.minus-open.ensures c.mark.ensures.values,
    )

pub returns : goal.returns
returns c =
    let kept = kept_now c.self.view_is c.self.invariant.0 in
    let due = due_now c.self.view_is c.self.invariant.1 in
    let parts : List Part = c.as_slice-part-items.result.now in
    let own : AreOfFrame c.args.self.now c.args.p parts = subst (AreOfFrame c.args.self.now c.args.p) (sym c.as_slice-part-items.ensures)
    (parts_of_frame c.args.self.now c.self.inside.cells.items c.self.inside.tests.items c.self.inside.parts.items kept due c.args.p c.index.result.now c.requires.position c.index.ensures) in
    let size = length-map parts (λ (q : Part). q.set) in
    firsts-all c.args.self.now c.args.a.now c.args.p (sets_of parts) own.sorted own.exactly c.loop-part.first c.loop-part.part-index (let end = c.loop-part-test.false in omega arith) c.loop-part.invariant.0

pub loop-part-init : goal.loop-part-init
loop-part-init c = (
  firsts-none c.args.self.now c.args.a.now c.args.p _ (replicate {A = Option (List ℕ)} 9 None) refl (λ v l. no_set 9 v),
  c.outside-full.ensures.elements,
  open-all _ c.nonzero-open.result (replicate {A = Option (List ℕ)} 9 None) (c.nonzero-open.ensures ∙ ap (λ (f : Framed). without_element 0 (numbers_below (order f.field))) c.self.view_is),
)

pub returns-in_default : goal.returns-in_default
returns-in_default c =
    let kept = kept_now c.self.view_is c.self.invariant.0 in
    firsts-early c.args.self.now c.args.a.now c.args.p (sets_of c.as_slice-part-items.result.now) c.loop-part.first c.loop-part.part-index c.loop-part.open
    (let few = kept.few in let long = c.words-positions.ensures.assign.positions in let lt = c.requires.position in omega arith)
    (none_left c.loop-part.open c.first.result c.first.ensures.least c.in_default.not-Some) c.loop-part.invariant.0 c.loop-part.invariant.2
