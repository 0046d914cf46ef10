-- a frame from its parts
use Rattle.std.proofs.Common.{List, [], ℕ, ◌≢◌, ◌*◌, ◌+◌, ap, sym, subst, ◌∙◌, length, get_or, arith}
use Rattle.std.specs.Prelude.{◌<◌, slice_get}
use Rattle.std.specs.List.Sorted.{IsStrictlySortedBy}
use Rattle.std.proofs.lemmas.Option.{slice_get-get_or}
use Rattle.mr_set.specs.Subsets.{list_cmp}
use Rattle.mr_field.specs.Gf.{gf2}
use Rattle.mr_set.specs.declared.TheConstants.{ELEMENTS}
use Rattle.mr_graph.specs.declared.edge.Edge.{Edge}
use Rattle.mr_graph.specs.Graph.{IsEdge}
use Rattle.mr_frame.specs.Frame.{AreEdges, IsOutside}
use Rattle.mr_frame.specs.Private.Building.{IsCellOf}
use Rattle.mr_frame.specs.declared.cell.Cell.TheVariants.{Zero}
use Rattle.mr_set.specs.Elements.{IsSet}
use Rattle.mr_frame.specs.Private.Parts.{ArePartLists}
use Rattle.mr_frame.proofs.Parting.{due_are_sets}
use Rattle.mr_frame.proofs.Made.{frame_made, made, places_inside}
use Rattle.mr_frame.proofs.frame.Frame.new.Goals as goal

pub tests_of-requires-clause-places : goal.tests_of-requires-clause-places
tests_of-requires-clause-places c =
    rw c.as_slice-3.ensures (places_inside c.args.m c.args.f c.first_basis-basis.result c.as_slice.result.now c.in_ok-places.places c.in_ok-places.ensures.none c.in_ok-places.ensures.places)

pub due_of-requires-clause-sorted : goal.due_of-requires-clause-sorted
due_of-requires-clause-sorted c = λ p lt.
    let none : Edge = record { row = 0; col = 0 } in
    let within : p < length c.as_slice-3.result.now = let same = ap length c.deref.ensures.value in let size = c.in_ok-tests.ensures.size in omega arith in
    let sets = c.in_ok-tests.ensures.tests p (get_or c.as_slice-3.result.now p none) (slice_get-get_or c.as_slice-3.result.now p none within) in
    subst (λ (tests : List (List (List ℕ))). IsStrictlySortedBy list_cmp (get_or tests p [])) (sym c.deref.ensures.value) sets.increasing

pub due_of-requires-clause-places : goal.due_of-requires-clause-places
due_of-requires-clause-places c = λ q e is.
    let inside = places_inside c.args.m c.args.f c.first_basis-basis.result c.as_slice.result.now c.in_ok-places.places c.in_ok-places.ensures.none c.in_ok-places.ensures.places q e (ap (λ (places : List Edge). slice_get places q) (sym c.as_slice-5.ensures) ∙ is) in
    let row = inside.0 in
    let col = inside.1 in
    let size = c.first_basis-basis.ensures.basis.0.size in
    let count = ap length (c.as_slice-4.ensures.value ∙ c.elements-members.ensures) in
    let limit = c.elements-limits.ensures.limits.elements in
    (omega arith, omega arith)

pub parts_of-requires-clause-members : goal.parts_of-requires-clause-members
parts_of-requires-clause-members c = c.as_slice-6.ensures.value ∙ c.elements-members.ensures

pub parts_of-requires-clause-count : goal.parts_of-requires-clause-count
parts_of-requires-clause-count c =
    let size = c.first_basis-basis.ensures.basis.0.size in
    let count = ap length (c.as_slice-6.ensures.value ∙ c.elements-members.ensures) in
    let limit = c.elements-limits.ensures.limits.elements in
    let flat = c.elements-limits.ensures.matroid.presentation.rank in
    omega arith

pub parts_of-requires-clause-sets : goal.parts_of-requires-clause-sets
parts_of-requires-clause-sets c =
    let are = rw (c.as_slice-5.ensures, c.as_slice-4.ensures.value, c.elements-members.ensures, c.deref.ensures.value) at c.in_ok-due.ensures.are in
    subst (λ (due : List (List (List ℕ))). (p : ℕ) → p < length due → (k : ℕ) → k < length (get_or due p []) → IsSet c.args.m.elements (get_or (get_or due p []) k [])) (sym c.deref-2.ensures.value)
    (due_are_sets c.args.m.elements c.args.m.rank c.in_ok-places.places c.first_basis-basis.result c.in_ok-tests.tests.items c.in_ok-due.due.items
    (λ p x is. c.in_ok-tests.ensures.tests p x (ap (λ (places : List Edge). slice_get places p) c.as_slice-3.ensures ∙ is))
    (c.in_ok-tests.ensures.size ∙ ap length c.as_slice-3.ensures) (c.in_ok-due.ensures.count ∙ ap length c.deref.ensures.value) are)

pub returns-clause-frame : goal.returns-clause-frame
returns-clause-frame c = frame_made c.args.m c.args.f c.first_basis-basis.result c.fundamental_graph-graph.result c.in_ok-forest.forest c.in_ok-places.places
    c.elements-limits.ensures.matroid c.elements-limits.ensures.limits c.first_basis-basis.ensures c.fundamental_graph-graph.ensures c.in_ok-forest.ensures.first c.in_ok-places.ensures.none
    (subst (λ (forest : List Edge). c.args.f ≢ gf2 → AreEdges (IsOutside c.args.m c.first_basis-basis.result forest) c.in_ok-places.places) c.as_slice.ensures c.in_ok-places.ensures.places)

pub invariant_of-result : goal.invariant_of-result
invariant_of-result c = (
  made c.args.m c.args.f c.first_basis-basis.result c.fundamental_graph-graph.result c.in_ok-forest.forest c.in_ok-places.places c.in_ok-cells.cells.items c.in_ok-tests.tests.items
      (frame_made c.args.m c.args.f c.first_basis-basis.result c.fundamental_graph-graph.result c.in_ok-forest.forest c.in_ok-places.places
      c.elements-limits.ensures.matroid c.elements-limits.ensures.limits c.first_basis-basis.ensures c.fundamental_graph-graph.ensures c.in_ok-forest.ensures.first c.in_ok-places.ensures.none
      (subst (λ (forest : List Edge). c.args.f ≢ gf2 → AreEdges (IsOutside c.args.m c.first_basis-basis.result forest) c.in_ok-places.places) c.as_slice.ensures c.in_ok-places.ensures.places))
      c.fundamental_graph-graph.ensures c.in_ok-places.ensures.few
      (c.in_ok-cells.ensures.size ∙ ap (λ (r : ℕ). r * ELEMENTS) c.rank.ensures)
      (λ i e row col. let rank = c.rank.ensures in
      subst (λ (places : List Edge). IsCellOf (IsEdge c.fundamental_graph-graph.result) places i e (get_or c.in_ok-cells.cells.items (i * ELEMENTS + e) Zero)) c.as_slice-2.ensures
      (c.in_ok-cells.ensures.cells i e (omega arith) col))
      (c.in_ok-tests.ensures.size ∙ ap length c.as_slice-3.ensures)
      (λ p x is. c.in_ok-tests.ensures.tests p x (ap (λ (places : List Edge). slice_get places p) c.as_slice-3.ensures ∙ is)),
  (
      let are = rw (c.as_slice-5.ensures, c.as_slice-4.ensures.value, c.elements-members.ensures, c.deref.ensures.value) at c.in_ok-due.ensures.are in
      record {
        due = c.in_ok-due.due.items;
        are = record { count = c.in_ok-due.ensures.count ∙ ap length c.deref.ensures.value; are = are };
        kept = subst (λ (due : List (List (List ℕ))). ArePartLists c.args.m c.first_basis-basis.result due c.in_ok-parts.parts.items) c.deref-2.ensures.value c.in_ok-parts.ensures;
      }
      ),
)
