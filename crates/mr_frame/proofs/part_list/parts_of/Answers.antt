-- list by list
use Rattle.std.proofs.Common.{List, ℕ, ◌≡◌, ◌+◌, ◌∙◌, [], get_or, length, sym, subst, arith}
use Rattle.std.specs.Prelude.{◌<◌}
use Rattle.std.proofs.lemmas.List.{get_or_default}
use Rattle.mr_set.specs.Elements.{IsSet}
use Rattle.mr_frame.specs.Private.Parts.{AreParts}
use Rattle.mr_frame.specs.declared.part.Part.{Part}
use Rattle.mr_frame.proofs.Parting.{ArePartListsTo, part_lists_none, part_lists_more}
use Rattle.mr_frame.proofs.part_list.parts_of.Goals as goal

pub loop-p-init : goal.loop-p-init
loop-p-init c = rw c.new-parts.ensures.items (part_lists_none c.args.m.now c.args.basis c.args.due.now)

pub parts_in-requires-clause-sets : goal.parts_in-requires-clause-sets
parts_in-requires-clause-sets c =
    let read : c.as_slice.result.now ≡ get_or c.args.due.now c.loop-p.p [] = c.as_slice.ensures ∙ c.index-due-p.is ∙ get_or_default c.args.due.now c.loop-p.p c.index-due-p.result [] c.loop-p-test.true in
    subst (λ (sets : List (List ℕ)). (k : ℕ) → k < length sets → IsSet c.args.m.now.elements (get_or sets k [])) (sym read) (c.requires.sets c.loop-p.p c.loop-p-test.true)

pub loop-p-preserved : goal.loop-p-preserved
loop-p-preserved c =
    let read : c.as_slice.result.now ≡ get_or c.args.due.now c.loop-p.p [] = c.as_slice.ensures ∙ c.index-due-p.is ∙ get_or_default c.args.due.now c.loop-p.p c.index-due-p.result [] c.loop-p-test.true in
    subst (λ (parts : List (List Part)). ArePartListsTo c.args.m.now c.args.basis c.args.due.now parts (c.loop-p.p + 1)) (sym c.in_ok-push.ensures.items)
    (part_lists_more c.args.m.now c.args.basis c.args.due.now c.loop-p.parts.items c.loop-p.p c.in_ok-parts_in.field-0 c.loop-p.invariant
    (subst (λ (sets : List (List ℕ)). AreParts c.args.m.now c.args.basis sets c.in_ok-parts_in.field-0) read c.in_ok-parts_in.ensures))

pub returns : goal.returns
returns c =
    let end : c.loop-p.p ≡ length c.args.due.now = omega arith in
    record { count = c.loop-p.invariant.count ∙ end; each = λ p lt. c.loop-p.invariant.each p (omega arith) }
