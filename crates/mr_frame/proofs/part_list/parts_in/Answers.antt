-- set by set
use Rattle.std.proofs.Common.{List, ℕ, ◌≡◌, ◌+◌, ◌∙◌, [], get_or, sym, subst, arith}
use Rattle.std.proofs.lemmas.List.{get_or_default}
use Rattle.mr_set.specs.Elements.{IsSet}
use Rattle.mr_frame.specs.Private.Parts.{IsPartOfSet}
use Rattle.mr_frame.specs.declared.part.Part.{Part}
use Rattle.mr_frame.proofs.Parting.{ArePartsTo, parts_none, parts_more}
use Rattle.mr_frame.proofs.part_list.parts_in.Goals as goal

pub loop-x-init : goal.loop-x-init
loop-x-init c = subst (λ (parts : List Part). ArePartsTo c.args.m.now c.args.basis c.args.sets.now parts 0) (sym c.new-list.ensures) (parts_none c.args.m.now c.args.basis c.args.sets.now)

pub part_of-requires-clause-set : goal.part_of-requires-clause-set
part_of-requires-clause-set c =
    let here : c.x-item.result ≡ get_or c.args.sets.now c.loop-x.x-index [] = c.x-item.is ∙ get_or_default c.args.sets.now c.loop-x.x-index c.x-item.result [] c.loop-x-test.true in
    subst (IsSet c.args.m.now.elements) (sym here) (c.requires.sets c.loop-x.x-index c.loop-x-test.true)

pub loop-x-preserved : goal.loop-x-preserved
loop-x-preserved c =
    let here : c.x-item.result ≡ get_or c.args.sets.now c.loop-x.x-index [] = c.x-item.is ∙ get_or_default c.args.sets.now c.loop-x.x-index c.x-item.result [] c.loop-x-test.true in
    subst (λ (parts : List Part). ArePartsTo c.args.m.now c.args.basis c.args.sets.now parts (c.loop-x.x-index + 1)) (sym c.in_ok-push.ensures)
    (parts_more c.args.m.now c.args.basis c.args.sets.now c.loop-x.list c.loop-x.x-index c.part_of.result c.loop-x.invariant
    (subst (λ (x : List ℕ). IsPartOfSet c.args.m.now c.args.basis x c.part_of.result) here c.part_of.ensures))

pub returns : goal.returns
returns c = record { count = (let n = c.loop-x.invariant.count in omega arith); each = c.loop-x.invariant.each }
