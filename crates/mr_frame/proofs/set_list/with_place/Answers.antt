-- set by set
use Rattle.std.proofs.Common.{◌≡◌, [], get_or, sym, subst, ◌∙◌}
use Rattle.std.proofs.lemmas.List.{get_or_default}
use Rattle.mr_frame.specs.Private.Building.{AreChosen, HasAndNot}
use Rattle.mr_frame.proofs.Chosen.{chosen_none, chosen_step}
use Rattle.mr_frame.proofs.set_list.with_place.Goals as goal

pub loop-x-init : goal.loop-x-init
loop-x-init c = subst (AreChosen (HasAndNot c.args.place.col (get_or c.args.members.now c.args.place.row 0)) []) (sym c.new-list.ensures) (chosen_none (HasAndNot c.args.place.col (get_or c.args.members.now c.args.place.row 0)))

pub loop-x-preserved : goal.loop-x-preserved
loop-x-preserved c =
    let here : c.x-item.result ≡ get_or c.args.sets.now c.loop-x.x-index [] = c.x-item.is ∙ get_or_default c.args.sets.now c.loop-x.x-index c.x-item.result [] c.loop-x-test.true in
    chosen_step (HasAndNot c.args.place.col (get_or c.args.members.now c.args.place.row 0)) c.args.sets.now c.loop-x.list c.loop-x.x-index c.x-item.result c.has_place.result c.take_if.new.self
    c.loop-x-test.true c.loop-x.invariant c.requires.sorted here c.has_place.ensures c.in_ok-take_if.ensures
