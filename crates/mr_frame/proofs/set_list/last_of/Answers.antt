-- set by set
use Rattle.std.proofs.Common.{◌≡◌, [], get_or, sym, subst, ◌∙◌}
use Rattle.std.proofs.lemmas.List.{get_or_default}
use Rattle.mr_frame.specs.Private.Building.{AreLast, HasLater}
use Rattle.mr_frame.proofs.Chosen.{chosen_none}
use Rattle.mr_frame.proofs.Lasting.{last_step}
use Rattle.mr_frame.proofs.set_list.last_of.Goals as goal

pub loop-x-init : goal.loop-x-init
loop-x-init c = subst (AreLast c.args.places.now c.args.members.now c.args.p []) (sym c.new-list.ensures) (chosen_none (λ x. ¬ (HasLater c.args.places.now c.args.members.now c.args.p x)))

pub loop-x-preserved : goal.loop-x-preserved
loop-x-preserved c =
    let here : c.x-item.result ≡ get_or c.args.sets.now c.loop-x.x-index [] = c.x-item.is ∙ get_or_default c.args.sets.now c.loop-x.x-index c.x-item.result [] c.loop-x-test.true in
    last_step c.args.places.now c.args.members.now c.args.p c.args.sets.now c.loop-x.list c.loop-x.x-index c.x-item.result c.has_later.result c.take_if.new.self c.loop-x-test.true c.loop-x.invariant c.requires.sorted here c.has_later.ensures c.in_ok-take_if.ensures
