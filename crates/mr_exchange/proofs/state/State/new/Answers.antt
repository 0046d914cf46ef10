-- a new state has the first pass alone
use Rattle.mr_exchange.proofs.Holding.{new_is, new_is_held}
use Rattle.mr_exchange.proofs.state.State.new.Goals as goal

pub invariant_of-result : goal.invariant_of-result
invariant_of-result c =
    new_is_held c.args.frame.now c.args.problem c.args.passes c.of.result.value c.push.new.self.items c.in_ok-slots.slots.items c.of.ensures
    (rw (c.in_ok-push.ensures.items, c.new-list.ensures.items, c.new.ensures)) c.in_ok-slots.ensures c.requires.problem c.requires.some_passes c.requires.few_passes

pub returns-clause-new : goal.returns-clause-new
returns-clause-new c =
    new_is c.args.frame.now c.args.problem c.args.passes c.of.result.value c.push.new.self.items c.in_ok-slots.slots.items c.of.ensures
    (rw (c.in_ok-push.ensures.items, c.new-list.ensures.items, c.new.ensures)) c.in_ok-slots.ensures

pub returns-clause-sound : goal.returns-clause-sound
returns-clause-sound c = (invariant_of-result c).sound
