-- A new board has and knows nothing.
use Rattle.mr_exchange.proofs.OneBoard.{is_new, new_has}
use Rattle.mr_exchange.proofs.plain.PlainBoard.new.Goals as goal

pub invariant_of-result : goal.invariant_of-result
invariant_of-result c = (
  is_new c.args.frame.now c.args.problem _ _ _ c.in_ok-cubes.ensures.items c.in_ok-tickets.ensures.items c.in_ok-rows.ensures c.basis-basis.ensures.frame c.requires,
  c.in_ok-cubes.ensures.capacity,
  c.in_ok-tickets.ensures.capacity,
)

pub returns : goal.returns
returns c = new_has c.args.frame.now c.args.problem _ _ _ c.in_ok-cubes.ensures.items c.in_ok-tickets.ensures.items c.in_ok-rows.ensures
