-- An opening gives the number of the tickets, or an end.
use Rattle.std.proofs.Common.{true≢false, refl, sym, subst, arith}
use Rattle.mr_exchange.specs.Board.{CanOpen}
use Rattle.mr_exchange.specs.Plain.{PlainIs, plain_holding}
use Rattle.mr_exchange.proofs.OneBoard.{plain_facts, after_ticket, gains_ticket, opens_none}
use Rattle.mr_exchange.proofs.plain.PlainBoardBoard.open_node.Goals as goal

pub invariant_of-self : goal.invariant_of-self
invariant_of-self c = let can = subst (λ (p : PlainIs). CanOpen (plain_holding p) c.args.node.now) (sym c.self.view_is) c.requires in (
  after_ticket _ c.self.invariant.0 c.args.node.now can c.len-slot.result _ (omega arith) c.if-slot-self.true c.push_reserved.ensures.items,
  omega arith,
  omega arith,
)

pub invariant_of-self-else-slot-self : goal.invariant_of-self-else-slot-self
invariant_of-self-else-slot-self c = let can = subst (λ (p : PlainIs). CanOpen (plain_holding p) c.args.node.now) (sym c.self.view_is) c.requires in (
  opens_none _ c.self.invariant.0 c.args.node.now can (omega arith),
  c.self.invariant.1,
  c.self.invariant.2,
)

pub returns-then-slot-self-clause-moves : goal.returns-then-slot-self-clause-moves
returns-then-slot-self-clause-moves c = rw (← c.self.view_is) (gains_ticket _ c.self.invariant.0 c.args.node.now c.len-slot.result _ (omega arith) c.if-slot-self.true c.push_reserved.ensures.items)

pub returns-then-slot-self-clause-none : goal.returns-then-slot-self-clause-none
returns-then-slot-self-clause-none c = rw (← c.self.view_is) ((λ none. absurd (true≢false none)), (λ all. absurd (omega (arith, all))))

pub returns-else-slot-self-clause-none : goal.returns-else-slot-self-clause-none
returns-else-slot-self-clause-none c = let few = (plain_facts _ c.self.invariant.0).few_tickets in rw (← c.self.view_is) ((λ _. omega arith), (λ _. refl))
