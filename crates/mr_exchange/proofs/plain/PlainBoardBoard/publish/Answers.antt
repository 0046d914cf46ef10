-- A publication puts the row in its slot.
use Rattle.std.proofs.Common.{sym, subst}
use Rattle.mr_exchange.specs.Board.{CanPublish}
use Rattle.mr_exchange.specs.Plain.{PlainIs, plain_holding}
use Rattle.mr_exchange.proofs.OneBoard.{own_slot, after_row, knows_row}
use Rattle.mr_exchange.proofs.plain.PlainBoardBoard.publish.Goals as goal

pub set-requires : goal.set-requires
set-requires c = own_slot _ c.self.invariant.0 c.args.slot c.args.row.now (subst (λ (p : PlainIs). CanPublish (plain_holding p) c.args.slot c.args.row.now) (sym c.self.view_is) c.requires)

pub invariant_of-self : goal.invariant_of-self
invariant_of-self c = let can = subst (λ (p : PlainIs). CanPublish (plain_holding p) c.args.slot c.args.row.now) (sym c.self.view_is) c.requires in (
  after_row _ c.self.invariant.0 c.args.slot c.args.row.now can c.set.new.self c.set.ensures,
  c.self.invariant.1,
  c.self.invariant.2,
)

pub returns-clause-moves : goal.returns-clause-moves
returns-clause-moves c = let can = subst (λ (p : PlainIs). CanPublish (plain_holding p) c.args.slot c.args.row.now) (sym c.self.view_is) c.requires in rw (← c.self.view_is) (knows_row _ c.self.invariant.0 c.args.slot c.args.row.now can c.set.new.self c.set.ensures)
