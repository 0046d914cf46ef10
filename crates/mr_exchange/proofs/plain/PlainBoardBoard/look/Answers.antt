-- A look shows what the slot at the cursor has.
use Rattle.std.proofs.Common.{◌≢◌, [], sym, subst, arith}
use Rattle.mr_exchange.specs.Plain.{PlainIs}
use Rattle.mr_exchange.proofs.OneBoard.{after_look, sees, cursor_low, looks_low}
use Rattle.mr_exchange.proofs.Looks.{shows_empty, shows_long}
use Rattle.mr_exchange.proofs.plain.PlainBoardBoard.look.Goals as goal

pub one_more_look-self-inside-requires : goal.one_more_look-self-inside-requires
one_more_look-self-inside-requires c = let low = looks_low _ c.self.invariant.0 in record { nodes = low.0; looks = low.1 }

pub next_slot-self-inside-requires : goal.next_slot-self-inside-requires
next_slot-self-inside-requires c = cursor_low _ c.self.invariant.0 (subst (λ (p : PlainIs). p.tickets ≢ []) (sym c.self.view_is) c.requires) c.len.result (omega arith)

pub invariant_of-self : goal.invariant_of-self
invariant_of-self c = let some = subst (λ (p : PlainIs). p.tickets ≢ []) (sym c.self.view_is) c.requires in (
  after_look _ c.self.invariant.0 some _ c.row-found.ensures _ _ _ _ c.one_more_look-self-inside.ensures c.head_at-head.ensures.head (omega arith) c.next_slot-self-inside.ensures,
  c.self.invariant.1,
  c.self.invariant.2,
)

pub returns-clause-moves : goal.returns-clause-moves
returns-clause-moves c = let some = subst (λ (p : PlainIs). p.tickets ≢ []) (sym c.self.view_is) c.requires in
    rw (← c.self.view_is) (sees _ c.self.invariant.0 some _ c.row-found.ensures _ _ _ _ c.one_more_look-self-inside.ensures c.head_at-head.ensures.head (omega arith) c.next_slot-self-inside.ensures c.seen.result c.seen.ensures)

pub returns-clause-empty : goal.returns-clause-empty
returns-clause-empty c = shows_empty c.self.inside.cursor _ c.seen.result c.head_at-head.result c.seen.ensures c.head_at-head.ensures.head

pub returns-clause-long : goal.returns-clause-long
returns-clause-long c = shows_long c.self.inside.cursor _ c.head_at-head.ensures.row c.seen.result c.head_at-head.result c.seen.ensures c.head_at-head.ensures.head
