-- the rows that were copied are those that the pass knows
use Rattle.std.proofs.Common.{List, Contains, sym, ap, ◌∙◌, subst}
use Rattle.mr_nogood.specs.Follows.{in_slots, Rows, Follows}
use Rattle.mr_exchange.specs.declared.ticket.Ticket.{Ticket}
use Rattle.mr_exchange.specs.State.{Pass, slots_of}
use Rattle.mr_exchange.specs.Rank.{HasLeastRank}
use Rattle.mr_exchange.specs.Private.Deciding.{only}
use Rattle.mr_exchange.proofs.state.allowed.may_fill.Goals as goal

pub returns : goal.returns
returns c =
    let tickets = c.deref.ensures.value ∙ ap (λ (p : Pass). p.tickets) c.pass.view_is in
    let known = c.in_ok-known.ensures ∙ ap (only (in_slots c.args.slots.now)) (c.deref-2.ensures.value ∙ ap (λ (p : Pass). p.known) c.pass.view_is) in
    let rows = ap in_slots c.deref-3.ensures.value ∙ known in
    let again = ap in_slots c.deref-4.ensures.value ∙ known in (
      (λ t. record {
        own = subst (λ (xs : List Ticket). Contains (slots_of xs) c.args.slot) tickets (c.has_slot.ensures.0 c.if-not-has_slot.false);
        empty = c.is_free.ensures.0 c.if-not-is_free.false;
        follows = subst (λ (f : Rows). Follows c.args.frame.now f c.args.row.now) rows (c.follows.ensures.0 c.if-not-follows.false);
        rank = subst (λ (f : Rows). HasLeastRank f c.args.row.now) again (c.has_least_rank.ensures.0 t);
      }),
      λ may. c.has_least_rank.ensures.1 (subst (λ (f : Rows). HasLeastRank f c.args.row.now) (sym again) may.rank),
    )
