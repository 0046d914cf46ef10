-- What a pass keeps of what it has and knows, call by call.
use Rattle.std.proofs.Common.{◌≡◌, ℕ, ◌+◌, List, [], ◌∷◌, ◌++◌, refl, sym, ap, subst, ◌∙◌, Contains, None}
use Rattle.std.proofs.lemmas.List.{append-nil, append_assoc}
use Rattle.std.proofs.lemmas.List.Elements.{Contains-append_left, Contains-append_right}
use Rattle.std.proofs.lemmas.Option.{none-some}
use Rattle.mr_set.proofs.Ordered.{member_first}
use Rattle.mr_nogood.specs.declared.row.Row.{Row}
use Rattle.mr_exchange.specs.declared.ticket.Ticket.{Ticket}
use Rattle.mr_exchange.specs.State.{slots_of}
use Rattle.mr_exchange.specs.Events.{with_row}
use Rattle.mr_exchange.specs.Board.{Holding, GainsTicket}
use Rattle.mr_exchange.proofs.Lookups.{slots_of-append}
use Rattle.mr_exchange.proofs.Rows.{row_else}
use Rattle.mr_search.specs.Search.{Keeps}
use Rattle.mr_search.specs.Private.Steps.{ticket_for}

-- a pass keeps all where nothing is done
pub keeps_all : (h : Holding) → Keeps h [] h
keeps_all h = record {
  frame = refl;
  problem = refl;
  cubes = refl;
  claim_ends = refl;
  tickets = sym (append-nil h.tickets);
  known = λ slot row is. is;
  own = λ slot own. refl;
}

-- a slot of the pass's own stays one
pub still_own : (xs ys zs : List Ticket) (slot : ℕ) → zs ≡ xs ++ ys → Contains (slots_of xs) slot → Contains (slots_of zs) slot
still_own xs ys zs slot is own = subst (λ l. Contains l slot) (sym (ap slots_of is ∙ slots_of-append xs ys)) (Contains-append_left (slots_of xs) (slots_of ys) slot own)

-- what is kept twice is kept
pub keeps_both : (a b c : Holding) (xs ys : List Ticket) → Keeps a xs b → Keeps b ys c → Keeps a (xs ++ ys) c
keeps_both a b c xs ys first second = record {
  frame = second.frame ∙ first.frame;
  problem = second.problem ∙ first.problem;
  cubes = second.cubes ∙ first.cubes;
  claim_ends = second.claim_ends ∙ first.claim_ends;
  tickets = second.tickets ∙ ap (λ l. l ++ ys) first.tickets ∙ append_assoc a.tickets xs ys;
  known = λ slot row is. second.known slot row (first.known slot row is);
  own = λ slot own. second.own slot (still_own a.tickets xs b.tickets slot first.tickets own) ∙ first.own slot own;
}

-- an opening that gains a ticket
pub keeps_opened : (h after : Holding) (node : List ℕ) (ticket : ℕ) → GainsTicket h node ticket after → Keeps h (ticket_for ticket node ∷ []) after
keeps_opened h after node ticket gains = subst (Keeps h (ticket_for ticket node ∷ [])) (sym gains.is) (record {
  frame = refl;
  problem = refl;
  cubes = refl;
  claim_ends = refl;
  tickets = refl;
  known = λ slot row is. is;
  own = λ slot own. refl;
})

-- an opening that gains none
pub keeps_told : (h after : Holding) → after ≡ record h { ticket_ends = h.ticket_ends + 1 } → Keeps h [] after
keeps_told h after is = subst (Keeps h []) (sym is) (record {
  frame = refl;
  problem = refl;
  cubes = refl;
  claim_ends = refl;
  tickets = sym (append-nil h.tickets);
  known = λ slot row known. known;
  own = λ slot own. refl;
})

-- the slot of a new ticket is the pass's own
pub new_own : (a b : Holding) (ticket : ℕ) (node : List ℕ) → Keeps a (ticket_for ticket node ∷ []) b → Contains (slots_of b.tickets) ticket
new_own a b ticket node keeps = subst (λ l. Contains l ticket) (sym (ap slots_of keeps.tickets ∙ slots_of-append a.tickets (ticket_for ticket node ∷ [])))
    (Contains-append_right (slots_of a.tickets) (ticket ∷ []) ticket (member_first ticket []))

-- a publication in a slot that was not the pass's own before
pub keeps_published : (a b c : Holding) (xs : List Ticket) (slot : ℕ) (row : Row) → Keeps a xs b → b.known slot ≡ None → ¬ (Contains (slots_of a.tickets) slot) → c ≡ record b { known = with_row b.known slot row } → Keeps a xs c
keeps_published a b c xs slot row keeps free new is = subst (Keeps a xs) (sym is) (record {
  frame = keeps.frame;
  problem = keeps.problem;
  cubes = keeps.cubes;
  claim_ends = keeps.claim_ends;
  tickets = keeps.tickets;
  known = λ other found there. row_else b.known slot other row (λ e. none-some found (sym free ∙ ap b.known (sym e) ∙ keeps.known other found there)) ∙ keeps.known other found there;
  own = λ other own. row_else b.known slot other row (λ e. new (subst (Contains (slots_of a.tickets)) e own)) ∙ keeps.own other own;
})
