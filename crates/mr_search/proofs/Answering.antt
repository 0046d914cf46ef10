-- A node that was opened: what is found of it is its own answer.
use Rattle.std.proofs.Common.{◌≡◌, ◌≢◌, ℕ, ◌+◌, ◌<◌, List, [], ◌∷◌, ◌++◌, length, refl, sym, ap, subst, ◌∙◌, inl, inr, ⊎_elim, arith, Contains, Option, Some, None}
use Rattle.std.specs.List.Sorted.{IsStrictlySortedBy}
use Rattle.std.proofs.lemmas.List.{append-nil, ext_get_or}
use Rattle.mr_set.proofs.Ordered.{member_first, member_later, member_cases, member_none}
use Rattle.mr_assign.specs.Assign.{IsPartOf}
use Rattle.mr_frame.specs.Frame.{Framed}
use Rattle.mr_frame.specs.Completion.{IsCompletion}
use Rattle.mr_nogood.specs.declared.row.Cite.TheVariants.{Slot}
use Rattle.mr_nogood.specs.declared.row.Cite.{Cite}
use Rattle.mr_nogood.specs.declared.row.Row.{Row}
use Rattle.mr_exchange.specs.declared.ticket.Ticket.{Ticket}
use Rattle.mr_exchange.specs.Cubes.{IsCube}
use Rattle.mr_exchange.specs.State.{slots_of}
use Rattle.mr_exchange.specs.Board.{Holding, GainsTicket}
use Rattle.mr_exchange.proofs.Rows.{row_here, among_more}
use Rattle.mr_search.specs.declared.outcome.Outcome.{Outcome}
use Rattle.mr_search.specs.declared.outcome.Outcome.TheVariants.{Completed, Excluded, Deduced}
use Rattle.mr_search.specs.declared.outcome.SearchStop.{SearchStop}
use Rattle.mr_search.specs.declared.outcome.SearchStop.TheVariants.{Over, Memory}
use Rattle.mr_search.specs.Nodes.{IsNodeUnder}
use Rattle.mr_search.specs.Search.{Keeps, AreNodes, IsSettled, AreSettled}
use Rattle.mr_search.specs.Private.Steps.{IsInside, CanSearch, Stands, Opens, IsOutcome, Answered, Stopped, EndsBy, Exhausted, ticket_for}
use Rattle.mr_search.specs.Private.Citing.{AreCites, Publishes}
use Rattle.mr_search.proofs.Listing.{pairs_none, pairs_one, pairs_append, one_ticket, nodes_append, nodes_none, nodes_one, nodes_map}
use Rattle.mr_search.proofs.Keeping.{keeps_both, keeps_opened, keeps_told, keeps_published, still_own, new_own}
use Rattle.mr_search.proofs.Children.{part_refl, next_place, under_itself, under_differs, under_fewer}
use Rattle.mr_search.proofs.Completing.{full_completion, full_only}
use Rattle.mr_search.proofs.Settling.{AreKept, settled_more, outcome_settles, outcome_more, inside_right, only_added}

module _ (before : Holding) (old_index : List (Option Row)) (node : List ℕ) (p : ℕ) (can : CanSearch before old_index node p) where
  -- the node's own ticket and those of nodes with more values
  nodes_first : (ticket : ℕ) (opened : List Ticket) → AreNodes (IsNodeUnder before.frame node (p + 1)) opened → AreNodes (IsNodeUnder before.frame node p) (ticket_for ticket node ∷ opened)
  nodes_first ticket opened nodes = nodes_append (IsNodeUnder before.frame node p) (ticket_for ticket node ∷ []) opened
      (nodes_one (IsNodeUnder before.frame node p) ticket node (under_itself before.frame node p can.values can.holds))
      (nodes_map (IsNodeUnder before.frame node (p + 1)) (IsNodeUnder before.frame node p) opened (λ a under. under_fewer before.frame node p a under) nodes)
      (λ s t in_first in_second. (let same = one_ticket (ticket_for ticket node) s in_first in subst (λ (u : Ticket). u.node ≢ t.node) same (under_differs before.frame node p can.values t.node (nodes.each t in_second))))

  -- the answer for the node
  answer : (after : Holding) (index : List (Option Row)) (old new : List (List ℕ)) (ticket : ℕ) (opened : List Ticket) (outcome : Outcome) → Keeps before (ticket_for ticket node ∷ opened) after → AreNodes (IsNodeUnder before.frame node (p + 1)) opened → Stands after index → AreSettled before.frame after.known opened
      → IsOutcome before.frame after.known node (ticket_for ticket node ∷ opened) old new outcome → Answered before.frame before after index node p old new outcome
  answer after index old new ticket opened outcome keeps nodes stands settled found =
      let all = ticket_for ticket node ∷ opened in
      let own = outcome_settles before.frame after.known node all old new outcome can.holds found in record {
        opened = all;
        keeps = keeps;
        nodes = nodes_first ticket opened nodes;
        stands = stands;
        settled = λ t has. ⊎_elim
            (λ (same : ticket_for ticket node ≡ t). subst (λ (u : Ticket). IsSettled before.frame after.known all u.node) same own)
            (λ (later : Contains opened t). settled_more before.frame after.known after.known opened all t.node (λ slot row is. is) (λ u there. member_later (ticket_for ticket node) opened u there) (settled t later))
            (member_cases (ticket_for ticket node) opened t has);
        outcome_is = found;
      }

  module _ (mid : Holding) (mid_index : List (Option Row)) (ticket : ℕ) (opens : Opens before mid mid_index node ticket) where
    -- a known row has its clause in the node
    pub answers_inside : (old : List (List ℕ)) (slot : ℕ) → IsInside mid.known node slot → Answered before.frame before mid mid_index node p old old (Excluded (Slot slot))
    answers_inside old slot inside = answer mid mid_index old old ticket [] (Excluded (Slot slot)) opens.keeps (nodes_none (IsNodeUnder before.frame node (p + 1))) opens.stands (λ t has. absurd (member_none t has)) (refl, inside_right before.frame mid.known node slot inside)

    -- each position has a value
    pub answers_full : (old new : List (List ℕ)) → p ≡ length before.frame.places → new ≡ old ++ node ∷ [] → Answered before.frame before mid mid_index node p old new Completed
    unfolding IsStrictlySortedBy
    answers_full old new all is = answer mid mid_index old new ticket [] Completed opens.keeps (nodes_none (IsNodeUnder before.frame node (p + 1))) opens.stands (λ t has. absurd (member_none t has)) (record {
      completions = node ∷ [];
      is = is;
      some = λ none. cc;
      are = record {
        increasing = (tt, tt);
        exactly = λ c. (
          (λ (has : Contains (node ∷ []) c). ⊎_elim (λ (same : node ≡ c). subst (IsCompletion before.frame node) same (full_completion before.frame node p can.values all can.holds)) (λ (none : Contains [] c). absurd (member_none c none)) (member_cases node [] c has)),
          λ (done : IsCompletion before.frame node c). (let same : c ≡ node = ext_get_or 0 c node (done.map.positions ∙ sym can.values.map.positions) (λ i lt. full_only before.frame node p c can.values all done i) in subst (Contains (node ∷ [])) (sym same) (member_first node [])),
        );
      };
      each = λ c has. ⊎_elim (λ (same : node ≡ c). record { ticket = ticket_for ticket node; among = member_first (ticket_for ticket node) []; is = same }) (λ (none : Contains [] c). absurd (member_none c none)) (member_cases node [] c has);
      few = omega arith;
    })

    -- values at the next position were tried
    pub answers_by_values : (after : Holding) (index : List (Option Row)) (old new : List (List ℕ)) (outcome : Outcome) → Answered mid.frame mid after index node (p + 1) old new outcome → Answered before.frame before after index node p old new outcome
    answers_by_values after index old new outcome given =
        let answered = subst (λ f. Answered f mid after index node (p + 1) old new outcome) opens.keeps.frame given in
        answer after index old new ticket answered.opened outcome (keeps_both before mid after (ticket_for ticket node ∷ []) answered.opened opens.keeps answered.keeps) answered.nodes answered.stands answered.settled
        (outcome_more before.frame after.known node (ticket_for ticket node ∷ []) answered.opened old new outcome answered.outcome_is)

    -- how a stop among the values ends the node
    ends_by : (after : Holding) (stop : SearchStop) (opened : List Ticket) → EndsBy after before.frame node (p + 1) opened stop → AreNodes (IsNodeUnder before.frame node (p + 1)) opened → EndsBy after before.frame node p (ticket_for ticket node ∷ opened) stop
    ends_by after Memory opened ends nodes = tt
    ends_by after Over opened out nodes = record {
      told = out.told;
      chain = node ∷ out.chain;
      nested = pairs_append IsPartOf (node ∷ []) out.chain (pairs_one IsPartOf node) out.nested (λ a b first later. ⊎_elim (λ (same : node ≡ a). subst (λ c. IsPartOf c b) same (out.under b later)) (λ (none : Contains [] a). absurd (member_none a none)) (member_cases node [] a first));
      under = λ b has. ⊎_elim (λ (same : node ≡ b). subst (IsPartOf node) same (part_refl node)) (λ (later : Contains out.chain b). out.under b later) (member_cases node out.chain b has);
      each = λ t has. ⊎_elim
          (λ (same : ticket_for ticket node ≡ t). inr (subst (λ (u : Ticket). Contains (node ∷ out.chain) u.node) same (member_first node out.chain)))
          (λ (later : Contains opened t). ⊎_elim
          (λ (settled : IsSettled before.frame after.known opened t.node). inl (settled_more before.frame after.known after.known opened (ticket_for ticket node ∷ opened) t.node (λ slot row is. is) (λ u there. member_later (ticket_for ticket node) opened u there) settled))
          (λ (chained : Contains out.chain t.node). inr (member_later node out.chain t.node chained))
          (out.each t later))
          (member_cases (ticket_for ticket node) opened t has);
      further = out.further;
      is_node = under_fewer before.frame node p out.further out.is_node;
      not_opened = λ was. ⊎_elim
          (λ (same : ticket_for ticket node ≡ was.ticket). under_differs before.frame node p can.values out.further out.is_node (ap (λ (u : Ticket). u.node) same ∙ was.is))
          (λ (later : Contains opened was.ticket). out.not_opened (record { ticket = was.ticket; among = later; is = was.is }))
          (member_cases (ticket_for ticket node) opened was.ticket was.among);
    }

    -- a stop among the values
    pub stops_by_values : (after : Holding) (stop : SearchStop) → Stopped mid.frame mid after node (p + 1) stop → Stopped before.frame before after node p stop
    stops_by_values after stop given =
        let stopped = subst (λ f. Stopped f mid after node (p + 1) stop) opens.keeps.frame given in record {
          opened = ticket_for ticket node ∷ stopped.opened;
          keeps = keeps_both before mid after (ticket_for ticket node ∷ []) stopped.opened opens.keeps stopped.keeps;
          nodes = nodes_first ticket stopped.opened stopped.nodes;
          ends = ends_by after stop stopped.opened stopped.ends stopped.nodes;
        }

    -- no memory after the opening
    pub stops_opened : Stopped before.frame before mid node p Memory
    stops_opened = record { opened = ticket_for ticket node ∷ []; keeps = opens.keeps; nodes = nodes_first ticket [] (nodes_none (IsNodeUnder before.frame node (p + 1))); ends = tt }

    module _ (tried : Holding) (tried_index : List (Option Row)) (old new : List (List ℕ)) (cites : List Cite) (exhausted : Exhausted mid.frame mid tried tried_index node p old new cites) where
      -- the slot is still the pass's own
      pub tried_own : Contains (slots_of tried.tickets) ticket
      tried_own = still_own mid.tickets exhausted.through.opened tried.tickets ticket exhausted.through.keeps.tickets (new_own before mid ticket node opens.keeps)

      -- and the pass knows no row in it
      pub tried_unknown : tried.known ticket ≡ None
      tried_unknown = exhausted.through.keeps.own ticket (new_own before mid ticket node opens.keeps) ∙ opens.unknown

      -- it is the same frame
      tried_frame : tried.frame ≡ before.frame
      tried_frame = exhausted.through.keeps.frame ∙ opens.keeps.frame

      -- the node's positions have values
      pub tried_values : IsCube tried.frame p node
      tried_values = subst (λ f. IsCube f p node) (sym tried_frame) can.values

      -- the next one is free
      pub tried_place : p ≢ length mid.frame.places → p < length tried.frame.places
      tried_place other = subst (λ (f : Framed). p < length f.places) (sym exhausted.through.keeps.frame) (next_place mid.frame node p (subst (λ f. IsCube f p node) (sym opens.keeps.frame) can.values) other)

      -- each value has a cite
      pub tried_cites : AreCites tried.frame tried.known node p cites
      tried_cites = subst (λ f. AreCites f tried.known node p cites) (sym exhausted.through.keeps.frame) (record { each = λ k lt. exhausted.through.cited exhausted.none k lt; others = exhausted.through.others })

      -- what is kept when the row is published
      kept : (after : Holding) → Publishes tried ticket node after → Keeps before (ticket_for ticket node ∷ exhausted.through.opened) after
      kept after published = keeps_published before tried after (ticket_for ticket node ∷ exhausted.through.opened) ticket published.row
          (keeps_both before mid tried (ticket_for ticket node ∷ []) exhausted.through.opened opens.keeps exhausted.through.keeps) tried_unknown opens.fresh published.is

      -- the nodes with more values
      tried_nodes : AreNodes (IsNodeUnder before.frame node (p + 1)) exhausted.through.opened
      tried_nodes = subst (λ f. AreNodes (IsNodeUnder f node (p + 1)) exhausted.through.opened) opens.keeps.frame exhausted.through.nodes

      -- the node's own row refutes it
      pub answers_published : (after : Holding) (index : List (Option Row)) → Publishes tried ticket node after → Stands after index → Answered before.frame before after index node p old new (Deduced ticket)
      answers_published after index published stands =
          let through = exhausted.through in
          let there : after.known ticket ≡ Some published.row = ap (λ (h : Holding). h.known ticket) published.is ∙ row_here tried.known ticket published.row in
          let grown : AreKept tried.known after.known = λ slot row is. ap (λ (h : Holding). h.known slot) published.is ∙ among_more tried.known ticket published.row tried_unknown slot row is in
          answer after index old new ticket through.opened (Deduced ticket) (kept after published) tried_nodes stands
          (λ t has. settled_more before.frame tried.known after.known through.opened through.opened t.node grown (λ u among. among) (subst (λ f. IsSettled f tried.known through.opened t.node) opens.keeps.frame (through.settled t has)))
          (through.is ∙ ap (λ l. old ++ l) exhausted.none ∙ append-nil old, (published.row, there, published.inside), λ s row is inside. only_added tried.known ticket published.row node through.nothing s row (sym (ap (λ (h : Holding). h.known s) published.is) ∙ is) inside)

      -- no memory for it
      pub stops_published : (after : Holding) → Publishes tried ticket node after → Stopped before.frame before after node p Memory
      stops_published after published = record { opened = ticket_for ticket node ∷ exhausted.through.opened; keeps = kept after published; nodes = nodes_first ticket exhausted.through.opened tried_nodes; ends = tt }

  -- the pass was told that no ticket is left
  pub stops_over : (after : Holding) → after ≡ record before { ticket_ends = before.ticket_ends + 1 } → Stopped before.frame before after node p Over
  stops_over after is = record {
    opened = [];
    keeps = keeps_told before after is;
    nodes = nodes_none (IsNodeUnder before.frame node p);
    ends = record {
      told = (let same = ap (λ (h : Holding). h.ticket_ends) is in omega arith);
      chain = [];
      nested = pairs_none IsPartOf;
      under = λ b has. absurd (member_none b has);
      each = λ t has. absurd (member_none t has);
      further = node;
      is_node = under_itself before.frame node p can.values can.holds;
      not_opened = λ was. member_none was.ticket was.among;
    };
  }

  -- there was no memory for what a look showed
  pub stops_looking : (mid after : Holding) (ticket : ℕ) → GainsTicket before node ticket mid → Keeps mid [] after → Stopped before.frame before after node p Memory
  stops_looking mid after ticket gains keeps = record {
    opened = ticket_for ticket node ∷ [];
    keeps = keeps_both before mid after (ticket_for ticket node ∷ []) [] (keeps_opened before mid node ticket gains) keeps;
    nodes = nodes_first ticket [] (nodes_none (IsNodeUnder before.frame node (p + 1)));
    ends = tt;
  }
