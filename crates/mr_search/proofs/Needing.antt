-- How many nodes were opened, and how many there are.
use Rattle.std.proofs.Common.{◌≡◌, ◌≢◌, ℕ, zero, suc, ◌+◌, ◌<◌, ◌≤◌, List, [], ◌∷◌, length, take, map, get_or, refl, sym, ap, subst, ◌∙◌, ⊎_elim, arith, Contains}
use Rattle.std.specs.Prelude.{AllPairs}
use Rattle.std.proofs.lemmas.Bool.{cases_lt}
use Rattle.std.proofs.lemmas.List.{length-take, get_or-take}
use Rattle.mr_set.proofs.Ordered.{member_first, member_later, member_cases, member_none}
use Rattle.mr_exchange.specs.declared.ticket.Ticket.{Ticket}
use Rattle.mr_search.specs.Nodes.{HoldsOfMany, IsNumberOf}
use Rattle.mr_search.specs.Search.{AreNodes, IsOpened}
use Rattle.mr_search.specs.Private.Steps.{ticket_for}
use Rattle.mr_search.proofs.Listing.{pairs_one, pairs_append}

-- the nodes of tickets
abbrev nodes_of : List Ticket → List (List ℕ)
nodes_of tickets = map (λ (t : Ticket). t.node) tickets

-- there are as many
length-nodes_of : (tickets : List Ticket) → length (nodes_of tickets) ≡ length tickets
length-nodes_of [] = refl
length-nodes_of (t ∷ tickets) = ap suc (length-nodes_of tickets)

-- the node at a place is that of the ticket there
get_or-nodes_of : (tickets : List Ticket) (i : ℕ) (d : List ℕ) → get_or (nodes_of tickets) i d ≡ (get_or tickets i (ticket_for 0 d)).node
get_or-nodes_of [] i d = refl
get_or-nodes_of (t ∷ tickets) zero d = refl
get_or-nodes_of (t ∷ tickets) (suc i) d = get_or-nodes_of tickets i d

-- a node of theirs was opened
is_opened : (tickets : List Ticket) (a : List ℕ) → Contains (nodes_of tickets) a → IsOpened tickets a
is_opened [] a has = absurd (member_none a has)
is_opened (t ∷ tickets) a has = ⊎_elim
    (λ (same : t.node ≡ a). record { ticket = t; among = member_first t tickets; is = same })
    (λ (later : Contains (nodes_of tickets) a). (let was = is_opened tickets a later in record { ticket = was.ticket; among = member_later t tickets was.ticket was.among; is = was.is }))
    (member_cases t.node (nodes_of tickets) a has)

-- different nodes of tickets are different
different_nodes : (tickets : List Ticket) → AllPairs (λ (s t : Ticket). s.node ≢ t.node) tickets → AllPairs (λ (a b : List ℕ). a ≢ b) (nodes_of tickets)
different_nodes tickets apart i j d lt in_range same =
    let within : j < length tickets = omega (arith, length-nodes_of tickets) in
    apart i j (ticket_for 0 d) lt within (sym (get_or-nodes_of tickets i d) ∙ same ∙ get_or-nodes_of tickets j d)

-- so P holds of as many assignments as there are tickets
pub many_nodes : (P : List ℕ → Type 0) (tickets : List Ticket) → AreNodes P tickets → HoldsOfMany P (length tickets)
many_nodes P tickets are = record {
  members = nodes_of tickets;
  different = different_nodes tickets are.different;
  each = λ a has. (let was = is_opened tickets a has in subst P was.is (are.each was.ticket was.among));
  count = length-nodes_of tickets;
}

-- and of one more, where there is one that was not opened
pub one_more_node : (P : List ℕ → Type 0) (tickets : List Ticket) (further : List ℕ) → AreNodes P tickets → P further → ¬ (IsOpened tickets further) → HoldsOfMany P (length tickets + 1)
one_more_node P tickets further are is apart = record {
  members = further ∷ nodes_of tickets;
  different = pairs_append (λ (a b : List ℕ). a ≢ b) (further ∷ []) (nodes_of tickets) (pairs_one (λ (a b : List ℕ). a ≢ b) further) (different_nodes tickets are.different) (λ a b first later same. ⊎_elim
      (λ (here : further ≡ a). apart (is_opened tickets further (subst (Contains (nodes_of tickets)) (sym (here ∙ same)) later)))
      (λ (none : Contains [] a). member_none a none)
      (member_cases further [] a first));
  each = λ a has. ⊎_elim
      (λ (here : further ≡ a). subst P here is)
      (λ (later : Contains (nodes_of tickets) a). (let was = is_opened tickets a later in subst P was.is (are.each was.ticket was.among)))
      (member_cases further (nodes_of tickets) a has);
  count = (let long = length-nodes_of tickets in omega arith);
}

-- where P holds of many assignments it holds of fewer
fewer : (P : List ℕ → Type 0) (m n : ℕ) → n ≤ m → HoldsOfMany P m → HoldsOfMany P n
fewer P m n le many =
    let count = many.count in
    let long : length (take n many.members) ≡ n = omega (arith, length-take n many.members) in record {
      members = take n many.members;
      different = λ i j d lt in_range. (
          let high : j < n = omega arith in
          let low : i < n = omega arith in
          let within : j < length many.members = omega arith in
          subst (λ a. a ≢ get_or (take n many.members) j d) (sym (get_or-take n many.members i d low)) (subst (λ b. get_or many.members i d ≢ b) (sym (get_or-take n many.members j d high)) (many.different i j d lt within)));
      each = λ a has. (let at = has.1 in let low : has.0 < n = omega arith in let within : has.0 < length many.members = omega arith in
          many.each a (has.0, within, sym (get_or-take n many.members has.0 a low) ∙ has.2));
      count = long;
    }

-- so of no more than their number
pub at_most : (P : List ℕ → Type 0) (m n : ℕ) → HoldsOfMany P m → IsNumberOf P n → m ≤ n
at_most P m n many number = ⊎_elim (λ (lt : n < m). absurd (number.1 (fewer P m (n + 1) (omega arith) many))) (λ (le : m ≤ n). le) (cases_lt n m)
