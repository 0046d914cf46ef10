-- Lists of which each two members are related, and the nodes of tickets.
use Rattle.std.proofs.Common.{◌≡◌, ◌≢◌, ℕ, ◌-◌, ◌<◌, ◌≤◌, List, [], ◌∷◌, ◌++◌, length, get_or, refl, sym, subst, ⊎_elim, arith, Contains}
use Rattle.std.specs.Prelude.{AllPairs}
use Rattle.std.proofs.lemmas.Bool.{cases_lt}
use Rattle.std.proofs.lemmas.List.{get_or_append_left, get_or-append_right, length-append}
use Rattle.std.proofs.lemmas.List.Elements.{Contains-get_or, Contains-append_left, Contains-append_right, Contains-append_cases}
use Rattle.mr_set.proofs.Ordered.{member_cases, member_none}
use Rattle.mr_exchange.specs.declared.ticket.Ticket.{Ticket}
use Rattle.mr_search.specs.Search.{AreNodes, IsOpened}
use Rattle.mr_search.specs.Private.Steps.{ticket_for}

module _ {X : Type 0} (R : X → X → Type 0) where
  -- no two members of the empty list are to be related
  pub pairs_none : AllPairs R []
  pairs_none i j d lt in_range = absurd (omega arith)

  -- nor of a list of one
  pub pairs_one : (x : X) → AllPairs R (x ∷ [])
  pairs_one x i j d lt in_range = absurd (omega arith)

  -- each two members are related where they are in each of two lists, and each of the first to each of the second
  pub pairs_append : (xs ys : List X) → AllPairs R xs → AllPairs R ys → ((x y : X) → Contains xs x → Contains ys y → R x y) → AllPairs R (xs ++ ys)
  pairs_append xs ys first second across i j d lt in_range = ⊎_elim
      (λ (low : j < length xs). (let low' : i < length xs = omega arith in
      subst (λ x. R x (get_or (xs ++ ys) j d)) (sym (get_or_append_left xs ys d i low')) (subst (R (get_or xs i d)) (sym (get_or_append_left xs ys d j low)) (first i j d lt low))))
      (λ (high : length xs ≤ j). (
      let back : j - length xs < length ys = omega (arith, length-append xs ys) in
      subst (R (get_or (xs ++ ys) i d)) (sym (get_or-append_right xs ys (length xs) j d refl high))
      (⊎_elim
      (λ (low : i < length xs). subst (λ x. R x (get_or ys (j - length xs) d)) (sym (get_or_append_left xs ys d i low)) (across (get_or xs i d) (get_or ys (j - length xs) d) (Contains-get_or xs i d low) (Contains-get_or ys (j - length xs) d back)))
      (λ (also : length xs ≤ i). subst (λ x. R x (get_or ys (j - length xs) d)) (sym (get_or-append_right xs ys (length xs) i d refl also)) (second (i - length xs) (j - length xs) d (omega arith) back))
      (cases_lt i (length xs)))))
      (cases_lt j (length xs))

-- a ticket is one of a list of one
pub one_ticket : (t u : Ticket) → Contains (t ∷ []) u → t ≡ u
one_ticket t u has = ⊎_elim (λ (same : t ≡ u). same) (λ (none : Contains [] u). absurd (member_none u none)) (member_cases t [] u has)

-- different nodes stay so where more that differ are added
pub nodes_append : (P : List ℕ → Type 0) (xs ys : List Ticket) → AreNodes P xs → AreNodes P ys → ((s t : Ticket) → Contains xs s → Contains ys t → s.node ≢ t.node) → AreNodes P (xs ++ ys)
nodes_append P xs ys first second apart = record {
  each = λ t has. ⊎_elim (λ (x : Contains xs t). first.each t x) (λ (y : Contains ys t). second.each t y) (Contains-append_cases xs ys t has);
  different = pairs_append (λ (s t : Ticket). s.node ≢ t.node) xs ys first.different second.different apart;
}

-- no nodes
pub nodes_none : (P : List ℕ → Type 0) → AreNodes P []
nodes_none P = record { each = λ t has. absurd (member_none t has); different = pairs_none (λ (s t : Ticket). s.node ≢ t.node) }

-- one node
pub nodes_one : (P : List ℕ → Type 0) (slot : ℕ) (node : List ℕ) → P node → AreNodes P (ticket_for slot node ∷ [])
nodes_one P slot node is = record {
  each = λ t has. subst (λ (u : Ticket). P u.node) (one_ticket (ticket_for slot node) t has) is;
  different = pairs_one (λ (s t : Ticket). s.node ≢ t.node) (ticket_for slot node);
}

-- what is weaker holds of them too
pub nodes_map : (P Q : List ℕ → Type 0) (xs : List Ticket) → ((a : List ℕ) → P a → Q a) → AreNodes P xs → AreNodes Q xs
nodes_map P Q xs weaker are = record { each = λ t has. weaker t.node (are.each t has); different = are.different }

-- what was opened is among more tickets
pub opened_left : (xs ys : List Ticket) (node : List ℕ) → IsOpened xs node → IsOpened (xs ++ ys) node
opened_left xs ys node was = record { ticket = was.ticket; among = Contains-append_left xs ys was.ticket was.among; is = was.is }

-- and also behind others
pub opened_right : (xs ys : List Ticket) (node : List ℕ) → IsOpened ys node → IsOpened (xs ++ ys) node
opened_right xs ys node was = record { ticket = was.ticket; among = Contains-append_right xs ys was.ticket was.among; is = was.is }
