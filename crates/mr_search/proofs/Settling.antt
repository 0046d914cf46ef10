-- Nodes that are settled stay so, and an answer settles its node.
use Rattle.std.proofs.Common.{◌≡◌, ◌≢◌, ℕ, List, [], ◌∷◌, ◌++◌, length-append, refl, sym, ap, subst, ◌∙◌, get_or, set, inl, inr, ⊎_elim, arith, Contains, Option, Some}
use Rattle.std.proofs.lemmas.List.Elements.{Contains-append_left, Contains-append_right, Contains-append_cases}
use Rattle.mr_set.proofs.Ordered.{member_first}
use Rattle.mr_frame.specs.Frame.{Framed}
use Rattle.mr_frame.specs.Test.{SetFails}
use Rattle.mr_frame.specs.Completion.{IsCompletion}
use Rattle.mr_nogood.specs.Follows.{Rows}
use Rattle.mr_nogood.specs.declared.row.Cite.{Cite}
use Rattle.mr_nogood.specs.declared.row.Cite.TheVariants.{Nothing, Test, Slot}
use Rattle.mr_nogood.specs.declared.row.Row.{Row}
use Rattle.mr_exchange.specs.declared.answer.CubeAnswer.TheVariants.{Refuted}
use Rattle.mr_exchange.specs.declared.ticket.Ticket.{Ticket}
use Rattle.mr_exchange.specs.Right.{IsRight}
use Rattle.mr_exchange.specs.Cubes.{IsCube}
use Rattle.mr_exchange.specs.Events.{with_row}
use Rattle.mr_exchange.specs.Board.{Holding}
use Rattle.mr_exchange.proofs.Rows.{row_else}
use Rattle.mr_propagate.specs.Index.{NothingInside}
use Rattle.std.proofs.lemmas.Bool.{cases_eq}
use Rattle.mr_search.specs.declared.outcome.Outcome.{Outcome}
use Rattle.mr_search.specs.declared.outcome.Outcome.TheVariants.{Completed, Excluded, Deduced}
use Rattle.mr_search.specs.Search.{HasKnownClause, HasOpenedCompletion, IsSettled, AreSettled}
use Rattle.mr_search.specs.Private.Steps.{IsInside, IsOutcome, IsOnlyInside, Answered}
use Rattle.mr_search.specs.Private.Citing.{HasValueAt}
use Rattle.mr_search.proofs.Children.{part_trans, child_part, next_free}
use Rattle.mr_search.proofs.Listing.{opened_right}

-- each of these rows is one of those
abbrev pub AreKept : Rows → Rows → Type 0
AreKept known more = (slot : ℕ) (row : Row) → known slot ≡ Some row → more slot ≡ Some row

-- each of these tickets is one of those
abbrev pub AreAmong : List Ticket → List Ticket → Type 0
AreAmong xs ys = (t : Ticket) → Contains xs t → Contains ys t

-- with more rows and more tickets a node is still settled
pub settled_more : (f : Framed) (known more : Rows) (xs ys : List Ticket) (node : List ℕ) → AreKept known more → AreAmong xs ys → IsSettled f known xs node → IsSettled f more ys node
settled_more f known more xs ys node kept among = ⊎_elim
    (λ (clause : HasKnownClause known node). inl (record { slot = clause.slot; row = clause.row; there = kept clause.slot clause.row clause.there; inside = clause.inside }))
    (λ (done : HasOpenedCompletion f xs node). inr (record { ticket = done.ticket; among = among done.ticket done.among; completes = done.completes }))

-- where two lists of tickets are settled, so is the one behind the other
pub settled_both : (f : Framed) (known more : Rows) (xs ys : List Ticket) → AreKept known more → AreSettled f known xs → AreSettled f more ys → AreSettled f more (xs ++ ys)
settled_both f known more xs ys kept first second t has = ⊎_elim
    (λ (x : Contains xs t). settled_more f known more xs (xs ++ ys) t.node kept (λ u. Contains-append_left xs ys u) (first t x))
    (λ (y : Contains ys t). settled_more f more more ys (xs ++ ys) t.node (λ slot row is. is) (λ u. Contains-append_right xs ys u) (second t y))
    (Contains-append_cases xs ys t has)

-- a refuted map stays refuted
pub right_more : (f : Framed) (known more : Rows) (a : List ℕ) (cite : Cite) → AreKept known more → IsRight f known a (Refuted cite) → IsRight f more a (Refuted cite)
right_more f known more a Nothing kept right = right
right_more f known more a (Test x) kept right = right
right_more f known more a (Slot s) kept (row, there, inside) = (row, kept s row there, inside)

-- a list that isn't empty has a member
pub some_member : {X : Type 0} (xs : List X) → xs ≢ [] → (x : X) × Contains xs x
some_member [] some = absurd (some refl)
some_member (x ∷ xs) some = (x, member_first x xs)

-- a node of which something was found is settled, where no set fails under it
pub outcome_settles : (f : Framed) (known : Rows) (a : List ℕ) (opened : List Ticket) (old new : List (List ℕ)) (outcome : Outcome) → ((x : List ℕ) → ¬ (SetFails f a x)) → IsOutcome f known a opened old new outcome → IsSettled f known opened a
outcome_settles f known a opened old new Completed holds found =
    let c = some_member found.completions found.some in
    let was = found.each c.0 c.1 in
    inr (record { ticket = was.ticket; among = was.among; completes = subst (IsCompletion f a) (sym was.is) ((found.are.exactly c.0).0 c.1) })
outcome_settles f known a opened old new (Excluded Nothing) holds found = absurd found.1
outcome_settles f known a opened old new (Excluded (Test x)) holds found = absurd (holds x found.1)
outcome_settles f known a opened old new (Excluded (Slot s)) holds found = let named = found.1 in inl (record { slot = s; row = named.0; there = named.1; inside = named.2 })
outcome_settles f known a opened old new (Deduced s) holds found = let named = found.1 in inl (record { slot = s; row = named.0; there = named.1; inside = named.2 })

-- what was found was opened among more tickets too
pub outcome_more : (f : Framed) (known : Rows) (a : List ℕ) (xs ys : List Ticket) (old new : List (List ℕ)) (outcome : Outcome) → IsOutcome f known a ys old new outcome → IsOutcome f known a (xs ++ ys) old new outcome
outcome_more f known a xs ys old new Completed found = record {
  completions = found.completions;
  is = found.is;
  some = found.some;
  are = found.are;
  each = λ c has. opened_right xs ys c (found.each c has);
  few = (let few = found.few in omega (arith, length-append xs ys));
}
outcome_more f known a xs ys old new (Excluded cite) found = found
outcome_more f known a xs ys old new (Deduced slot) found = found

-- a node that its own row refutes has that row's slot for a cite
pub answered_by_row : (f : Framed) (before after : Holding) (index : List (Option Row)) (a : List ℕ) (low : ℕ) (old new : List (List ℕ)) (slot : ℕ) → Answered f before after index a low old new (Deduced slot) → Answered f before after index a low old new (Excluded (Slot slot))
answered_by_row f before after index a low old new slot answered = record {
  opened = answered.opened;
  keeps = answered.keeps;
  nodes = answered.nodes;
  stands = answered.stands;
  settled = answered.settled;
  outcome_is = (answered.outcome_is.0, answered.outcome_is.1);
}

-- a row that is added where none had its clause in the node is the only one
pub only_added : (known : Rows) (slot : ℕ) (row : Row) (node : List ℕ) → NothingInside known node → IsOnlyInside (with_row known slot row) node slot
only_added known slot row node none s other is inside = ⊎_elim (λ (same : s ≡ slot). same) (λ (apart : s ≢ slot). absurd (none s other (sym (row_else known slot s row apart) ∙ is) inside)) (cases_eq s slot)

-- where that row has a value at p, none has its clause in the node without that value
pub nothing_beside : (known : Rows) (f : Framed) (node : List ℕ) (p v slot : ℕ) → IsCube f p node → IsOnlyInside known (set node p v) slot → HasValueAt known slot p → NothingInside known node
nothing_beside known f node p v slot values only has s row is inside =
    let same = only s row is (part_trans row.clause node (set node p v) inside (child_part f node p values v)) in
    let one : Some row ≡ Some has.row = sym is ∙ ap known same ∙ has.there in
    let clause : get_or row.clause p 0 ≡ get_or has.row.clause p 0 = (let rows : row ≡ has.row = cc in ap (λ (r : Row). get_or r.clause p 0) rows) in
    has.some (sym clause ∙ (sym (inside p (λ none. has.some (sym clause ∙ none))) ∙ next_free f node p values))

-- a slot with its row inside refutes
pub inside_right : (f : Framed) (known : Rows) (a : List ℕ) (s : ℕ) → IsInside known a s → IsRight f known a (Refuted (Slot s))
inside_right f known a s inside = (inside.row, inside.has, inside.inside)
