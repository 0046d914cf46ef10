-- What the first pass has once it joined another.
use Rattle.std.proofs.Common.{◌≡◌, ◌≢◌, ℕ, zero, suc, ◌+◌, ◌<◌, ◌≤◌, ◌==◌, List, [], ◌∷◌, ◌++◌, length, length-append, map, refl, sym, ap, subst, ◌∙◌, ◌⊎◌, inl, inr, ⊎_elim, arith, Contains, Option, Some, None}
use Rattle.std.specs.Prelude.{slice_get, sum_by, count_by, replicate, All, ◌↔◌, is_some, true, false}
use Rattle.std.proofs.lemmas.Bool.{false≢true}
use Rattle.std.proofs.lemmas.List.{map-append, length-replicate}
use Rattle.std.proofs.lemmas.Option.{none-some}
use Rattle.mr_frame.specs.Frame.{Framed, IsFrame}
use Rattle.mr_nogood.specs.declared.row.Row.{Row}
use Rattle.mr_exchange.specs.declared.problem.Problem.{Problem}
use Rattle.mr_exchange.specs.declared.ticket.Ticket.{Ticket}
use Rattle.mr_exchange.specs.declared.answer.CubeAnswer.{CubeAnswer}
use Rattle.mr_exchange.specs.Cubes.{cube_count, IsProblemOf}
use Rattle.mr_exchange.specs.Board.{Holding}
use Rattle.mr_search.specs.Nodes.{HoldsOfMany}
use Rattle.mr_search.specs.Search.{AreNodes}
use Rattle.mr_search.specs.Laws.{AreShared}
use Rattle.mr_search.proofs.Needing.{many_nodes}
use Rattle.mr_search.proofs.Sharing.{cubes_share_the_nodes}
use Rattle.mr_search.proofs.Clauses.{cubes_of as cubes_of_problem}
use Rattle.mr_store.specs.Cards.{StoreIs, CardIs, Mark, store_of, mark_of, held_by, HoldingFacts, CardFacts}
use Rattle.mr_pool.specs.declared.answered.Answered.{Answered}
use Rattle.mr_pool.specs.declared.desk.Desk.{Desk}
use Rattle.mr_pool.specs.declared.gather.Gathered.{Gathered}
use Rattle.mr_pool.specs.declared.workers.WorkStop.{WorkStop}
use Rattle.mr_pool.specs.declared.workers.WorkStop.TheVariants.{Over, Memory}
use Rattle.mr_pool.specs.Answers.{number_found}
use Rattle.mr_pool.specs.Private.Answers.{IsNodeOfOne, HasAnswered}
use Rattle.mr_pool.specs.Private.Lists.{cubes_of, answers_of, HasListed, with_answers}
use Rattle.mr_pool.specs.Private.Desks.{HasCard, IsWanting, HasEnded, IsDoneCard, IsEmptyRow, IsRowOf, HasGathered, worse_of}
use Rattle.mr_pool.proofs.Serving.{few_split}
use Rattle.mr_pool.proofs.Joining.{joined_nodes, joined_many, joined}
use Rattle.mr_pool.proofs.Listing.{all_low, row_all, row_empty, length-with_answers}

-- what the first pass has and knows, once it joined the other
pub record IsJoined (h k l : Holding) : Type 0 where
  pub frame : l.frame ≡ h.frame
  pub problem : l.problem ≡ h.problem
  pub other_frame : k.frame ≡ h.frame
  pub other_problem : k.problem ≡ h.problem
  pub cubes : l.cubes ≡ h.cubes ++ k.cubes
  pub tickets : l.tickets ≡ h.tickets ++ k.tickets
  pub known : (slot : ℕ) (row : Row) → h.known slot ≡ Some row → l.known slot ≡ Some row
  pub other_known : (slot : ℕ) (row : Row) → k.known slot ≡ Some row → l.known slot ≡ Some row
  pub apart : (c : ℕ) → Contains h.cubes c → ¬ (Contains k.cubes c)
  pub claim_ends : l.claim_ends ≡ h.claim_ends + k.claim_ends
  pub ticket_ends : l.ticket_ends ≡ h.ticket_ends + k.ticket_ends

-- where neither stopped
pub no_stop : (s t : Option WorkStop) → worse_of s t ≡ None → (s ≡ None) × (t ≡ None)
no_stop None t e = (refl, e)
no_stop (Some Memory) t e = absurd (none-some Memory (sym e))
no_stop (Some Over) None e = absurd (none-some Over (sym e))
no_stop (Some Over) (Some x) e = absurd (none-some x (sym e))

module _ (h k l : Holding) (is : IsJoined h k l) (facts : HoldingFacts h) (other_facts : HoldingFacts k) where
  -- what holds of both parts is so of the whole
  along : (P : Framed → Problem → List ℕ → List Ticket → Type 0) → P h.frame h.problem (h.cubes ++ k.cubes) (h.tickets ++ k.tickets) → P l.frame l.problem l.cubes l.tickets
  along P p =
      subst (λ f. P f l.problem l.cubes l.tickets) (sym is.frame)
      (subst (λ (q : Problem). P h.frame q l.cubes l.tickets) (sym is.problem)
      (subst (λ cubes. P h.frame h.problem cubes l.tickets) (sym is.cubes)
      (subst (λ (tickets : List Ticket). P h.frame h.problem (h.cubes ++ k.cubes) tickets) (sym is.tickets) p)))

  -- the other has the same frame and problem
  beside : (P : Framed → Problem → Type 0) → P k.frame k.problem → P h.frame h.problem
  beside P p = subst (λ (q : Problem). P h.frame q) is.other_problem (subst (λ f. P f k.problem) is.other_frame p)

  -- the cubes share the nodes
  shared : AreShared h.frame h.problem.depth
  shared = cubes_share_the_nodes h.frame h.problem.depth facts.frame (few_split h.frame h.problem facts.problem)

  -- the cubes of the first are in range
  low : (c : ℕ) → Contains h.cubes c → c < cube_count h.frame h.problem.depth
  low c has = subst (λ n. c < n) (cubes_of_problem h.frame h.problem facts.problem) (facts.cubes c has)

  -- so are those of the other
  low' : (c : ℕ) → Contains k.cubes c → c < cube_count h.frame h.problem.depth
  low' c has = beside (λ f p. c < cube_count f p.depth) (subst (λ n. c < n) (cubes_of_problem k.frame k.problem other_facts.problem) (other_facts.cubes c has))

  -- what was opened are different nodes
  pub nodes_joined : AreNodes (IsNodeOfOne h.frame h.problem.depth h.cubes) h.tickets → AreNodes (IsNodeOfOne k.frame k.problem.depth k.cubes) k.tickets → AreNodes (IsNodeOfOne l.frame l.problem.depth l.cubes) l.tickets
  nodes_joined first second = along (λ f p cubes tickets. AreNodes (IsNodeOfOne f p.depth cubes) tickets)
      (joined_nodes h.frame h.problem.depth shared h.cubes k.cubes low low' is.apart h.tickets k.tickets first (beside (λ f p. AreNodes (IsNodeOfOne f p.depth k.cubes) k.tickets) second))

  -- there is one more, where the first has one
  pub wanting_first : IsWanting h → AreNodes (IsNodeOfOne k.frame k.problem.depth k.cubes) k.tickets → IsWanting l
  wanting_first wants second = record {
    told = (let sum = is.ticket_ends in let some = wants.told in omega arith);
    more = along (λ f p cubes (tickets : List Ticket). HoldsOfMany (IsNodeOfOne f p.depth cubes) (length tickets + 1))
        (subst (HoldsOfMany (IsNodeOfOne h.frame h.problem.depth (h.cubes ++ k.cubes))) (let long = length-append h.tickets k.tickets in omega arith)
        (joined_many h.frame h.problem.depth shared h.cubes k.cubes low low' is.apart (length h.tickets + 1) (length k.tickets) wants.more
        (many_nodes (IsNodeOfOne h.frame h.problem.depth k.cubes) k.tickets (beside (λ f p. AreNodes (IsNodeOfOne f p.depth k.cubes) k.tickets) second))));
  }

  -- and where the other has one
  pub wanting_other : AreNodes (IsNodeOfOne h.frame h.problem.depth h.cubes) h.tickets → IsWanting k → IsWanting l
  wanting_other first wants = record {
    told = (let sum = is.ticket_ends in let some = wants.told in omega arith);
    more = along (λ f p cubes (tickets : List Ticket). HoldsOfMany (IsNodeOfOne f p.depth cubes) (length tickets + 1))
        (subst (HoldsOfMany (IsNodeOfOne h.frame h.problem.depth (h.cubes ++ k.cubes))) (let long = length-append h.tickets k.tickets in omega arith)
        (joined_many h.frame h.problem.depth shared h.cubes k.cubes low low' is.apart (length h.tickets) (length k.tickets + 1)
        (many_nodes (IsNodeOfOne h.frame h.problem.depth h.cubes) h.tickets first)
        (beside (λ f p. HoldsOfMany (IsNodeOfOne f p.depth k.cubes) (length k.tickets + 1)) wants.more)));
  }

  -- both lists have the answers of all cubes
  pub listed_joined : (list more : List Answered) → HasListed h list → HasListed k more → HasListed l (list ++ more)
  listed_joined list more first second = record {
    cubes = map-append (λ (a : Answered). a.cube) list more ∙ ap (λ xs. xs ++ cubes_of more) first.cubes ∙ ap (λ xs. h.cubes ++ xs) second.cubes ∙ sym is.cubes;
    served = subst (HasAnswered l.frame l.problem.depth l.cubes l.tickets l.known) (sym (map-append (λ (a : Answered). a.answer) list more))
        (along (λ f p cubes tickets. HasAnswered f p.depth cubes tickets l.known (answers_of list ++ answers_of more))
        (joined h.frame h.problem.depth shared h.cubes k.cubes low low' is.apart h.tickets k.tickets h.known k.known l.known (answers_of list) (answers_of more) is.known is.other_known
        first.served (beside (λ f p. HasAnswered f p.depth k.cubes k.tickets k.known (answers_of more)) second.served)));
  }

  -- one of them was told that no ticket is left
  over_either : (s t : Option WorkStop) → worse_of s t ≡ Some Over → (s ≡ Some Over → IsWanting h) → (t ≡ Some Over → IsWanting k) → AreNodes (IsNodeOfOne h.frame h.problem.depth h.cubes) h.tickets → AreNodes (IsNodeOfOne k.frame k.problem.depth k.cubes) k.tickets → IsWanting l
  over_either None t e first second nodes more = wanting_other nodes (second e)
  over_either (Some Memory) t e first second nodes more = absurd (cc)
  over_either (Some Over) None e first second nodes more = wanting_first (first refl) more
  over_either (Some Over) (Some x) e first second nodes more = wanting_other nodes (second e)

  -- what both have after their searches
  pub ended_joined : (list more : List Answered) (m n : ℕ) (s t : Option WorkStop) → HoldingFacts l → HasEnded h list m s → HasEnded k more n t → HasEnded l (list ++ more) (m + n) (worse_of s t)
  ended_joined list more m n s t whole first second = record {
    facts = whole;
    nodes = nodes_joined first.nodes second.nodes;
    told = λ e. (let none = no_stop s t e in let a = first.told none.0 in let b = second.told none.1 in is.claim_ends ∙ (let both : h.claim_ends + k.claim_ends ≡ m + n = omega arith in both));
    listed = λ e. (let none = no_stop s t e in listed_joined list more (first.listed none.0) (second.listed none.1));
    over = λ e. over_either s t e first.over second.over first.nodes second.nodes;
  }

-- what a join of cards tells
pub record JoinsCard (first other after : CardIs) : Type 0 where
  pub mark : mark_of after ≡ record (mark_of first) { joined = (mark_of first).joined ++ (mark_of other).number ∷ [] }
  pub cubes : (held_by after).cubes ≡ (held_by first).cubes ++ (held_by other).cubes
  pub tickets : (held_by after).tickets ≡ (held_by first).tickets ++ (held_by other).tickets
  pub known : (slot : ℕ) (row : Row) → ((held_by after).known slot ≡ Some row) ↔ (((held_by first).known slot ≡ Some row) ⊎ ((held_by other).known slot ≡ Some row))
  pub apart : (c : ℕ) → Contains (held_by first).cubes c → ¬ (Contains (held_by other).cubes c)
  pub ends : ((held_by after).claim_ends ≡ (held_by first).claim_ends + (held_by other).claim_ends) × ((held_by after).ticket_ends ≡ (held_by first).ticket_ends + (held_by other).ticket_ends)
  pub facts : CardFacts after

-- so it is of what their passes have and know
joins_held : (store : StoreIs) (first other after : CardIs) → store_of first ≡ store → store_of other ≡ store → JoinsCard first other after → IsJoined (held_by first) (held_by other) (held_by after)
joins_held store first other after one two joins =
    let same : store_of after ≡ store_of first = ap (λ (m : Mark). m.store) joins.mark in
    let beside : store_of other ≡ store_of first = two ∙ sym one in record {
      frame = ap (λ (s : StoreIs). s.setting.frame) same;
      problem = ap (λ (s : StoreIs). s.setting.problem) same;
      other_frame = ap (λ (s : StoreIs). s.setting.frame) beside;
      other_problem = ap (λ (s : StoreIs). s.setting.problem) beside;
      cubes = joins.cubes;
      tickets = joins.tickets;
      known = λ slot row e. (joins.known slot row).1 (inl e);
      other_known = λ slot row e. (joins.known slot row).1 (inr e);
      apart = joins.apart;
      claim_ends = joins.ends.0;
      ticket_ends = joins.ends.1;
    }

-- the cubes of a list that a card has are different
listed_once : (h : Holding) (list : List Answered) → HoldingFacts h → HasListed h list → (x : ℕ) → count_by (λ y. y == x) (cubes_of list) ≤ 1
listed_once h list facts listed x = subst (λ xs. count_by (λ y. y == x) xs ≤ 1) (sym listed.cubes) (facts.cubes_once x)

-- they are in range of a row with a place for each cube
pub listed_low : (h : Holding) (list : List Answered) (n : ℕ) → HoldingFacts h → HasListed h list → n ≡ h.problem.cubes → (c : ℕ) → Contains (cubes_of list) c → c < n
listed_low h list n facts listed same c has = (let lt = facts.cubes c (subst (λ xs. Contains xs c) listed.cubes has) in omega arith)

-- P holds of the card that is there
pub has_at : (P : CardIs → Type 0) (o : Option CardIs) (card : CardIs) → o ≡ Some card → HasCard P o → P card
has_at P o card same has = subst (HasCard P) same has

-- how many places a row without answers has
pub places_of : (store : StoreIs) (row : List (Option CubeAnswer)) → IsEmptyRow store row → length row ≡ store.setting.problem.cubes
places_of store row empty = ap length empty ∙ length-replicate {A = Option CubeAnswer} store.setting.problem.cubes None

-- the cubes of a desk are in range of a row with a place for each cube
pub done_low : (store : StoreIs) (desk : Desk) (card : CardIs) (n : ℕ) → IsDoneCard store desk card → desk.stop ≡ None → n ≡ store.setting.problem.cubes → All (λ (a : Answered). a.cube < n) desk.list.items
done_low store desk card n done stop places =
    let cubes : store.setting.problem.cubes ≡ (held_by card).problem.cubes = ap (λ (s : StoreIs). s.setting.problem.cubes) (sym done.store_is) in
    all_low desk.list.items n (listed_low (held_by card) desk.list.items n done.ended.facts (done.ended.listed stop) (places ∙ cubes))

-- where there is no stop
pub no_stop_yet : (s : Option WorkStop) → is_some s ≡ false → s ≡ None
no_stop_yet None e = refl
no_stop_yet (Some x) e = absurd (false≢true (sym e))

-- a stop is not none
pub stop_there : (s : Option WorkStop) → is_some s ≡ true → ¬ (s ≡ None)
stop_there None e none = false≢true e
stop_there (Some x) e none = none-some x (sym none)

-- what is gathered of the first pass alone
pub begun : (store : StoreIs) (desk : Desk) (card : CardIs) (row : List (Option CubeAnswer)) (gathered : Gathered) → IsDoneCard store desk card → (mark_of card).number ≡ 0 → IsEmptyRow store row
    → gathered.card ≡ card → gathered.stop ≡ desk.stop → length gathered.row.items ≡ length row → (desk.stop ≡ None → gathered.row.items ≡ with_answers row desk.list.items) → HasGathered store gathered
begun store desk card row gathered done first empty card_is stop_is long row_is = record {
  store_is = ap store_of card_is ∙ done.store_is;
  number = ap (λ (c : CardIs). (mark_of c).number) card_is ∙ first;
  room = long ∙ places_of store row empty;
  list = desk.list.items;
  ended = subst (λ (c : CardIs). HasEnded (held_by c) desk.list.items (1 + length (mark_of c).joined) gathered.stop) (sym card_is)
      (subst (λ s. HasEnded (held_by card) desk.list.items (1 + length (mark_of card).joined) s) (sym stop_is)
      (subst (λ n. HasEnded (held_by card) desk.list.items n desk.stop) (let none = ap length done.alone in omega arith) done.ended));
  row = λ e. (
      let stop : desk.stop ≡ None = sym stop_is ∙ e in
      let listed = done.ended.listed stop in
      let places = places_of store row empty in
      let cubes : store.setting.problem.cubes ≡ (held_by card).problem.cubes = ap (λ (s : StoreIs). s.setting.problem.cubes) (sym done.store_is) in
      subst (λ r. IsRowOf r desk.list.items) (sym (row_is stop))
      (row_all row [] desk.list.items (subst (λ r. IsRowOf r []) (sym empty) (row_empty store.setting.problem.cubes))
      (listed_low (held_by card) desk.list.items (length row) done.ended.facts listed (places ∙ cubes))
      (listed_once (held_by card) desk.list.items done.ended.facts listed)));
}

-- what is gathered once a further pass was joined
pub gathered_more : (store : StoreIs) (old new : Gathered) (desk : Desk) (card : CardIs) → HasGathered store old → IsDoneCard store desk card → JoinsCard old.card card new.card
    → new.stop ≡ worse_of old.stop desk.stop → length new.row.items ≡ length old.row.items → (new.stop ≡ None → new.row.items ≡ with_answers old.row.items desk.list.items) → HasGathered store new
gathered_more store old new desk card was done joins stop_is long row_is =
    let same : store_of new.card ≡ store_of old.card = ap (λ (m : Mark). m.store) joins.mark in
    let held = joins_held store old.card card new.card was.store_is done.store_is joins in
    let count : length (mark_of new.card).joined ≡ length (mark_of old.card).joined + 1 = ap (λ (m : Mark). length m.joined) joins.mark ∙ length-append (mark_of old.card).joined ((mark_of card).number ∷ []) in
    let ended : HasEnded (held_by new.card) (was.list ++ desk.list.items) ((1 + length (mark_of old.card).joined) + 1) (worse_of old.stop desk.stop) =
    ended_joined (held_by old.card) (held_by card) (held_by new.card) held was.ended.facts done.ended.facts was.list desk.list.items (1 + length (mark_of old.card).joined) 1 old.stop desk.stop joins.facts.holding was.ended done.ended in record {
      store_is = same ∙ was.store_is;
      number = ap (λ (m : Mark). m.number) joins.mark ∙ was.number;
      room = long ∙ was.room;
      list = was.list ++ desk.list.items;
      ended = subst (λ s. HasEnded (held_by new.card) (was.list ++ desk.list.items) (1 + length (mark_of new.card).joined) s) (sym stop_is)
          (subst (λ n. HasEnded (held_by new.card) (was.list ++ desk.list.items) n (worse_of old.stop desk.stop)) (omega arith) ended);
      row = λ e. (
          let none = no_stop old.stop desk.stop (sym stop_is ∙ e) in
          let cubes : store.setting.problem.cubes ≡ (held_by card).problem.cubes = ap (λ (s : StoreIs). s.setting.problem.cubes) (sym done.store_is) in
          subst (λ r. IsRowOf r (was.list ++ desk.list.items)) (sym (row_is e))
          (row_all old.row.items was.list desk.list.items (was.row none.0)
          (listed_low (held_by card) desk.list.items (length old.row.items) done.ended.facts (done.ended.listed none.1) (was.room ∙ cubes))
          (listed_once (held_by new.card) (was.list ++ desk.list.items) joins.facts.holding (ended.listed (sym stop_is ∙ e)))));
    }
