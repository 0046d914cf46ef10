-- What the first pass has once all others were joined, and what a closed store shows of it.
use Rattle.std.proofs.Common.{◌≡◌, ℕ, ◌+◌, ◌<◌, ◌≤◌, List, [], length, map, refl, sym, ap, subst, ◌∙◌, arith, Contains, Option, Some, None}
use Rattle.std.specs.Prelude.{slice_get, sum_by, option_map}
use Rattle.std.proofs.lemmas.List.{length-map}
use Rattle.std.proofs.lemmas.Option.{slice_get_within, slice_get-map}
use Rattle.mr_frame.specs.Frame.{Framed, IsFrame}
use Rattle.mr_frame.specs.Test.{IsFirstFailing}
use Rattle.mr_nogood.specs.declared.row.Row.{Row}
use Rattle.mr_nogood.specs.declared.row.Cite.TheVariants.{Test}
use Rattle.mr_nogood.specs.Follows.{in_slots}
use Rattle.mr_exchange.specs.declared.problem.Problem.{Problem}
use Rattle.mr_exchange.specs.declared.answer.CubeAnswer.{CubeAnswer}
use Rattle.mr_exchange.specs.declared.answer.CubeAnswer.TheVariants.{Found, Refuted}
use Rattle.mr_exchange.specs.Cubes.{cube_at, IsProblemOf}
use Rattle.mr_exchange.specs.Right.{IsRight}
use Rattle.mr_exchange.specs.Board.{Holding, new_holding}
use Rattle.mr_exchange.specs.Closed.{ClosedIs}
use Rattle.mr_search.specs.Nodes.{IsNode, HoldsOfMany, IsNeed}
use Rattle.mr_search.specs.Search.{AreNodes, IsOpened}
use Rattle.mr_search.proofs.Needing.{many_nodes, at_most}
use Rattle.mr_search.proofs.Sharing.{cubes_share_the_nodes}
use Rattle.mr_store.specs.Cards.{StoreIs, CardIs, Mark, store_of, mark_of, held_by, HoldingFacts, HasWhole, CardFacts}
use Rattle.mr_pool.specs.declared.answered.Answered.{Answered}
use Rattle.mr_pool.specs.declared.gather.Gathered.{Gathered}
use Rattle.mr_pool.specs.declared.workers.WorkStop.TheVariants.{Over}
use Rattle.mr_exchange.specs.Right.{AreAnswers}
use Rattle.mr_pool.specs.Answers.{AreFirst, IsSearched, IsSpent, number_found}
use Rattle.mr_pool.specs.Private.Answers.{IsNodeOfOne}
use Rattle.mr_pool.specs.Private.Lists.{answered, cubes_of, answers_of, HasListed, present}
use Rattle.mr_pool.specs.Private.Desks.{IsRowOf, HasEnded, HasGathered}
use Rattle.mr_pool.specs.Work.{IsFirst, IsGathered, IsWorked, IsOut}
use Rattle.mr_pool.proofs.Places.{many_map}
use Rattle.mr_pool.proofs.Serving.{few_split, still_right}
use Rattle.mr_pool.proofs.Listing.{member_of_cube, place_of, whole_row, number_present}

-- nodes of a pass's cubes are nodes of the depth
nodes_of_depth : (h : Holding) (n : ℕ) → HoldingFacts h → HoldsOfMany (IsNodeOfOne h.frame h.problem.depth h.cubes) n → HoldsOfMany (IsNode h.frame h.problem.depth) n
nodes_of_depth h n facts many =
    let shared = cubes_share_the_nodes h.frame h.problem.depth facts.frame (few_split h.frame h.problem facts.problem) in
    many_map (IsNodeOfOne h.frame h.problem.depth h.cubes) (IsNode h.frame h.problem.depth) n (λ a node. shared.node node.cube a node.is) many

-- different nodes of its cubes are different nodes of the depth
different_of_depth : (h : Holding) → HoldingFacts h → AreNodes (IsNodeOfOne h.frame h.problem.depth h.cubes) h.tickets → AreNodes (IsNode h.frame h.problem.depth) h.tickets
different_of_depth h facts nodes =
    let shared = cubes_share_the_nodes h.frame h.problem.depth facts.frame (few_split h.frame h.problem facts.problem) in
    record { each = λ t has. (let one = nodes.each t has in shared.node one.cube t.node one.is); different = nodes.different }

-- no tickets have different nodes
none_are_nodes : (P : List ℕ → Type 0) → AreNodes P []
none_are_nodes P = record { each = λ t has. (let lt = has.1 in absurd (omega arith)); different = λ i j d lt in_range. absurd (omega arith) }

-- what holds of a card's frame and problem holds of its store's
pub of_store : (store : StoreIs) (card : CardIs) → store_of card ≡ store → (P : Framed → Problem → Type 0) → P (held_by card).frame (held_by card).problem → P store.setting.frame store.setting.problem
of_store store card same P p = subst (λ (s : StoreIs). P s.setting.frame s.setting.problem) same p

module _ (store : StoreIs) (g : Gathered) (was : HasGathered store g) (facts : CardFacts g.card) (all : 1 + length (mark_of g.card).joined ≡ (mark_of g.card).made) where
  -- what the card of the first pass has and knows
  abbrev held : Holding
  held = held_by g.card

  -- it has the whole
  whole : HasWhole held
  whole = facts.whole was.number all

  -- no more nodes were opened than there are
  pub is_gathered : IsGathered store g.card
  is_gathered = record {
    store_is = was.store_is;
    number = was.number;
    all = all;
    nodes = of_store store g.card was.store_is (λ f p. AreNodes (IsNode f p.depth) held.tickets) (different_of_depth held was.ended.facts was.ended.nodes);
    most = of_store store g.card was.store_is (λ f p. HoldsOfMany (IsNode f p.depth) (length held.tickets))
        (nodes_of_depth held (length held.tickets) was.ended.facts (many_nodes (IsNodeOfOne held.frame held.problem.depth held.cubes) held.tickets was.ended.nodes));
  }

  -- a pass was told that no ticket is left
  pub is_out : g.stop ≡ Some Over → IsOut store g.card
  is_out e = (let wants = was.ended.over e in record {
    told = wants.told;
    spent = of_store store g.card was.store_is (λ f p. length held.tickets ≡ p.nodes) (whole.all_tickets wants.told);
    more = of_store store g.card was.store_is (λ f p. HoldsOfMany (IsNode f p.depth) (length held.tickets + 1)) (nodes_of_depth held (length held.tickets + 1) was.ended.facts wants.more);
  })

  module _ (none : g.stop ≡ None) where
    -- all cubes were claimed
    all_cubes : length held.cubes ≡ held.problem.cubes
    all_cubes = whole.all_cubes (let told = was.ended.told none in omega arith)

    -- there is a place for each
    places : length g.row.items ≡ held.problem.cubes
    places = was.room ∙ ap (λ (s : StoreIs). s.setting.problem.cubes) (sym was.store_is)

    -- each place has an answer
    full : (c : ℕ) → c < length g.row.items → (answer : CubeAnswer) × (slice_get g.row.items c ≡ Some (Some answer))
    full c lt =
        let has : Contains held.cubes c = (whole.cubes c).1 (let a = all_cubes in let b = places in omega arith) in
        let m = member_of_cube was.list c (subst (λ xs. Contains xs c) (sym (was.ended.listed none).cubes) has) in
        (m.0.answer, subst (λ k. slice_get g.row.items k ≡ Some (Some m.0.answer)) m.2 ((was.row none).there m.0 m.1))

    -- the answers in order are those of the row
    in_row : map Some (present g.row.items) ≡ g.row.items
    in_row = whole_row g.row.items full

    -- the row has each at its place
    at_place : (c : ℕ) (answer : CubeAnswer) → slice_get (present g.row.items) c ≡ Some answer → slice_get g.row.items c ≡ Some (Some answer)
    at_place c answer there =
        subst (λ r. slice_get r c ≡ Some (Some answer)) in_row (slice_get-map Some (present g.row.items) c ∙ ap (option_map Some) there)

    -- and it is that of a cube of the pass
    of_cube : (c : ℕ) (answer : CubeAnswer) → slice_get (present g.row.items) c ≡ Some answer → (k : ℕ) × (slice_get held.cubes k ≡ Some c) × (slice_get (answers_of was.list) k ≡ Some answer)
    of_cube c answer there =
        let p = place_of was.list (answered c answer) ((was.row none).only c answer (at_place c answer there)) in
        (p.0, subst (λ xs. slice_get xs p.0 ≡ Some c) (was.ended.listed none).cubes p.1, p.2)

    -- so many answers are there
    number_of_answers : length (present g.row.items) ≡ held.problem.cubes
    number_of_answers = sym (length-map (present g.row.items) (λ (z : CubeAnswer). Some z)) ∙ ap length in_row ∙ places

    -- all cubes were searched
    pub is_worked : IsWorked store (mark_of g.card).made g.card (present g.row.items)
    is_worked = record {
      cubes = λ c lt. (whole.cubes c).1 (let a = all_cubes in let same = ap (λ (s : StoreIs). s.setting.problem.cubes) was.store_is in omega arith);
      claimed = all_cubes ∙ ap (λ (s : StoreIs). s.setting.problem.cubes) was.store_is;
      ends = was.ended.told none ∙ all;
      made = refl;
      joined = all;
      answers_are = of_store store g.card was.store_is (λ f p. AreAnswers f p held.known (present g.row.items)) (record {
        count = number_of_answers;
        right = λ c answer there. (let p = of_cube c answer there in (was.ended.listed none).served.right p.0 c answer p.1 p.2);
      });
      first = of_store store g.card was.store_is (λ f p. AreFirst f p (present g.row.items)) (λ c x there. (let p = of_cube c (Refuted (Test x)) there in (was.ended.listed none).served.first p.0 c x p.1 p.2));
      opened = λ c xs a there has. (let p = of_cube c (Found xs) there in (was.ended.listed none).served.opened p.0 xs a p.2 has);
      found = (let few = (was.ended.listed none).served.few in let same = number_present g.row.items in let row = (was.row none).number in omega arith);
    }

-- no more tickets than there are nodes
pub tickets_most : (store : StoreIs) (card : CardIs) → IsGathered store card → (n : ℕ) → IsNeed store.setting.frame store.setting.problem.depth n → length (held_by card).tickets ≤ n
tickets_most store card is n need = at_most (IsNode store.setting.frame store.setting.problem.depth) (length (held_by card).tickets) n is.most need

-- and fewer, where there is one more
pub tickets_fewer : (store : StoreIs) (card : CardIs) → IsOut store card → (n : ℕ) → IsNeed store.setting.frame store.setting.problem.depth n → length (held_by card).tickets < n
tickets_fewer store card is n need = (let le = at_most (IsNode store.setting.frame store.setting.problem.depth) (length (held_by card).tickets + 1) n is.more need in omega arith)

-- before any search
pub first_gathered : (store : StoreIs) (card : CardIs) → IsFirst store card → IsGathered store card
first_gathered store card is = record {
  store_is = ap (λ (m : Mark). m.store) is.mark;
  number = ap (λ (m : Mark). m.number) is.mark;
  all = (let none = ap (λ (m : Mark). length m.joined) is.mark in let one = ap (λ (m : Mark). m.made) is.mark in omega arith);
  nodes = subst (λ (h : Holding). AreNodes (IsNode store.setting.frame store.setting.problem.depth) h.tickets) (sym is.new) (none_are_nodes (IsNode store.setting.frame store.setting.problem.depth));
  most = subst (λ (h : Holding). HoldsOfMany (IsNode store.setting.frame store.setting.problem.depth) (length h.tickets)) (sym is.new)
      (many_nodes (IsNode store.setting.frame store.setting.problem.depth) [] (none_are_nodes (IsNode store.setting.frame store.setting.problem.depth)));
}

-- what the closed store shows of the first pass's card
pub record ShowsCard (store : StoreIs) (card : CardIs) (closed : ClosedIs) : Type 0 where
  pub of : (closed.frame ≡ store.setting.frame) × (closed.problem ≡ store.setting.problem)
  pub opened : closed.opened ≡ length (held_by card).tickets
  pub claimed : closed.claimed ≡ length (held_by card).cubes
  pub rows : (slot : ℕ) → in_slots closed.rows slot ≡ (held_by card).known slot

module _ (store : StoreIs) (card : CardIs) (closed : ClosedIs) (shows : ShowsCard store card closed) (gathered : IsGathered store card) where
  -- all cubes were searched
  module _ (workers : ℕ) (answers : List CubeAnswer) (worked : IsWorked store workers card answers) where
    -- the answers are right for its rows
    pub answers_closed : AreAnswers store.setting.frame store.setting.problem (in_slots closed.rows) answers
    answers_closed = record {
      count = worked.answers_are.count;
      right = λ c answer there. still_right store.setting.frame (held_by card).known (in_slots closed.rows) (cube_at store.setting.frame store.setting.problem.depth c) answer
          (λ slot row e. shows.rows slot ∙ e) (worked.answers_are.right c answer there);
    }

    -- it was closed after all cubes
    pub searched_closed : IsSearched store.setting.frame store.setting.problem closed
    searched_closed = record {
      frame = shows.of.0;
      problem_is = shows.of.1;
      claimed = shows.claimed ∙ worked.claimed;
      most = subst (HoldsOfMany (IsNode store.setting.frame store.setting.problem.depth)) (sym shows.opened) gathered.most;
    }

  -- it was closed after as many nodes as may be
  pub spent_closed : IsOut store card → IsSpent store.setting.frame store.setting.problem closed
  spent_closed out = record {
    frame = shows.of.0;
    problem_is = shows.of.1;
    opened = shows.opened ∙ out.spent;
    fewer = subst (λ n. HoldsOfMany (IsNode store.setting.frame store.setting.problem.depth) (n + 1)) out.spent out.more;
  }

-- a store of this frame and problem
pub record IsStoreOf (store : StoreIs) (f : Framed) (problem : Problem) : Type 0 where
  pub frame : store.setting.frame ≡ f
  pub problem_is : store.setting.problem ≡ problem

-- what holds of its frame and problem holds of these
pub at_setting : (store : StoreIs) (f : Framed) (problem : Problem) → IsStoreOf store f problem → (P : Framed → Problem → Type 0) → P store.setting.frame store.setting.problem → P f problem
at_setting store f problem is P p = subst (P f) is.problem_is (subst (λ g. P g store.setting.problem) is.frame p)

-- its first card
pub first_of : (store : StoreIs) (card : CardIs) (f : Framed) (problem : Problem) → IsStoreOf store f problem → mark_of card ≡ record { store = store; number = 0; made = 1; joined = [] } → held_by card ≡ new_holding f problem → IsFirst store card
first_of store card f problem is mark new = record { mark = mark; new = new ∙ sym (at_setting store f problem is (λ g p. new_holding store.setting.frame store.setting.problem ≡ new_holding g p) refl) }
