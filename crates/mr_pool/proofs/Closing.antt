-- What a board shows that was closed after its pass searched all cubes, or ran out of tickets.
use Rattle.std.proofs.Common.{◌≡◌, ℕ, ◌+◌, ◌<◌, ◌≤◌, List, [], length, sym, ap, subst, ◌∙◌, arith, Option, Some}
use Rattle.std.specs.Prelude.{slice_get}
use Rattle.std.proofs.lemmas.Option.{slice_get_within}
use Rattle.mr_frame.specs.Frame.{Framed}
use Rattle.mr_nogood.specs.Follows.{in_slots}
use Rattle.mr_nogood.specs.declared.row.Cite.TheVariants.{Test}
use Rattle.mr_nogood.specs.declared.row.Row.{Row}
use Rattle.mr_exchange.specs.declared.problem.Problem.{Problem}
use Rattle.mr_exchange.specs.declared.answer.CubeAnswer.{CubeAnswer}
use Rattle.mr_exchange.specs.declared.answer.CubeAnswer.TheVariants.{Refuted}
use Rattle.mr_exchange.specs.Cubes.{cube_at}
use Rattle.mr_exchange.specs.Right.{AreAnswers, IsRight}
use Rattle.mr_exchange.specs.Board.{Holding, BoardFacts, new_holding}
use Rattle.mr_exchange.specs.Closed.{ClosedIs, closed_is}
use Rattle.mr_exchange.specs.Plain.{PlainIs, plain_holding, IsPlainPass}
use Rattle.mr_search.specs.Nodes.{IsNode, HoldsOfMany, IsNeed}
use Rattle.mr_search.specs.Search.{IsReady, AreNodes}
use Rattle.mr_search.proofs.Needing.{many_nodes, at_most}
use Rattle.mr_search.proofs.Sharing.{cubes_share_the_nodes}
use Rattle.mr_pool.specs.Answers.{AreFirst, IsSearched, IsSpent}
use Rattle.mr_pool.specs.Private.Answers.{IsNodeOfOne, HasServed}
use Rattle.mr_pool.proofs.Places.{number_at, many_map}
use Rattle.mr_pool.proofs.Serving.{few_split}

-- the pass of a new board is ready
pub ready_first : (h : Holding) (index : List (Option Row)) (f : Framed) (problem : Problem) → h ≡ new_holding f problem → index ≡ [] → IsReady h index
ready_first h index f problem new none = record {
  no_end = ap (λ (g : Holding). g.ticket_ends) new;
  looked = (let count = ap (λ (g : Holding). length g.tickets) new in omega arith);
  learnt = λ s. ap (λ (i : List (Option Row)). in_slots i s) none ∙ sym (ap (λ (g : Holding). g.known s) new);
}

-- nodes of a pass's cubes are nodes of the depth
pub of_depth : (h : Holding) (n : ℕ) → BoardFacts h → HoldsOfMany (IsNodeOfOne h.frame h.problem.depth h.cubes) n → HoldsOfMany (IsNode h.frame h.problem.depth) n
of_depth h n facts many =
    let shared = cubes_share_the_nodes h.frame h.problem.depth facts.frame (few_split h.frame h.problem facts.problem) in
    many_map (IsNodeOfOne h.frame h.problem.depth h.cubes) (IsNode h.frame h.problem.depth) n (λ a node. shared.node node.cube a node.is) many

-- the board of this frame and problem, what holds of its pass, and that what it opened are different nodes of its cubes
pub record IsDone (f : Framed) (problem : Problem) (b : PlainIs) (closed : ClosedIs) : Type 0 where
  pub frame : b.frame ≡ f
  pub problem_is : b.problem ≡ problem
  pub facts : BoardFacts (plain_holding b)
  pub order : IsPlainPass (plain_holding b)
  pub nodes : AreNodes (IsNodeOfOne b.frame b.problem.depth b.cubes) b.tickets
  pub closed_as : closed ≡ closed_is b.frame b.problem (length b.tickets) (length b.cubes) b.rows

module _ (f : Framed) (problem : Problem) (b : PlainIs) (closed : ClosedIs) (done : IsDone f problem b closed) where
  -- P of the board's own frame and problem is P of these
  along : (P : Framed → Problem → Type 0) → P b.frame b.problem → P f problem
  along P is = subst (P f) done.problem_is (subst (λ g. P g b.problem) done.frame is)

  -- each cube is at its place
  cube_there : (c : ℕ) → c < length b.cubes → slice_get b.cubes c ≡ Some c
  cube_there c lt = subst (λ l. slice_get l c ≡ Some c) (sym done.order.cubes) (number_at (length b.cubes) c lt)

  module _ (answers : List CubeAnswer) (served : HasServed (plain_holding b) answers) (ended : b.claim_ends ≡ 1) where
    -- all cubes were claimed
    all_cubes : length b.cubes ≡ b.problem.cubes
    all_cubes = done.order.all_cubes (omega arith)

    -- the answers are right for the rows of the closed board
    pub answers_are : AreAnswers f problem (in_slots closed.rows) answers
    answers_are = along (λ g p. AreAnswers g p (in_slots closed.rows) answers) (record {
      count = served.count ∙ all_cubes;
      right = λ c answer there. subst (λ (k : ClosedIs). IsRight b.frame (in_slots k.rows) (cube_at b.frame b.problem.depth c) answer) (sym done.closed_as)
          (served.right c c answer (cube_there c (let in_list = slice_get_within answers c answer there in let same = served.count in omega arith)) there);
    })

    -- each set is the first
    pub are_first : AreFirst f problem answers
    are_first = along (λ g p. AreFirst g p answers) (λ c x there.
        served.first c c x (cube_there c (let in_list = slice_get_within answers c (Refuted (Test x)) there in let same = served.count in omega arith)) there)

    -- the board was closed after all cubes
    pub is_searched : IsSearched f problem closed
    is_searched = record {
      frame = ap (λ (k : ClosedIs). k.frame) done.closed_as ∙ done.frame;
      problem_is = ap (λ (k : ClosedIs). k.problem) done.closed_as ∙ done.problem_is;
      claimed = ap (λ (k : ClosedIs). k.claimed) done.closed_as ∙ all_cubes ∙ ap (λ (p : Problem). p.cubes) done.problem_is;
      most = subst (λ (k : ClosedIs). HoldsOfMany (IsNode f problem.depth) k.opened) (sym done.closed_as) (along (λ g p. HoldsOfMany (IsNode g p.depth) (length b.tickets))
          (of_depth (plain_holding b) (length b.tickets) done.facts (many_nodes (IsNodeOfOne b.frame b.problem.depth b.cubes) b.tickets done.nodes)));
    }

    -- so no more nodes were opened than there are
    pub opened_most : (n : ℕ) → IsNeed f problem.depth n → closed.opened ≤ n
    opened_most n need = at_most (IsNode f problem.depth) closed.opened n is_searched.most need

  module _ (told : 0 < b.ticket_ends) (further : HoldsOfMany (IsNodeOfOne b.frame b.problem.depth b.cubes) (length b.tickets + 1)) where
    -- all nodes were opened that may be
    all_tickets : length b.tickets ≡ b.problem.nodes
    all_tickets = done.order.all_tickets told

    -- and there are more
    pub is_spent : IsSpent f problem closed
    is_spent = record {
      frame = ap (λ (k : ClosedIs). k.frame) done.closed_as ∙ done.frame;
      problem_is = ap (λ (k : ClosedIs). k.problem) done.closed_as ∙ done.problem_is;
      opened = ap (λ (k : ClosedIs). k.opened) done.closed_as ∙ all_tickets ∙ ap (λ (p : Problem). p.nodes) done.problem_is;
      fewer = along (λ g p. HoldsOfMany (IsNode g p.depth) (p.nodes + 1)) (subst (λ n. HoldsOfMany (IsNode b.frame b.problem.depth) (n + 1)) all_tickets
          (of_depth (plain_holding b) (length b.tickets + 1) done.facts further));
    }

    -- so the number of nodes is higher
    pub nodes_above : (n : ℕ) → IsNeed f problem.depth n → problem.nodes < n
    nodes_above n need = (let le = at_most (IsNode f problem.depth) (problem.nodes + 1) n is_spent.fewer need in omega arith)
