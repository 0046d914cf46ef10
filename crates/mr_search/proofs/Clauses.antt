-- What the search of a cube tells its caller.
use Rattle.std.proofs.Common.{◌≡◌, ◌≢◌, ℕ, ◌+◌, ◌<◌, ◌≤◌, List, [], ◌++◌, length, drop, refl, sym, ap, subst, ◌∙◌, Contains, Option, Result, Ok, Err}
use Rattle.std.specs.Prelude.{IfOk, IfErr}
use Rattle.std.proofs.Math.Seq.{drop-append_seam}
use Rattle.mr_assign.specs.Assign.{IsPartOf}
use Rattle.mr_frame.specs.Frame.{Framed}
use Rattle.mr_frame.specs.Test.{SetFails, IsFirstFailing}
use Rattle.mr_nogood.specs.declared.row.Cite.{Cite}
use Rattle.mr_nogood.specs.declared.row.Cite.TheVariants.{Test, Slot}
use Rattle.mr_nogood.specs.declared.row.Row.{Row}
use Rattle.mr_exchange.specs.declared.answer.CubeAnswer.{CubeAnswer}
use Rattle.mr_exchange.specs.declared.answer.CubeAnswer.TheVariants.{Found, Refuted}
use Rattle.mr_exchange.specs.declared.problem.Problem.{Problem}
use Rattle.mr_exchange.specs.declared.ticket.Ticket.{Ticket}
use Rattle.mr_exchange.specs.Cubes.{IsCube, IsProblemOf, cube_count, cube_at}
use Rattle.mr_exchange.specs.Right.{AreCompletions, IsRight}
use Rattle.mr_exchange.specs.Board.{Holding, BoardFacts}
use Rattle.mr_propagate.specs.Index.{NothingInside}
use Rattle.mr_search.specs.declared.outcome.Outcome.TheVariants.{Completed, Excluded}
use Rattle.mr_search.specs.declared.outcome.SearchStop.{SearchStop}
use Rattle.mr_search.specs.declared.outcome.SearchStop.TheVariants.{Over, Memory}
use Rattle.mr_search.specs.Nodes.{IsNodeUnder, HoldsOfMany, IsNumberOf}
use Rattle.mr_search.specs.Search.{gained, Keeps, IsReady, AreNodes, IsOpened, AreFoundAmong, AreSettled, AreSettledButOneChain, AnswersFirst}
use Rattle.mr_search.specs.Private.Steps.{IsInside, CanSearch, Answered, RanOut, CubeAnswered, CubeStopped}
use Rattle.mr_search.proofs.Listing.{nodes_none}
use Rattle.mr_search.proofs.Keeping.{keeps_all}
use Rattle.mr_search.proofs.Children.{part_refl}
use Rattle.mr_search.proofs.Needing.{many_nodes, one_more_node, at_most}
use Rattle.mr_set.proofs.Ordered.{member_none}

-- what was opened of a cube
pub record HasOpened (before after : Holding) (a : List ℕ) (low : ℕ) : Type 0 where
  pub opened : List Ticket
  pub is : gained before after ≡ opened
  pub keeps : Keeps before opened after
  pub nodes : AreNodes (IsNodeUnder before.frame a low) opened

-- what is told of a node is told of the cube that it is
pub answered_of : (before after : Holding) (index : List (Option Row)) (node a : List ℕ) (depth low : ℕ) (answer : CubeAnswer) → node ≡ a → depth ≡ low → CubeAnswered before after index node depth answer → CubeAnswered before after index a low answer
answered_of before after index node a depth low answer is same given = subst (λ d. CubeAnswered before after index a d answer) same (subst (λ b. CubeAnswered before after index b depth answer) is given)

-- also after a stop
pub stopped_of : (before after : Holding) (node a : List ℕ) (depth low : ℕ) (stop : SearchStop) → node ≡ a → depth ≡ low → CubeStopped before after node depth stop → CubeStopped before after a low stop
stopped_of before after node a depth low stop is same given = subst (λ d. CubeStopped before after a d stop) same (subst (λ b. CubeStopped before after b depth stop) is given)

-- there are as many cubes as the problem says
pub cubes_of : (f : Framed) (problem : Problem) → IsProblemOf f problem → problem.cubes ≡ cube_count f problem.depth
cubes_of f problem is = ap (λ (p : Problem). p.cubes) is.is ∙ sym (ap (λ (p : Problem). cube_count f p.depth) is.is)

-- a cube that was claimed is one of them
pub cube_low : (h : Holding) (f : Framed) (problem : Problem) (cube : ℕ) → BoardFacts h → f ≡ h.frame → problem ≡ h.problem → Contains h.cubes cube → cube < cube_count f problem.depth
cube_low h f problem cube facts frame same claimed =
    let lt : cube < cube_count h.frame h.problem.depth = subst (λ n. cube < n) (cubes_of h.frame h.problem facts.problem) (facts.cubes cube claimed) in
    subst (λ g. cube < cube_count g problem.depth) (sym frame) (subst (λ (p : Problem). cube < cube_count h.frame p.depth) (sym same) lt)

-- which assignment it is
pub cube_is : (h : Holding) (f : Framed) (problem : Problem) (cube : ℕ) (node : List ℕ) → f ≡ h.frame → problem ≡ h.problem → node ≡ cube_at f problem.depth cube → node ≡ cube_at h.frame h.problem.depth cube
cube_is h f problem cube node frame same is = is ∙ ap (λ g. cube_at g problem.depth cube) frame ∙ ap (λ (p : Problem). cube_at h.frame p.depth cube) same

module _ (h : Holding) (index : List (Option Row)) (a : List ℕ) (low : ℕ) (ready : IsReady h index) (facts : BoardFacts h) where
  -- a set fails under it
  pub cube_fails : (x : List ℕ) → IsFirstFailing h.frame a x → CubeAnswered h h index a low (Refuted (Test x))
  cube_fails x first = record {
    opened = [];
    keeps = keeps_all h;
    nodes = nodes_none (IsNodeUnder h.frame a low);
    stands = record { ready = ready; facts = facts };
    settled = λ t has. absurd (member_none t has);
    right = first.fails;
    found = tt;
    first = λ y same. (let is : x ≡ y = cc in (subst (IsFirstFailing h.frame a) is first, refl));
    refuted = λ y fails. (x, refl);
  }

  -- a known row has its clause in it
  pub cube_inside : (slot : ℕ) → ((x : List ℕ) → ¬ (SetFails h.frame a x)) → IsInside h.known a slot → CubeAnswered h h index a low (Refuted (Slot slot))
  cube_inside slot holds inside = record {
    opened = [];
    keeps = keeps_all h;
    nodes = nodes_none (IsNodeUnder h.frame a low);
    stands = record { ready = ready; facts = facts };
    settled = λ t has. absurd (member_none t has);
    right = (inside.row, inside.has, inside.inside);
    found = tt;
    first = λ y same. absurd (let clash : Slot slot ≡ Test y = cc in cc);
    refuted = λ y fails. absurd (holds y fails);
  }

  -- else it may be searched
  pub can_cube : (cube : ℕ) → Contains h.cubes cube → a ≡ cube_at h.frame h.problem.depth cube → IsCube h.frame low a → ((x : List ℕ) → ¬ (SetFails h.frame a x)) → NothingInside h.known a → CanSearch h index a low
  can_cube cube claimed is values holds nothing = record {
    stands = record { ready = ready; facts = facts };
    values = values;
    of_cube = record { assignment = values.assignment; cube = cube; claimed = claimed; contains = subst (λ b. IsPartOf b a) is (part_refl a) };
    holds = holds;
    nothing = nothing;
  }

module _ (before after : Holding) (index : List (Option Row)) (a : List ℕ) (low : ℕ) where
  -- its completions were found
  pub cube_completed : (old found : List (List ℕ)) → old ≡ [] → ((x : List ℕ) → ¬ (SetFails before.frame a x)) → Answered before.frame before after index a low old found Completed → CubeAnswered before after index a low (Found found)
  cube_completed old found none holds answered =
      let finds = answered.outcome_is in
      let is : finds.completions ≡ found = sym (finds.is ∙ ap (λ l. l ++ finds.completions) none) in record {
        opened = answered.opened;
        keeps = answered.keeps;
        nodes = answered.nodes;
        stands = answered.stands;
        settled = answered.settled;
        right = (subst (λ l. l ≢ []) is finds.some, subst (AreCompletions before.frame a) is finds.are);
        found = subst (λ l. ((c : List ℕ) → Contains l c → IsOpened answered.opened c) × (length l ≤ length answered.opened)) is (finds.each, finds.few);
        first = λ y same. absurd (cc);
        refuted = λ y fails. absurd (holds y fails);
      }

  -- it has none
  pub cube_excluded : (old found : List (List ℕ)) (cite : Cite) → ((x : List ℕ) → ¬ (SetFails before.frame a x)) → Answered before.frame before after index a low old found (Excluded cite) → CubeAnswered before after index a low (Refuted cite)
  cube_excluded old found cite holds answered = record {
    opened = answered.opened;
    keeps = answered.keeps;
    nodes = answered.nodes;
    stands = answered.stands;
    settled = answered.settled;
    right = answered.outcome_is.1;
    found = tt;
    first = λ y same. absurd (let is : cite ≡ Test y = cc in holds y (subst (λ d. IsRight before.frame after.known a (Refuted d)) is answered.outcome_is.1));
    refuted = λ y fails. absurd (holds y fails);
  }

  -- the tickets that were gained
  pub gained_is : (opened : List Ticket) → Keeps before opened after → gained before after ≡ opened
  gained_is opened keeps = ap (drop (length before.tickets)) keeps.tickets ∙ drop-append_seam before.tickets opened

  -- what was opened, after an answer or a stop
  pub opened_nodes : (result : Result CubeAnswer SearchStop) → IfOk result (CubeAnswered before after index a low) → IfErr result (CubeStopped before after a low) → HasOpened before after a low
  opened_nodes (Ok answer) ok stop = record { opened = ok.opened; is = gained_is ok.opened ok.keeps; keeps = ok.keeps; nodes = ok.nodes }
  opened_nodes (Err why) ok stop = record { opened = stop.stopped.opened; is = gained_is stop.stopped.opened stop.stopped.keeps; keeps = stop.stopped.keeps; nodes = stop.stopped.nodes }

  -- what the pass keeps
  pub clause_keeps : (result : Result CubeAnswer SearchStop) → IfOk result (CubeAnswered before after index a low) → IfErr result (CubeStopped before after a low) → Keeps before (gained before after) after
  clause_keeps result ok stop = let has = opened_nodes result ok stop in subst (λ l. Keeps before l after) (sym has.is) has.keeps

  -- the nodes are different ones of the cube
  pub clause_nodes : (result : Result CubeAnswer SearchStop) → IfOk result (CubeAnswered before after index a low) → IfErr result (CubeStopped before after a low) → AreNodes (IsNodeUnder before.frame a low) (gained before after)
  clause_nodes result ok stop = let has = opened_nodes result ok stop in subst (AreNodes (IsNodeUnder before.frame a low)) (sym has.is) has.nodes

  -- so there are as many
  pub clause_most : (result : Result CubeAnswer SearchStop) → IfOk result (CubeAnswered before after index a low) → IfErr result (CubeStopped before after a low) → HoldsOfMany (IsNodeUnder before.frame a low) (length (gained before after))
  clause_most result ok stop = many_nodes (IsNodeUnder before.frame a low) (gained before after) (clause_nodes result ok stop)

  -- and no more than their number were opened
  pub clause_need : (result : Result CubeAnswer SearchStop) → IfOk result (CubeAnswered before after index a low) → IfErr result (CubeStopped before after a low) → (n : ℕ) → IsNumberOf (IsNodeUnder before.frame a low) n → length (gained before after) ≤ n
  clause_need result ok stop n number = at_most (IsNodeUnder before.frame a low) (length (gained before after)) n (clause_most result ok stop) number

  -- the answer is right
  pub clause_right : (result : Result CubeAnswer SearchStop) → IfOk result (CubeAnswered before after index a low) → IfOk result (IsRight before.frame after.known a)
  clause_right (Ok answer) ok = ok.right
  clause_right (Err why) ok = tt

  -- the pass is ready
  pub clause_ready : (result : Result CubeAnswer SearchStop) → IfOk result (CubeAnswered before after index a low) → IfOk result (λ _. IsReady after index)
  clause_ready (Ok answer) ok = ok.stands.ready
  clause_ready (Err why) ok = tt

  -- completions were opened
  pub clause_opened : (result : Result CubeAnswer SearchStop) → IfOk result (CubeAnswered before after index a low) → IfOk result (AreFoundAmong (gained before after))
  clause_opened (Ok answer) ok = subst (λ l. AreFoundAmong l answer) (sym (gained_is ok.opened ok.keeps)) ok.found
  clause_opened (Err why) ok = tt

  -- each node is settled
  pub clause_settled : (result : Result CubeAnswer SearchStop) → IfOk result (CubeAnswered before after index a low) → IfOk result (λ _. AreSettled before.frame after.known (gained before after))
  clause_settled (Ok answer) ok = subst (AreSettled before.frame after.known) (sym (gained_is ok.opened ok.keeps)) ok.settled
  clause_settled (Err why) ok = tt

  -- the first set that fails
  pub clause_first : (result : Result CubeAnswer SearchStop) → IfOk result (CubeAnswered before after index a low) → IfErr result (CubeStopped before after a low) → AnswersFirst before.frame a result (gained before after)
  clause_first (Ok answer) ok stop = record {
    found = λ y fails. (let x = ok.refuted y fails in (x.0, ap Ok x.1));
    first = λ x same. (let is : answer ≡ Refuted (Test x) = cc in let first = ok.first x is in (first.0, gained_is ok.opened ok.keeps ∙ first.1));
  }
  clause_first (Err why) ok stop = record {
    found = λ y fails. absurd (stop.holds y fails);
    first = λ x same. absurd (cc);
  }

  -- how a stop for want of tickets left it
  pub ran_out : (why : SearchStop) → CubeStopped before after a low why → why ≡ Over → (opened : List Ticket) × Keeps before opened after × AreNodes (IsNodeUnder before.frame a low) opened × RanOut after before.frame a low opened
  ran_out Over stop is = (stop.stopped.opened, stop.stopped.keeps, stop.stopped.nodes, stop.stopped.ends)
  ran_out Memory stop is = absurd (cc)

  -- the pass was told so
  pub clause_over : (result : Result CubeAnswer SearchStop) → IfErr result (CubeStopped before after a low) → result ≡ Err Over → 0 < after.ticket_ends
  clause_over (Ok answer) stop is = absurd (cc)
  clause_over (Err why) stop is = let same : why ≡ Over = cc in let out = ran_out why stop same in out.3.told

  -- then a further node was not opened
  pub clause_fewer : (result : Result CubeAnswer SearchStop) → IfErr result (CubeStopped before after a low) → result ≡ Err Over → HoldsOfMany (IsNodeUnder before.frame a low) (length (gained before after) + 1)
  clause_fewer (Ok answer) stop is = absurd (cc)
  clause_fewer (Err why) stop is =
      let same : why ≡ Over = cc in
      let out = ran_out why stop same in
      subst (λ l. HoldsOfMany (IsNodeUnder before.frame a low) (length l + 1)) (sym (gained_is out.0 out.1)) (one_more_node (IsNodeUnder before.frame a low) out.0 out.3.further out.2 out.3.is_node out.3.not_opened)

  -- and all but the nodes of one chain are settled
  pub clause_chain : (result : Result CubeAnswer SearchStop) → IfErr result (CubeStopped before after a low) → result ≡ Err Over → AreSettledButOneChain before.frame after.known (gained before after)
  clause_chain (Ok answer) stop is = absurd (cc)
  clause_chain (Err why) stop is =
      let same : why ≡ Over = cc in
      let out = ran_out why stop same in
      subst (AreSettledButOneChain before.frame after.known) (sym (gained_is out.0 out.1)) (record { chain = out.3.chain; nested = out.3.nested; each = out.3.each })
