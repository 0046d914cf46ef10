-- One more cube that was claimed and answered.
use Rattle.std.proofs.Common.{◌≡◌, ℕ, ◌+◌, ◌-◌, ◌<◌, ◌≤◌, List, [], ◌∷◌, ◌++◌, length, length-append, sym, ap, subst, ◌∙◌, ⊎_elim, arith, Contains, Option, Some}
use Rattle.std.specs.Prelude.{slice_get}
use Rattle.std.proofs.lemmas.List.Elements.{Contains-append_left, Contains-append_right}
use Rattle.std.proofs.lemmas.Option.{slice_get_within}
use Rattle.mr_set.proofs.Ordered.{member_first}
use Rattle.mr_frame.specs.Frame.{Framed}
use Rattle.mr_frame.specs.Test.{IsFirstFailing}
use Rattle.mr_nogood.specs.Follows.{Rows}
use Rattle.mr_nogood.specs.declared.row.Row.{Row}
use Rattle.mr_nogood.specs.declared.row.Cite.TheVariants.{Nothing, Test, Slot}
use Rattle.mr_exchange.specs.declared.ticket.Ticket.{Ticket}
use Rattle.mr_exchange.specs.declared.problem.Problem.{Problem}
use Rattle.mr_exchange.specs.declared.answer.CubeAnswer.{CubeAnswer}
use Rattle.mr_exchange.specs.declared.answer.CubeAnswer.TheVariants.{Found, Refuted}
use Rattle.mr_exchange.specs.Cubes.{cube_at, cube_count, IsProblemOf}
use Rattle.mr_exchange.specs.Right.{IsRight}
use Rattle.mr_exchange.specs.Board.{Holding, BoardFacts, GainsCube}
use Rattle.mr_search.specs.Nodes.{IsNodeOfCube, HoldsOfMany}
use Rattle.mr_search.specs.Laws.{AreShared}
use Rattle.mr_search.specs.Search.{gained, Keeps, IsReady, AreNodes, AreFoundAmong}
use Rattle.mr_search.proofs.Listing.{nodes_append, nodes_map, opened_left, opened_right}
use Rattle.mr_search.proofs.Needing.{many_nodes}
use Rattle.mr_search.proofs.Sharing.{cubes_share_the_nodes}
use Rattle.mr_search.proofs.Clauses.{cubes_of}
use Rattle.mr_pool.specs.Answers.{number_found}
use Rattle.mr_pool.specs.Private.Answers.{IsNodeOfOne, HasAnswered, HasServed}
use Rattle.mr_pool.proofs.Places.{get_push, sum_push, many_join}

-- an answer stays right where more rows are there
pub still_right : (f : Framed) (rows more : Rows) (a : List ℕ) (answer : CubeAnswer) → ((s : ℕ) (row : Row) → rows s ≡ Some row → more s ≡ Some row) → IsRight f rows a answer → IsRight f more a answer
still_right f rows more a (Found xs) grows is = is
still_right f rows more a (Refuted Nothing) grows is = is
still_right f rows more a (Refuted (Test x)) grows is = is
still_right f rows more a (Refuted (Slot s)) grows is = (is.0, grows s is.0 is.1, is.2)

-- what the completions of an answer are at most
few_found : (tickets : List Ticket) (answer : CubeAnswer) → AreFoundAmong tickets answer → number_found answer ≤ length tickets
few_found tickets (Found xs) found = found.1
few_found tickets (Refuted cite) found = omega arith

module _ (f : Framed) (depth : ℕ) (shared : AreShared f depth) (cubes : List ℕ) (cube : ℕ) (low : (c : ℕ) → Contains cubes c → c < cube_count f depth) (in_range : cube < cube_count f depth) (new : ¬ (Contains cubes cube)) where
  -- a node of one of the cubes is one of one of more
  older : (a : List ℕ) → IsNodeOfOne f depth cubes a → IsNodeOfOne f depth (cubes ++ cube ∷ []) a
  older a node = record { cube = node.cube; among = Contains-append_left cubes (cube ∷ []) node.cube node.among; is = node.is }

  -- so is a node of the new one
  newer : (a : List ℕ) → IsNodeOfCube f depth cube a → IsNodeOfOne f depth (cubes ++ cube ∷ []) a
  newer a node = record { cube = cube; among = Contains-append_right cubes (cube ∷ []) cube (member_first cube []); is = node }

  -- no node is both
  apart : (a : List ℕ) → IsNodeOfOne f depth cubes a → ¬ (IsNodeOfCube f depth cube a)
  apart a node other = new (subst (Contains cubes) (shared.one node.cube cube a (low node.cube node.among) in_range node.is other) node.among)

  -- what was opened of the cubes and of the new one are different nodes
  pub nodes_more : (tickets more : List Ticket) → AreNodes (IsNodeOfOne f depth cubes) tickets → AreNodes (IsNodeOfCube f depth cube) more → AreNodes (IsNodeOfOne f depth (cubes ++ cube ∷ [])) (tickets ++ more)
  nodes_more tickets more first second = nodes_append (IsNodeOfOne f depth (cubes ++ cube ∷ [])) tickets more
      (nodes_map (IsNodeOfOne f depth cubes) (IsNodeOfOne f depth (cubes ++ cube ∷ [])) tickets older first)
      (nodes_map (IsNodeOfCube f depth cube) (IsNodeOfOne f depth (cubes ++ cube ∷ [])) more newer second)
      (λ s t x y same. apart t.node (subst (IsNodeOfOne f depth cubes) same (first.each s x)) (second.each t y))

  -- there are so many together
  pub many_more : (tickets more : List Ticket) → AreNodes (IsNodeOfOne f depth cubes) tickets → HoldsOfMany (IsNodeOfCube f depth cube) (length more + 1) → HoldsOfMany (IsNodeOfOne f depth (cubes ++ cube ∷ [])) (length (tickets ++ more) + 1)
  many_more tickets more first second = subst (HoldsOfMany (IsNodeOfOne f depth (cubes ++ cube ∷ []))) (let long = length-append tickets more in omega arith)
      (many_join (IsNodeOfOne f depth cubes) (IsNodeOfCube f depth cube) (IsNodeOfOne f depth (cubes ++ cube ∷ [])) (length tickets) (length more + 1) older newer apart (many_nodes (IsNodeOfOne f depth cubes) tickets first) second)

  -- the answer of the new one stands behind the others
  pub answered_more : (tickets more : List Ticket) (rows rows' : Rows) (answers : List CubeAnswer) (answer : CubeAnswer) → ((s : ℕ) (row : Row) → rows s ≡ Some row → rows' s ≡ Some row)
      → HasAnswered f depth cubes tickets rows answers → AreNodes (IsNodeOfCube f depth cube) more → IsRight f rows' (cube_at f depth cube) answer
      → ((x : List ℕ) → answer ≡ Refuted (Test x) → IsFirstFailing f (cube_at f depth cube) x) → AreFoundAmong more answer
      → HasAnswered f depth (cubes ++ cube ∷ []) (tickets ++ more) rows' (answers ++ answer ∷ [])
  answered_more tickets more rows rows' answers answer grows was nodes right first found = record {
    count = (let a = length-append answers (answer ∷ []) in let b = length-append cubes (cube ∷ []) in let c = was.count in omega arith);
    right = λ k c z at there. ⊎_elim
        (λ (old : slice_get answers k ≡ Some z). ⊎_elim
        (λ (before : slice_get cubes k ≡ Some c). still_right f rows rows' (cube_at f depth c) z grows (was.right k c z before old))
        (λ (last : (k ≡ length cubes) × (cube ≡ c)). (let in_list = slice_get_within answers k z old in let is = last.0 in let same = was.count in absurd (omega arith)))
        (get_push cubes cube k c at))
        (λ (late : (k ≡ length answers) × (answer ≡ z)). ⊎_elim
        (λ (before : slice_get cubes k ≡ Some c). (let in_list = slice_get_within cubes k c before in let is = late.0 in let same = was.count in absurd (omega arith)))
        (λ (last : (k ≡ length cubes) × (cube ≡ c)). subst (λ d. IsRight f rows' (cube_at f depth d) z) last.1 (subst (IsRight f rows' (cube_at f depth cube)) late.1 right))
        (get_push cubes cube k c at))
        (get_push answers answer k z there);
    first = λ k c x at there. ⊎_elim
        (λ (old : slice_get answers k ≡ Some (Refuted (Test x))). ⊎_elim
        (λ (before : slice_get cubes k ≡ Some c). was.first k c x before old)
        (λ (last : (k ≡ length cubes) × (cube ≡ c)). (let in_list = slice_get_within answers k (Refuted (Test x)) old in let is = last.0 in let same = was.count in absurd (omega arith)))
        (get_push cubes cube k c at))
        (λ (late : (k ≡ length answers) × (answer ≡ Refuted (Test x))). ⊎_elim
        (λ (before : slice_get cubes k ≡ Some c). (let in_list = slice_get_within cubes k c before in let is = late.0 in let same = was.count in absurd (omega arith)))
        (λ (last : (k ≡ length cubes) × (cube ≡ c)). subst (λ d. IsFirstFailing f (cube_at f depth d) x) last.1 (first x late.1))
        (get_push cubes cube k c at))
        (get_push answers answer k (Refuted (Test x)) there);
    opened = λ k xs c there has. ⊎_elim
        (λ (old : slice_get answers k ≡ Some (Found xs)). opened_left tickets more c (was.opened k xs c old has))
        (λ (late : (k ≡ length answers) × (answer ≡ Found xs)). opened_right tickets more c ((subst (AreFoundAmong more) late.1 found).0 c has))
        (get_push answers answer k (Found xs) there);
    few = (let long = length-append tickets more in let sum = sum_push number_found answers answer in let had = was.few in let now = few_found more answer found in omega arith);
    nodes = nodes_more tickets more was.nodes nodes;
  }

-- what is told of the search of a cube
pub record IsTold (h after : Holding) (cube : ℕ) (answer : CubeAnswer) : Type 0 where
  pub right : IsRight h.frame after.known (cube_at h.frame h.problem.depth cube) answer
  pub first : (x : List ℕ) → answer ≡ Refuted (Test x) → IsFirstFailing h.frame (cube_at h.frame h.problem.depth cube) x
  pub found : AreFoundAmong (gained h after) answer

-- how few positions a problem splits
pub few_split : (f : Framed) (problem : Problem) → IsProblemOf f problem → problem.depth ≤ length f.places
few_split f problem is = let same = ap (λ (p : Problem). p.depth) is.is in omega arith

-- the pass with one more cube
abbrev with_cube : Holding → ℕ → Holding
with_cube h cube = record h { cubes = h.cubes ++ cube ∷ [] }

module _ (h after : Holding) (cube : ℕ) (facts : BoardFacts (with_cube h cube)) (new : ¬ (Contains h.cubes cube)) (keeps : Keeps (with_cube h cube) (gained (with_cube h cube) after) after) (nodes : AreNodes (IsNodeOfCube h.frame h.problem.depth cube) (gained (with_cube h cube) after)) where
  -- what was opened of the cube
  abbrev more : List Ticket
  more = gained (with_cube h cube) after

  -- the cubes share the nodes
  shared : AreShared h.frame h.problem.depth
  shared = cubes_share_the_nodes h.frame h.problem.depth facts.frame (few_split h.frame h.problem facts.problem)

  -- the cubes are in range
  low : (c : ℕ) → Contains (h.cubes ++ cube ∷ []) c → c < cube_count h.frame h.problem.depth
  low c has = subst (λ n. c < n) (cubes_of h.frame h.problem facts.problem) (facts.cubes c has)

  -- the old ones
  low_old : (c : ℕ) → Contains h.cubes c → c < cube_count h.frame h.problem.depth
  low_old c has = low c (Contains-append_left h.cubes (cube ∷ []) c has)

  -- the new one
  low_new : cube < cube_count h.frame h.problem.depth
  low_new = low cube (Contains-append_right h.cubes (cube ∷ []) cube (member_first cube []))

  -- what is opened are nodes of the cubes
  nodes_from : AreNodes (IsNodeOfOne h.frame h.problem.depth h.cubes) h.tickets → AreNodes (IsNodeOfOne after.frame after.problem.depth after.cubes) after.tickets
  nodes_from was =
      subst (λ f. AreNodes (IsNodeOfOne f after.problem.depth after.cubes) after.tickets) (sym keeps.frame)
      (subst (λ (p : Problem). AreNodes (IsNodeOfOne h.frame p.depth after.cubes) after.tickets) (sym keeps.problem)
      (subst (λ l. AreNodes (IsNodeOfOne h.frame h.problem.depth l) after.tickets) (sym keeps.cubes)
      (subst (AreNodes (IsNodeOfOne h.frame h.problem.depth (h.cubes ++ cube ∷ []))) (sym keeps.tickets)
      (nodes_more h.frame h.problem.depth shared h.cubes cube low_old low_new new h.tickets more was nodes))))

  -- and there is one more
  many_from : AreNodes (IsNodeOfOne h.frame h.problem.depth h.cubes) h.tickets → HoldsOfMany (IsNodeOfCube h.frame h.problem.depth cube) (length more + 1) → HoldsOfMany (IsNodeOfOne after.frame after.problem.depth after.cubes) (length after.tickets + 1)
  many_from was many =
      subst (λ f. HoldsOfMany (IsNodeOfOne f after.problem.depth after.cubes) (length after.tickets + 1)) (sym keeps.frame)
      (subst (λ (p : Problem). HoldsOfMany (IsNodeOfOne h.frame p.depth after.cubes) (length after.tickets + 1)) (sym keeps.problem)
      (subst (λ l. HoldsOfMany (IsNodeOfOne h.frame h.problem.depth l) (length after.tickets + 1)) (sym keeps.cubes)
      (subst (λ (l : List Ticket). HoldsOfMany (IsNodeOfOne h.frame h.problem.depth (h.cubes ++ cube ∷ [])) (length l + 1)) (sym keeps.tickets)
      (many_more h.frame h.problem.depth shared h.cubes cube low_old low_new new h.tickets more was many))))

  -- the cube is answered
  served_from : (answers : List CubeAnswer) (answer : CubeAnswer) → IsTold (with_cube h cube) after cube answer → HasServed h answers → HasServed after (answers ++ answer ∷ [])
  served_from answers answer told was =
      subst (λ f. HasAnswered f after.problem.depth after.cubes after.tickets after.known (answers ++ answer ∷ [])) (sym keeps.frame)
      (subst (λ (p : Problem). HasAnswered h.frame p.depth after.cubes after.tickets after.known (answers ++ answer ∷ [])) (sym keeps.problem)
      (subst (λ l. HasAnswered h.frame h.problem.depth l after.tickets after.known (answers ++ answer ∷ [])) (sym keeps.cubes)
      (subst (λ l. HasAnswered h.frame h.problem.depth (h.cubes ++ cube ∷ []) l after.known (answers ++ answer ∷ [])) (sym keeps.tickets)
      (answered_more h.frame h.problem.depth shared h.cubes cube low_old low_new new h.tickets more h.known after.known answers answer keeps.known was nodes told.right told.first told.found))))

-- a claim gave this cube, which was searched
pub record IsTried (h k after : Holding) (cube : ℕ) : Type 0 where
  pub gains : GainsCube h cube k
  pub facts : BoardFacts k
  pub keeps : Keeps k (gained k after) after
  pub nodes : AreNodes (IsNodeOfCube k.frame k.problem.depth cube) (gained k after)

-- what was opened are nodes of the cubes
pub nodes_tried : (h k after : Holding) (cube : ℕ) → IsTried h k after cube → AreNodes (IsNodeOfOne h.frame h.problem.depth h.cubes) h.tickets → AreNodes (IsNodeOfOne after.frame after.problem.depth after.cubes) after.tickets
nodes_tried h k after cube tried was =
    subst (λ (k : Holding). BoardFacts k → Keeps k (gained k after) after → AreNodes (IsNodeOfCube k.frame k.problem.depth cube) (gained k after) → AreNodes (IsNodeOfOne after.frame after.problem.depth after.cubes) after.tickets) (sym tried.gains.is)
    (λ facts keeps nodes. nodes_from h after cube facts tried.gains.new keeps nodes was) tried.facts tried.keeps tried.nodes

-- there is one more, where there is one more of this cube
pub many_tried : (h k after : Holding) (cube : ℕ) → IsTried h k after cube → AreNodes (IsNodeOfOne h.frame h.problem.depth h.cubes) h.tickets → HoldsOfMany (IsNodeOfCube k.frame k.problem.depth cube) (length (gained k after) + 1) → HoldsOfMany (IsNodeOfOne after.frame after.problem.depth after.cubes) (length after.tickets + 1)
many_tried h k after cube tried was many =
    subst (λ (k : Holding). BoardFacts k → Keeps k (gained k after) after → AreNodes (IsNodeOfCube k.frame k.problem.depth cube) (gained k after) → HoldsOfMany (IsNodeOfCube k.frame k.problem.depth cube) (length (gained k after) + 1) → HoldsOfMany (IsNodeOfOne after.frame after.problem.depth after.cubes) (length after.tickets + 1)) (sym tried.gains.is)
    (λ facts keeps nodes many. many_from h after cube facts tried.gains.new keeps nodes was many) tried.facts tried.keeps tried.nodes many

-- the cube is answered
pub served_tried : (h k after : Holding) (cube : ℕ) → IsTried h k after cube → (answers : List CubeAnswer) (answer : CubeAnswer) → IsTold k after cube answer → HasServed h answers → HasServed after (answers ++ answer ∷ [])
served_tried h k after cube tried answers answer told was =
    subst (λ (k : Holding). BoardFacts k → Keeps k (gained k after) after → AreNodes (IsNodeOfCube k.frame k.problem.depth cube) (gained k after) → IsTold k after cube answer → HasServed after (answers ++ answer ∷ [])) (sym tried.gains.is)
    (λ facts keeps nodes told. served_from h after cube facts tried.gains.new keeps nodes answers answer told was) tried.facts tried.keeps tried.nodes told

-- what the claim and the search leave as it was
pub record Stays (h after : Holding) : Type 0 where
  pub frame : after.frame ≡ h.frame
  pub problem : after.problem ≡ h.problem
  pub ends : after.claim_ends ≡ h.claim_ends

-- so it is
pub stays_tried : (h k after : Holding) (cube : ℕ) → IsTried h k after cube → Stays h after
stays_tried h k after cube tried = record {
  frame = tried.keeps.frame ∙ ap (λ (x : Holding). x.frame) tried.gains.is;
  problem = tried.keeps.problem ∙ ap (λ (x : Holding). x.problem) tried.gains.is;
  ends = tried.keeps.claim_ends ∙ ap (λ (x : Holding). x.claim_ends) tried.gains.is;
}

-- the pass that claimed is ready where it was
pub ready_claimed : (h k : Holding) (cube : ℕ) (index : List (Option Row)) → GainsCube h cube k → IsReady h index → IsReady k index
ready_claimed h k cube index gains ready = subst (λ (x : Holding). IsReady x index) (sym gains.is) (record { no_end = ready.no_end; looked = ready.looked; learnt = ready.learnt })

-- it has the cube
pub has_claimed : (h k : Holding) (cube : ℕ) → GainsCube h cube k → Contains k.cubes cube
has_claimed h k cube gains = subst (λ (x : Holding). Contains x.cubes cube) (sym gains.is) (Contains-append_right h.cubes (cube ∷ []) cube (member_first cube []))

-- fewer are left to claim
pub fewer_left : (h k after : Holding) (cube : ℕ) → IsTried h k after cube → after.problem.cubes + 1 - length after.cubes < h.problem.cubes + 1 - length h.cubes
fewer_left h k after cube tried =
    let few = tried.facts.few_cubes in
    let is = ap (λ (x : Holding). length x.cubes) tried.gains.is in
    let long = length-append h.cubes (cube ∷ []) in
    let same = ap (λ (x : Holding). x.problem.cubes) tried.gains.is in
    let kept = ap (λ (p : Problem). p.cubes) tried.keeps.problem in
    let held = ap length tried.keeps.cubes in
    omega arith
