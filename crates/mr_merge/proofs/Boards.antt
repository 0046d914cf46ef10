-- What a closed board and right answers give.
use Rattle.std.proofs.Common.{◌≡◌, ◌≢◌, ◌≤◌, ◌+◌, ℕ, zero, suc, true, false, ◌==◌, List, [], ◌∷◌, length, map, get_or, Option, Some, refl, sym, ap, subst, ◌∙◌, arith}
use Rattle.std.specs.Prelude.{Contains, slice_get, flat_map, is_some}
use Rattle.std.proofs.lemmas.Bool.{eqb-true}
use Rattle.std.proofs.lemmas.List.{length-map, nil_from_length}
use Rattle.std.proofs.lemmas.List.Sums.{count_by-le-length}
use Rattle.mr_set.specs.Elements.{numbers_below}
use Rattle.mr_set.proofs.Ordered.{member_first}
use Rattle.mr_assign.specs.Assign.{no_values}
use Rattle.mr_frame.specs.Frame.{Framed, IsFrame}
use Rattle.mr_nogood.specs.declared.row.Row.{Row}
use Rattle.mr_nogood.specs.declared.row.Cite.{Cite}
use Rattle.mr_nogood.specs.declared.row.Cite.TheVariants.{Nothing, Test}
use Rattle.mr_nogood.specs.Follows.{Rows, Follows, Excludes, in_slots}
use Rattle.mr_nogood.proofs.Excluding.{more_rows_keep_what_follows, rows_that_follow_from_each_other_exclude}
use Rattle.mr_log.specs.declared.log.Log.{Log}
use Rattle.mr_log.specs.declared.TheConstants.{STEPS}
use Rattle.mr_exchange.specs.declared.problem.Problem.{Problem}
use Rattle.mr_exchange.specs.declared.answer.CubeAnswer.{CubeAnswer}
use Rattle.mr_exchange.specs.declared.answer.CubeAnswer.TheVariants.{Found, Refuted}
use Rattle.mr_exchange.specs.Cubes.{IsProblemOf, cube_at, cube_count}
use Rattle.mr_exchange.specs.Closed.{ClosedIs, IsClosed}
use Rattle.mr_exchange.specs.Right.{AreAnswers, AreCompletions, IsRight}
use Rattle.mr_exchange.proofs.OnePass.{length-numbers_below}
use Rattle.mr_exchange.proofs.Bounds.{cubes_are, nodes_are}
use Rattle.mr_merge.specs.declared.TheConstants.{PREFIXES}
use Rattle.mr_merge.specs.Answers.{HasFound}
use Rattle.mr_merge.specs.Private.Answers.{found_of, cite_of}
use Rattle.mr_merge.specs.Table.{TableIs, table_is, all_rows}
use Rattle.mr_merge.specs.Private.Table.{AreSupported}
use Rattle.mr_merge.specs.Steps.{AreStepsTo}
use Rattle.mr_merge.specs.Prefixes.{HaveRanksFrom}
use Rattle.mr_merge.specs.Private.Prefixes.{AreCited, AreAddedFrom}
use Rattle.mr_merge.specs.Merged.{IsMadeOf}
use Rattle.mr_merge.proofs.Joining.{element_at}
use Rattle.mr_merge.proofs.Answered.{found_are_forms}
use Rattle.mr_merge.proofs.Adding.{length-all_rows}
use Rattle.mr_merge.proofs.Shortening.{few_added}
use Rattle.mr_merge.proofs.Logging.{none_leads}

-- what holds of a closed board, whose frame and problem are these
module _ (f : Framed) (problem : Problem) (closed : ClosedIs) (frame_is : closed.frame ≡ f) (problem_is : closed.problem ≡ problem) (shown : IsClosed closed) where
  -- the frame is one
  pub board_frame : IsFrame f
  board_frame = subst IsFrame frame_is shown.frame

  -- the problem is one of it
  pub board_problem : IsProblemOf f problem
  board_problem = subst (IsProblemOf f) problem_is (subst (λ (g : Framed). IsProblemOf g closed.problem) frame_is shown.shown.possible)

  -- there is a slot for each node
  pub board_size : length closed.rows ≡ problem.nodes
  board_size = shown.shown.size ∙ ap (λ (p : Problem). p.nodes) problem_is

  -- its rows are supported
  pub board_supported : AreSupported f closed.rows
  board_supported = record {
    follow = λ s row is.
        let there = shown.shown.rows s ∙ is in
        let follows = subst (λ (g : Framed). Follows g shown.shown.state.rows row) (shown.shown.frame ∙ frame_is) (shown.shown.sound.proved.follows s row there) in
        more_rows_keep_what_follows f shown.shown.state.rows (in_slots closed.rows) row (λ t other at. sym (shown.shown.rows t) ∙ at) follows;
    low = λ s row is.
        let there = shown.shown.rows s ∙ is in
        let low = shown.shown.sound.proved.low s row there in
        let few = count_by-le-length (λ slot. is_some (shown.shown.state.rows slot)) (numbers_below shown.shown.state.problem.nodes) in
        let long = length-numbers_below shown.shown.state.problem.nodes in
        let nodes : shown.shown.state.problem.nodes ≡ closed.problem.nodes = ap (λ (p : Problem). p.nodes) shown.shown.problem in
        let size = shown.shown.size in
        omega arith;
  }

  -- so they exclude
  board_excludes : (s : ℕ) (row : Row) → in_slots closed.rows s ≡ Some row → Excludes f row
  board_excludes = rows_that_follow_from_each_other_exclude f (in_slots closed.rows) board_frame board_supported.follow

  -- all that was found are the forms
  pub forms_are : (answers : List CubeAnswer) → AreAnswers f problem (in_slots closed.rows) answers → AreCompletions f no_values (flat_map found_of answers)
  forms_are answers are = found_are_forms f problem (in_slots closed.rows) answers board_frame board_problem board_excludes are

  -- where nothing was found, each cube has a cite
  pub cubes_cited : (answers : List CubeAnswer) → AreAnswers f problem (in_slots closed.rows) answers → (HasFound answers → ⊥) → AreCited f (in_slots closed.rows) problem.depth (cube_count f problem.depth) (map cite_of answers)
  cubes_cited answers are none = record {
    count = length-map answers cite_of ∙ are.count ∙ cubes_are f problem board_problem;
    right = λ c lt.
        let all = are.count ∙ cubes_are f problem board_problem in
        let at = element_at answers c (omega arith) in
        subst (λ (x : Cite). IsRight f (in_slots closed.rows) (cube_at f problem.depth c) (Refuted x)) (sym (cite_there answers c at.0 at.1)) (refuted c at.0 at.1 (are.right c at.0 at.1));
  }
    where
      cite_there : (xs : List CubeAnswer) (c : ℕ) (answer : CubeAnswer) → slice_get xs c ≡ Some answer → get_or (map cite_of xs) c Nothing ≡ cite_of answer
      cite_there [] c answer is = cc
      cite_there (x ∷ xs) zero answer is = (let same : x ≡ answer = cc in ap cite_of same)
      cite_there (x ∷ xs) (suc c) answer is = cite_there xs c answer is

      refuted : (c : ℕ) (answer : CubeAnswer) → slice_get answers c ≡ Some answer → IsRight f (in_slots closed.rows) (cube_at f problem.depth c) answer → IsRight f (in_slots closed.rows) (cube_at f problem.depth c) (Refuted (cite_of answer))
      refuted c (Found xs) is right = absurd (none (c, xs, is))
      refuted c (Refuted cite) is right = right

  module _ (after : TableIs) (board : after.board ≡ closed.rows) (added : AreAddedFrom f problem.depth 0 after.added) where
    -- there are few slots
    pub few_slots : length (all_rows after) ≤ problem.nodes + PREFIXES
    few_slots =
        let long = length-all_rows after in
        let few = few_added f problem [] (table_is closed.rows []) board_problem 0 after.added added in
        let size = board_size in
        let same = ap length board in
        omega arith

    -- few enough for a log
    pub fit_log : length (all_rows after) ≤ STEPS
    fit_log = let few = few_slots in let nodes = nodes_are f problem board_problem in omega arith

    -- steps to the end are made of the board's rows and of few others
    pub made_of : HaveRanksFrom (length closed.rows) after.added → (end : Cite) (l : Log) → AreStepsTo (in_slots (all_rows after)) end l.steps l.last → IsMadeOf f problem closed.rows l
    made_of ranks end l steps = record {
      added = after.added;
      end = end;
      prefixes = added.rows;
      ranks = ranks;
      steps = subst (λ (rows : List (Option Row)). AreStepsTo (in_slots (all_rows (table_is rows after.added))) end l.steps l.last) board steps;
    }

-- where there are forms, something was found
pub some_found : (answers : List CubeAnswer) → flat_map found_of answers ≢ [] → HasFound answers
some_found [] some = absurd (some refl)
some_found (Found xs ∷ rest) some = (0, xs, refl)
some_found (Refuted cite ∷ rest) some = let found = some_found rest some in (suc found.0, found.1, found.2)

-- a list that isn't empty
pub not_empty : {X : Type 0} (xs : List X) → false ≡ (length xs == 0) → xs ≢ []
not_empty [] is = λ e. cc
not_empty (x ∷ xs) is = λ e. cc

-- and one that is
pub is_nil : {X : Type 0} (xs : List X) → true ≡ (length xs == 0) → xs ≡ []
is_nil xs is = nil_from_length xs (eqb-true (length xs) 0 (sym is))

-- a list without members is empty
no_members : (xs : List ℕ) → ((s : ℕ) → Contains xs s → ⊥) → xs ≡ []
no_members [] none = refl
no_members (x ∷ xs) none = absurd (none x (member_first x xs))

-- steps to a set are none, and the set is the last line's
pub steps_to_set : (rows : Rows) (x : List ℕ) (steps : List Row) (last : Cite) → AreStepsTo rows (Test x) steps last → (steps ≡ []) × (last ≡ Test x)
steps_to_set rows x steps last made =
    let empty = no_members made.slots (λ s inside. none_leads rows x s ((made.exactly s).0 inside)) in
    let count = made.count ∙ ap length empty in
    (nil_from_length steps count, made.last_is)
