-- What holds between the steps of a search.
use Rattle.std.proofs.Common.{◌≡◌, ℕ, zero, suc, ◌+◌, ◌<◌, if◌then◌else◌, List, [], ◌∷◌, ◌++◌, length, get_or, set, refl, sym, ap, subst, ◌∙◌, arith, Contains, Option, Some, None}
use Rattle.std.proofs.Math.Path.{fun_ext}
use Rattle.std.proofs.Common.{◌≢◌, ◌≤◌, ◌↔◌, ⊎_elim}
use Rattle.std.specs.Prelude.{MatchOption}
use Rattle.std.proofs.lemmas.Bool.{cases_eq}
use Rattle.mr_field.specs.Gf.{order}
use Rattle.mr_assign.specs.Assign.{IsAssign}
use Rattle.mr_assign.specs.declared.TheConstants.{POSITIONS}
use Rattle.mr_frame.specs.Frame.{Framed}
use Rattle.mr_frame.specs.Test.{SetFails}
use Rattle.mr_frame.specs.Completion.{IsCompletion}
use Rattle.mr_nogood.specs.Follows.{in_slots}
use Rattle.mr_nogood.specs.declared.row.Cite.{Cite}
use Rattle.mr_nogood.specs.declared.row.Cite.TheVariants.{Nothing, Test, Slot}
use Rattle.mr_nogood.specs.declared.row.Row.{Row}
use Rattle.mr_exchange.specs.declared.TheConstants.{NODES}
use Rattle.mr_exchange.specs.declared.answer.CubeAnswer.TheVariants.{Refuted}
use Rattle.mr_exchange.specs.declared.problem.Problem.{Problem}
use Rattle.mr_exchange.specs.Cubes.{IsCube}
use Rattle.mr_exchange.specs.Events.{IsNodeOf, with_row}
use Rattle.mr_exchange.specs.Right.{IsRight}
use Rattle.mr_exchange.specs.State.{slots_of}
use Rattle.mr_exchange.specs.Board.{Holding, BoardFacts, CanPublish, Published, GainsCube, new_holding}
use Rattle.mr_exchange.specs.Rank.{HasLeastRank}
use Rattle.mr_exchange.proofs.CubesInOrder.{few_places}
use Rattle.mr_exchange.proofs.Totals.{eq_cases}
use Rattle.mr_nogood.specs.Follows.{Follows}
use Rattle.mr_propagate.specs.Index.{NothingInside, IsLeastInside, IsExcludedBy, IsOpenAt, NoneFailsAt, IsFirstFailingAt}
use Rattle.mr_search.specs.declared.outcome.Outcome.TheVariants.{Completed, Excluded}
use Rattle.mr_search.specs.Nodes.{IsNodeUnder}
use Rattle.mr_search.specs.Search.{Learnt, IsReady}
use Rattle.mr_search.specs.Private.Steps.{IsInside, Stands, CanSearch, Opens, Answered}
use Rattle.mr_search.specs.Private.Citing.{AreCites}
use Rattle.mr_search.proofs.Listing.{nodes_none}
use Rattle.mr_search.proofs.Keeping.{keeps_all}
use Rattle.mr_search.proofs.Children.{child_values, child_of_cube, child_holds}
use Rattle.mr_search.proofs.Completing.{clause_excludes, from_child}
use Rattle.mr_search.proofs.Settling.{some_member}
use Rattle.mr_set.proofs.Ordered.{member_none}

-- the index has just the known rows
pub same_rows : (index : List (Option Row)) (h : Holding) → Learnt index h → in_slots index ≡ h.known
same_rows index h learnt = fun_ext learnt

-- the rank of a row that was learnt is below the most nodes
pub ranks_low : (h : Holding) (index : List (Option Row)) → Stands h index → (s : ℕ) (row : Row) → in_slots index s ≡ Some row → row.rank < NODES
ranks_low h index stands s row there =
    let known = stands.facts.known s row (sym (stands.ready.learnt s) ∙ there) in
    let low = known.rank in
    let nodes = ap (λ (x : Problem). x.nodes) stands.facts.problem.is in
    let few = stands.facts.problem.few_nodes in
    omega (arith, low, nodes, few)

-- what is inside by the index is inside by what is known
pub inside_known : (index : List (Option Row)) (h : Holding) (node : List ℕ) (s : ℕ) → Learnt index h → IsLeastInside (in_slots index) node s → IsInside h.known node s
inside_known index h node s learnt inside = record { row = inside.row; has = sym (learnt s) ∙ inside.has; inside = inside.inside }

-- what isn't, isn't
pub nothing_known : (index : List (Option Row)) (h : Holding) (node : List ℕ) → Learnt index h → NothingInside (in_slots index) node → NothingInside h.known node
nothing_known index h node learnt none s row is = none s row (learnt s ∙ is)

-- and the other way round
pub nothing_learnt : (index : List (Option Row)) (h : Holding) (node : List ℕ) → Learnt index h → NothingInside h.known node → NothingInside (in_slots index) node
nothing_learnt index h node learnt none s row is = none s row (sym (learnt s) ∙ is)

-- a node that was opened may be searched on, where no row is inside
pub can_opened : (before mid : Holding) (old index : List (Option Row)) (node : List ℕ) (p ticket : ℕ) → CanSearch before old node p → Opens before mid index node ticket → NothingInside (in_slots index) node → CanSearch mid index node p
can_opened before mid old index node p ticket can opens nothing =
    let keeps = opens.keeps in record {
      stands = opens.stands;
      values = subst (λ f. IsCube f p node) (sym keeps.frame) can.values;
      of_cube = subst (λ f. IsNodeOf f mid.problem.depth mid.cubes node) (sym keeps.frame)
          (subst (λ (q : Problem). IsNodeOf before.frame q.depth mid.cubes node) (sym keeps.problem) (subst (λ cs. IsNodeOf before.frame before.problem.depth cs node) (sym keeps.cubes) can.of_cube));
      holds = subst (λ f. (x : List ℕ) → ¬ (SetFails f node x)) (sym keeps.frame) can.holds;
      nothing = nothing_known index mid node opens.stands.ready.learnt nothing;
    }

module _ (h : Holding) (index : List (Option Row)) (node : List ℕ) (p v : ℕ) (can : CanSearch h index node p) (free : p < length h.frame.places) (some : 0 < v) (small : v < order h.frame.field) where
  -- there are few positions
  pub place_within : p < POSITIONS
  place_within = omega (arith, few_places h.frame can.stands.facts.frame)

  -- the node with a value that nothing excludes may be searched
  pub can_child : IsAssign (set node p v) → IsOpenAt h.frame (in_slots index) node p v → CanSearch h index (set node p v) (p + 1)
  can_child map none =
      let values = child_values h.frame node p can.values v free place_within some small map in record {
        stands = can.stands;
        values = values;
        of_cube = child_of_cube h.frame node p can.values v h.problem.depth h.cubes values.assignment can.of_cube;
        holds = child_holds h.frame node p can.values v can.stands.facts.frame can.holds none.0;
        nothing = nothing_known index h (set node p v) can.stands.ready.learnt none.1;
      }

  -- the same of a map that is it
  pub child_can : (child : List ℕ) → child ≡ set node p v → IsAssign child → IsOpenAt h.frame (in_slots index) node p v → CanSearch h index child (p + 1)
  child_can child is map none = subst (λ a. CanSearch h index a (p + 1)) (sym is) (can_child (subst IsAssign is map) none)

  -- where it is excluded, that is its answer
  excluded_right : (cite : Cite) → IsExcludedBy h.frame (in_slots index) node p v cite → IsRight h.frame h.known (set node p v) (Refuted cite)
  excluded_right Nothing why = why
  excluded_right (Test x) why = why.fails
  excluded_right (Slot s) why = let inside = inside_known index h (set node p v) s can.stands.ready.learnt why.1 in (inside.row, inside.has, inside.inside)

  -- nothing was opened for it
  pub answers_excluded : (old : List (List ℕ)) (cite : Cite) → IsExcludedBy h.frame (in_slots index) node p v cite → Answered h.frame h h index (set node p v) (p + 1) old old (Excluded cite)
  answers_excluded old cite why = record {
    opened = [];
    keeps = keeps_all h;
    nodes = nodes_none (IsNodeUnder h.frame (set node p v) (p + 1));
    stands = can.stands;
    settled = λ t has. absurd (member_none t has);
    outcome_is = (refl, excluded_right cite why);
  }

  -- where it has completions no row is inside the node
  pub nothing_completed : (after : Holding) (more : List (Option Row)) (old new : List (List ℕ)) → Answered h.frame h after more (set node p v) (p + 1) old new Completed → NothingInside after.known node
  nothing_completed after more old new answered slot row is inside =
      let found = answered.outcome_is in
      let c = some_member found.completions found.some in
      let done = from_child h.frame node p can.values v c.0 ((found.are.exactly c.0).0 c.1) in
      clause_excludes after slot row node c.0 answered.stands.facts is inside (subst (λ f. IsCompletion f node c.0) (sym answered.keeps.frame) done)

-- after a publication the pass stands as before, with the row learnt
pub stands_published : (h after : Holding) (index more : List (Option Row)) (slot : ℕ) (row : Row) → Stands h index → Published h slot row after → BoardFacts after → ((s : ℕ) → in_slots more s ≡ with_row (in_slots index) slot row s) → Stands after more
stands_published h after index more slot row stands is facts learns = record {
  ready = record {
    no_end = ap (λ (g : Holding). g.ticket_ends) is ∙ stands.ready.no_end;
    looked = (let due = stands.ready.looked in let looks = ap (λ (g : Holding). g.looks) is in let tickets = ap (λ (g : Holding). length g.tickets) is in omega arith);
    learnt = λ s. learns s ∙ eq_cases s slot (λ b. (if b then Some row else in_slots index s) ≡ (if b then Some row else h.known s)) (λ e. refl) (λ n. stands.ready.learnt s) ∙ sym (ap (λ (g : Holding). g.known s) is);
  };
  facts = facts;
}

-- a row that follows by the index may be published
pub can_publish : (h : Holding) (index : List (Option Row)) (f : Framed) (slot : ℕ) (row : Row) → Stands h index → f ≡ h.frame → Contains (slots_of h.tickets) slot → h.known slot ≡ None → Follows f (in_slots index) row → HasLeastRank (in_slots index) row → CanPublish h slot row
can_publish h index f slot row stands frame own unknown follows rank =
    let same = same_rows index h stands.ready.learnt in record {
      own = own;
      empty = unknown;
      follows = subst (λ rows. Follows h.frame rows row) same (subst (λ g. Follows g (in_slots index) row) frame follows);
      rank = subst (λ rows. HasLeastRank rows row) same rank;
    }

-- the cites by the index
pub cites_learnt : (h : Holding) (index : List (Option Row)) (f : Framed) (node : List ℕ) (p : ℕ) (cites : List Cite) → Stands h index → f ≡ h.frame → AreCites h.frame h.known node p cites → AreCites f (in_slots index) node p cites
cites_learnt h index f node p cites stands frame are = subst (λ g. AreCites g (in_slots index) node p cites) (sym frame) (subst (λ rows. AreCites h.frame rows node p cites) (sym (same_rows index h stands.ready.learnt)) are)

-- a free position is one of a map
pub few_positions : (h : Holding) (index : List (Option Row)) (node : List ℕ) (p : ℕ) → CanSearch h index node p → p < length h.frame.places → p < POSITIONS
few_positions h index node p can free = omega (arith, few_places h.frame can.stands.facts.frame)

-- a node has no more values than there are positions
pub cube_within : (h : Holding) (index : List (Option Row)) (node : List ℕ) (p : ℕ) → CanSearch h index node p → p ≤ POSITIONS
cube_within h index node zero can = omega arith
cube_within h index node (suc q) can =
    let lt = (can.values.assignment q ((can.values.just q).1 (omega arith))).0 in
    omega (arith, few_places h.frame can.stands.facts.frame)

-- a node that is filled below a position has no values from it on
pub none_from : (node : List ℕ) (p : ℕ) → ((q : ℕ) → (get_or node q 0 ≢ 0) ↔ (q < p)) → (q : ℕ) → p ≤ q → get_or node q 0 ≡ 0
none_from node p filled q le = ⊎_elim
    (λ (zero : get_or node q 0 ≡ 0). zero)
    (λ (some : get_or node q 0 ≢ 0). (let low = (filled q).0 some in absurd (omega arith)))
    (cases_eq (get_or node q 0) 0)

-- what is known of the sets of a frame is known of them later
pub first_again : (before now : Holding) (node : List ℕ) (p v : ℕ) (first : Option (List ℕ)) → now.frame ≡ before.frame →
    MatchOption first (NoneFailsAt before.frame (set node p v) p) (IsFirstFailingAt before.frame (set node p v) p) → MatchOption first (NoneFailsAt now.frame (set node p v) p) (IsFirstFailingAt now.frame (set node p v) p)
first_again before now node p v first same given = subst (λ f. MatchOption first (NoneFailsAt f (set node p v) p) (IsFirstFailingAt f (set node p v) p)) (sym same) given

-- eight times no cite
pub no_cites : (k : ℕ) → get_or (Nothing ∷ Nothing ∷ Nothing ∷ Nothing ∷ Nothing ∷ Nothing ∷ Nothing ∷ Nothing ∷ []) k Nothing ≡ Nothing
no_cites zero = refl
no_cites (suc zero) = refl
no_cites (suc (suc zero)) = refl
no_cites (suc (suc (suc zero))) = refl
no_cites (suc (suc (suc (suc zero)))) = refl
no_cites (suc (suc (suc (suc (suc zero))))) = refl
no_cites (suc (suc (suc (suc (suc (suc zero)))))) = refl
no_cites (suc (suc (suc (suc (suc (suc (suc zero))))))) = refl
no_cites (suc (suc (suc (suc (suc (suc (suc (suc k)))))))) = refl

-- a new pass that has claimed a cube is ready
pub ready_new : (h after : Holding) (index : List (Option Row)) (f : Framed) (problem : Problem) (cube : ℕ) → h ≡ new_holding f problem → GainsCube h cube after → index ≡ [] → IsReady after index
ready_new h after index f problem cube new gains none =
    let is : after ≡ record (new_holding f problem) { cubes = h.cubes ++ cube ∷ [] } = gains.is ∙ ap (λ (g : Holding). record g { cubes = h.cubes ++ cube ∷ [] }) new in record {
      no_end = ap (λ (g : Holding). g.ticket_ends) is;
      looked = (let count = ap (λ (g : Holding). length g.tickets) is in omega arith);
      learnt = λ s. ap (λ (i : List (Option Row)). in_slots i s) none ∙ sym (ap (λ (g : Holding). g.known s) is);
    }
