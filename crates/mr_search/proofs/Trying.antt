-- The values at a position tried one after the other.
use Rattle.std.proofs.Common.{◌≡◌, ◌≢◌, ℕ, ◌+◌, ◌-◌, ◌<◌, ◌≤◌, ◌⊎◌, List, [], ◌∷◌, ◌++◌, length, length-append, get_or, set, refl, sym, ap, subst, ◌∙◌, inl, inr, ⊎_elim, arith, Contains, Option}
use Rattle.std.proofs.lemmas.Bool.{cases_eq}
use Rattle.std.proofs.lemmas.List.{append-nil, append_assoc}
use Rattle.std.proofs.lemmas.List.Elements.{Contains-append_left, Contains-append_right, Contains-append_cases}
use Rattle.mr_field.specs.Gf.{order}
use Rattle.mr_set.proofs.Ordered.{member_none}
use Rattle.mr_assign.specs.declared.TheConstants.{POSITIONS}
use Rattle.mr_frame.specs.Frame.{Framed}
use Rattle.mr_frame.specs.Test.{SetFails}
use Rattle.mr_frame.specs.Completion.{IsCompletion}
use Rattle.mr_nogood.specs.declared.row.Cite.{Cite}
use Rattle.mr_nogood.specs.declared.row.Cite.TheVariants.{Nothing, Slot}
use Rattle.mr_nogood.specs.declared.row.Row.{Row}
use Rattle.mr_exchange.specs.declared.answer.CubeAnswer.TheVariants.{Refuted}
use Rattle.mr_exchange.specs.declared.ticket.Ticket.{Ticket}
use Rattle.mr_exchange.specs.declared.problem.Problem.{Problem}
use Rattle.mr_exchange.specs.Cubes.{IsCube}
use Rattle.mr_exchange.specs.Events.{IsNodeOf}
use Rattle.mr_exchange.specs.Right.{IsRight}
use Rattle.mr_exchange.specs.Board.{Holding}
use Rattle.mr_propagate.specs.Index.{NothingInside}
use Rattle.mr_search.specs.declared.outcome.Outcome.TheVariants.{Completed, Excluded}
use Rattle.mr_search.specs.declared.outcome.SearchStop.{SearchStop}
use Rattle.mr_search.specs.declared.outcome.SearchStop.TheVariants.{Over, Memory}
use Rattle.mr_search.specs.Nodes.{IsNodeUnder}
use Rattle.mr_search.specs.Search.{Keeps, AreNodes, IsSettled}
use Rattle.mr_search.specs.Private.Steps.{IsInside, CanSearch, Answered, Stopped, RanOut, EndsBy, Through, Exhausted}
use Rattle.mr_search.proofs.Listing.{nodes_append, nodes_none, nodes_map, opened_left, opened_right}
use Rattle.mr_search.proofs.Keeping.{keeps_all, keeps_both}
use Rattle.mr_search.proofs.Children.{child_part, part_trans, under_child, under_value}
use Rattle.mr_search.proofs.Completing.{clause_excludes, refuted_none, below_one, below_more, below_none, below_all}
use Rattle.mr_search.proofs.Settling.{settled_more, settled_both, right_more, some_member}

-- a list is empty or not
empty_or_not : {X : Type 0} (xs : List X) → (xs ≡ []) ⊎ (xs ≢ [])
empty_or_not [] = inl refl
empty_or_not (x ∷ xs) = inr (λ none. cc)

-- the second part of an empty list is empty
pub right_none : {X : Type 0} (xs ys : List X) → xs ++ ys ≡ [] → ys ≡ []
right_none [] ys none = none
right_none (x ∷ xs) ys none = absurd (cc)

module _ (before : Holding) (node : List ℕ) (p : ℕ) (old : List (List ℕ)) (values : IsCube before.frame p node) (free : p < length before.frame.places) (within : p < POSITIONS) where
  -- no value was tried
  pub through_none : (index : List (Option Row)) (cites : List Cite) → CanSearch before index node p → ((k : ℕ) → get_or cites k Nothing ≡ Nothing) → Through before.frame before before index node p 1 old old cites
  through_none index cites can none = record {
    opened = [];
    keeps = keeps_all before;
    nodes = nodes_none (IsNodeUnder before.frame node (p + 1));
    below = λ t has. absurd (member_none t has);
    stands = can.stands;
    nothing = can.nothing;
    settled = λ t has. absurd (member_none t has);
    completions = [];
    is = sym (append-nil old);
    are = below_one before.frame node p values free;
    each = λ c has. absurd (member_none c has);
    few = omega arith;
    cited = λ empty k lt. absurd (omega arith);
    others = λ k le. none k;
  }

  module _ (now : Holding) (index : List (Option Row)) (v : ℕ) (new : List (List ℕ)) (cites : List Cite) (through : Through before.frame before now index node p v old new cites) where
    -- the node may still be searched
    pub can_again : (first : List (Option Row)) → CanSearch before first node p → CanSearch now index node p
    can_again first can =
        let keeps = through.keeps in record {
          stands = through.stands;
          values = subst (λ f. IsCube f p node) (sym keeps.frame) can.values;
          of_cube = subst (λ f. IsNodeOf f now.problem.depth now.cubes node) (sym keeps.frame)
              (subst (λ (q : Problem). IsNodeOf before.frame q.depth now.cubes node) (sym keeps.problem) (subst (λ cs. IsNodeOf before.frame before.problem.depth cs node) (sym keeps.cubes) can.of_cube));
          holds = subst (λ f. (x : List ℕ) → ¬ (SetFails f node x)) (sym keeps.frame) can.holds;
          nothing = through.nothing;
        }

    -- the position is still free
    pub place_again : p < length now.frame.places
    place_again = subst (λ (f : Framed). p < length f.places) (sym through.keeps.frame) free

    -- and the values are those of the field
    pub value_again : v < order before.frame.field → v < order now.frame.field
    value_again lt = subst (λ (f : Framed). v < order f.field) (sym through.keeps.frame) lt

    module _ (after : Holding) (more : List (Option Row)) (new' : List (List ℕ)) (some : 0 < v) where
      -- the tickets of the value come behind those of the smaller ones
      nodes_both : (opened : List Ticket) → AreNodes (IsNodeUnder before.frame (set node p v) (p + 1)) opened → AreNodes (IsNodeUnder before.frame node (p + 1)) (through.opened ++ opened)
      nodes_both opened nodes = nodes_append (IsNodeUnder before.frame node (p + 1)) through.opened opened through.nodes
          (nodes_map (IsNodeUnder before.frame (set node p v) (p + 1)) (IsNodeUnder before.frame node (p + 1)) opened (λ a under. under_child before.frame node p values v a under) nodes)
          (λ s t in_first in_second same. (
          let lt = through.below s in_first in
          let is = under_value before.frame node p values v (p + 1) t.node within some (nodes.each t in_second) in
          let equal = ap (λ (a : List ℕ). get_or a p 0) same in
          omega arith))

      -- they have no greater value
      below_both : (opened : List Ticket) → AreNodes (IsNodeUnder before.frame (set node p v) (p + 1)) opened → (t : Ticket) → Contains (through.opened ++ opened) t → get_or t.node p 0 < v + 1
      below_both opened nodes t has = ⊎_elim
          (λ (x : Contains through.opened t). (let lt = through.below t x in omega arith))
          (λ (y : Contains opened t). (let is = under_value before.frame node p values v (p + 1) t.node within some (nodes.each t y) in omega arith))
          (Contains-append_cases through.opened opened t has)

      -- completions of the node with the value were found
      pub through_completed : Answered now.frame now after more (set node p v) (p + 1) new new' Completed → NothingInside after.known node → Through before.frame before after more node p (v + 1) old new' cites
      through_completed given nothing =
          let answered = subst (λ f. Answered f now after more (set node p v) (p + 1) new new' Completed) through.keeps.frame given in
          let found = answered.outcome_is in record {
            opened = through.opened ++ answered.opened;
            keeps = keeps_both before now after through.opened answered.opened through.keeps answered.keeps;
            nodes = nodes_both answered.opened answered.nodes;
            below = below_both answered.opened answered.nodes;
            stands = answered.stands;
            nothing = nothing;
            settled = settled_both before.frame now.known after.known through.opened answered.opened answered.keeps.known through.settled answered.settled;
            completions = through.completions ++ found.completions;
            is = found.is ∙ ap (λ l. l ++ found.completions) through.is ∙ append_assoc old through.completions found.completions;
            are = below_more before.frame node p values free v through.completions found.completions within some through.are found.are;
            each = λ c has. ⊎_elim
                (λ (x : Contains through.completions c). opened_left through.opened answered.opened c (through.each c x))
                (λ (y : Contains found.completions c). opened_right through.opened answered.opened c (found.each c y))
                (Contains-append_cases through.completions found.completions c has);
            few = (let a = through.few in let b = found.few in omega (arith, length-append through.completions found.completions, length-append through.opened answered.opened));
            cited = λ empty k lt. absurd (found.some (right_none through.completions found.completions empty));
            others = λ k le. through.others k (omega arith);
          }

      -- the node with the value has no completion
      pub through_excluded : (cite : Cite) (cites' : List Cite) → get_or cites' (v - 1) Nothing ≡ cite → ((k : ℕ) → k ≢ v - 1 → get_or cites' k Nothing ≡ get_or cites k Nothing)
          → Answered now.frame now after more (set node p v) (p + 1) new new' (Excluded cite) → NothingInside after.known node → Through before.frame before after more node p (v + 1) old new' cites'
      through_excluded cite cites' here other given nothing =
          let answered = subst (λ f. Answered f now after more (set node p v) (p + 1) new new' (Excluded cite)) through.keeps.frame given in
          let right = answered.outcome_is.1 in
          let frame : after.frame ≡ before.frame = answered.keeps.frame ∙ through.keeps.frame in record {
            opened = through.opened ++ answered.opened;
            keeps = keeps_both before now after through.opened answered.opened through.keeps answered.keeps;
            nodes = nodes_both answered.opened answered.nodes;
            below = below_both answered.opened answered.nodes;
            stands = answered.stands;
            nothing = nothing;
            settled = settled_both before.frame now.known after.known through.opened answered.opened answered.keeps.known through.settled answered.settled;
            completions = through.completions;
            is = answered.outcome_is.0 ∙ through.is;
            are = below_none before.frame node p values free v through.completions through.are (λ c done.
                refuted_none after (set node p v) c cite answered.stands.facts (subst (λ f. IsRight f after.known (set node p v) (Refuted cite)) (sym frame) right) (subst (λ f. IsCompletion f (set node p v) c) (sym frame) done));
            each = λ c has. opened_left through.opened answered.opened c (through.each c has);
            few = (let a = through.few in omega (arith, length-append through.opened answered.opened));
            cited = λ empty k lt. ⊎_elim
                (λ (last : k ≡ v - 1). (let is : v ≡ k + 1 = omega arith in
                subst (λ d. IsRight before.frame after.known (set node p (k + 1)) (Refuted d)) (sym (ap (λ i. get_or cites' i Nothing) last ∙ here)) (subst (λ u. IsRight before.frame after.known (set node p u) (Refuted cite)) is right)))
                (λ (before_it : k ≢ v - 1). subst (λ d. IsRight before.frame after.known (set node p (k + 1)) (Refuted d)) (sym (other k before_it))
                (right_more before.frame now.known after.known (set node p (k + 1)) (get_or cites k Nothing) answered.keeps.known (through.cited empty k (omega arith))))
                (cases_eq k (v - 1));
            others = λ k le. other k (λ same. omega arith) ∙ through.others k (omega arith);
          }

      -- a row was learnt that has its clause in the node
      pub through_inside : (cite : Cite) (slot : ℕ) → Answered now.frame now after more (set node p v) (p + 1) new new' (Excluded cite) → IsInside after.known node slot → Answered before.frame before after more node (p + 1) old new' (Excluded (Slot slot))
      through_inside cite slot given inside =
          let answered = subst (λ f. Answered f now after more (set node p v) (p + 1) new new' (Excluded cite)) through.keeps.frame given in
          let frame : after.frame ≡ before.frame = answered.keeps.frame ∙ through.keeps.frame in record {
            opened = through.opened ++ answered.opened;
            keeps = keeps_both before now after through.opened answered.opened through.keeps answered.keeps;
            nodes = nodes_both answered.opened answered.nodes;
            stands = answered.stands;
            settled = settled_both before.frame now.known after.known through.opened answered.opened answered.keeps.known through.settled answered.settled;
            outcome_is = (
              answered.outcome_is.0 ∙ through.is ∙ ⊎_elim
                  (λ (none : through.completions ≡ []). ap (λ l. old ++ l) none ∙ append-nil old)
                  (λ (some_ : through.completions ≢ []). absurd (
                  let c = some_member through.completions some_ in
                  let done = ((through.are.exactly c.0).0 c.1).0 in
                  clause_excludes after slot inside.row node c.0 answered.stands.facts inside.has inside.inside (subst (λ f. IsCompletion f node c.0) (sym frame) done)))
                  (empty_or_not through.completions),
              (inside.row, inside.has, inside.inside),
            );
          }

      -- the search of the node with the value ran out of tickets
      ran_out : (opened : List Ticket) → Keeps now opened after → AreNodes (IsNodeUnder before.frame (set node p v) (p + 1)) opened → RanOut after before.frame (set node p v) (p + 1) opened → RanOut after before.frame node (p + 1) (through.opened ++ opened)
      ran_out opened keeps nodes out = record {
        told = out.told;
        chain = out.chain;
        nested = out.nested;
        under = λ b has. part_trans node (set node p v) b (child_part before.frame node p values v) (out.under b has);
        each = λ t has. ⊎_elim
            (λ (x : Contains through.opened t). inl (settled_more before.frame now.known after.known through.opened (through.opened ++ opened) t.node keeps.known (λ u. Contains-append_left through.opened opened u) (through.settled t x)))
            (λ (y : Contains opened t). ⊎_elim
            (λ (settled : IsSettled before.frame after.known opened t.node). inl (settled_more before.frame after.known after.known opened (through.opened ++ opened) t.node (λ slot row is. is) (λ u. Contains-append_right through.opened opened u) settled))
            (λ (chained : Contains out.chain t.node). inr chained)
            (out.each t y))
            (Contains-append_cases through.opened opened t has);
        further = out.further;
        is_node = under_child before.frame node p values v out.further out.is_node;
        not_opened = λ was. ⊎_elim
            (λ (x : Contains through.opened was.ticket). (
            let lt = through.below was.ticket x in
            let is = under_value before.frame node p values v (p + 1) out.further within some out.is_node in
            let same = ap (λ (a : List ℕ). get_or a p 0) was.is in
            omega arith))
            (λ (y : Contains opened was.ticket). out.not_opened (record { ticket = was.ticket; among = y; is = was.is }))
            (Contains-append_cases through.opened opened was.ticket was.among);
      }

      -- how it ended
      ends_by : (stop : SearchStop) (opened : List Ticket) → Keeps now opened after → AreNodes (IsNodeUnder before.frame (set node p v) (p + 1)) opened → EndsBy after before.frame (set node p v) (p + 1) opened stop → EndsBy after before.frame node (p + 1) (through.opened ++ opened) stop
      ends_by Over opened keeps nodes ends = ran_out opened keeps nodes ends
      ends_by Memory opened keeps nodes ends = tt

      -- so a stop of the value stops the node
      pub through_stopped : (stop : SearchStop) → Stopped now.frame now after (set node p v) (p + 1) stop → Stopped before.frame before after node (p + 1) stop
      through_stopped stop given = let stopped = subst (λ f. Stopped f now after (set node p v) (p + 1) stop) through.keeps.frame given in record {
        opened = through.opened ++ stopped.opened;
        keeps = keeps_both before now after through.opened stopped.opened through.keeps stopped.keeps;
        nodes = nodes_both stopped.opened stopped.nodes;
        ends = ends_by stop stopped.opened stopped.keeps stopped.nodes stopped.ends;
      }

  module _ (now : Holding) (index : List (Option Row)) (new : List (List ℕ)) (cites : List Cite) (through : Through before.frame before now index node p (order before.frame.field) old new cites) where
    -- all values were tried, and completions were found
    pub all_completed : length old < length new → Answered before.frame before now index node (p + 1) old new Completed
    all_completed longer = record {
      opened = through.opened;
      keeps = through.keeps;
      nodes = through.nodes;
      stands = through.stands;
      settled = through.settled;
      outcome_is = record {
        completions = through.completions;
        is = through.is;
        some = λ none. (let same = ap length (through.is ∙ ap (λ l. old ++ l) none ∙ append-nil old) in omega arith);
        are = below_all before.frame node p values free through.completions through.are;
        each = through.each;
        few = through.few;
      };
    }

    -- all values were tried, and none was found
    pub all_excluded : length new ≤ length old → Exhausted before.frame before now index node p old new cites
    all_excluded shorter = record {
      through = through;
      none = (let long = ap length through.is in no_length through.completions (omega (arith, length-append old through.completions)));
    }
      where
        no_length : (xs : List (List ℕ)) → length xs ≡ 0 → xs ≡ []
        no_length [] none = refl
        no_length (x ∷ xs) none = absurd (omega arith)
