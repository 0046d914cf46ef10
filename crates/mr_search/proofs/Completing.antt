-- The completions of a node, value by value, in order.
use Rattle.std.proofs.Common.{◌≡◌, ◌≢◌, ℕ, zero, suc, ◌+◌, ◌<◌, ◌≤◌, List, [], ◌∷◌, ◌++◌, length, get_or, set, sym, subst, ◌∙◌, ⊎_elim, arith, Contains, Some}
use Rattle.std.specs.List.Sorted.{IsStrictlySortedBy}
use Rattle.std.proofs.lemmas.Bool.{cases_lt, cases_eq}
use Rattle.std.proofs.lemmas.List.Elements.{Contains-append_left, Contains-append_right, Contains-append_cases}
use Rattle.mr_field.specs.Gf.{order}
use Rattle.mr_set.specs.Subsets.{list_cmp, IsBefore}
use Rattle.mr_set.proofs.Lexicographic.{before_same, before_less}
use Rattle.mr_set.proofs.Ordered.{sorted_join, member_none}
use Rattle.mr_assign.specs.Assign.{IsPartOf}
use Rattle.mr_assign.specs.declared.TheConstants.{POSITIONS}
use Rattle.mr_frame.specs.Frame.{Framed}
use Rattle.mr_frame.specs.Test.{SetFails}
use Rattle.mr_frame.specs.Completion.{IsCompletion}
use Rattle.mr_nogood.specs.declared.row.Cite.{Cite}
use Rattle.mr_nogood.specs.declared.row.Cite.TheVariants.{Nothing, Test, Slot}
use Rattle.mr_nogood.specs.declared.row.Row.{Row}
use Rattle.mr_nogood.proofs.Excluding.{part_with, fails_more, completes_part}
use Rattle.mr_exchange.specs.declared.answer.CubeAnswer.TheVariants.{Refuted}
use Rattle.mr_exchange.specs.Cubes.{IsCube}
use Rattle.mr_exchange.specs.Board.{Holding, BoardFacts}
use Rattle.mr_exchange.specs.Right.{AreCompletions, IsRight}
use Rattle.mr_search.specs.Private.Steps.{AreBelow}
use Rattle.mr_search.proofs.Children.{part_trans, part_refl, child_part, child_here}

-- of two maps that agree below a position and differ there, the one with the smaller value comes first
pub before_at : (p : ℕ) (a b : List ℕ) → length a ≡ length b → ((q : ℕ) → q < p → get_or a q 0 ≡ get_or b q 0) → get_or a p 0 < get_or b p 0 → IsBefore a b
before_at p [] [] long same less = absurd (omega arith)
before_at p [] (y ∷ b) long same less = absurd (omega arith)
before_at p (x ∷ a) [] long same less = absurd (omega arith)
before_at zero (x ∷ a) (y ∷ b) long same less = before_less x y a b less
before_at (suc p) (x ∷ a) (y ∷ b) long same less =
    let rest = before_at p a b (omega arith) (λ q lt. same (suc q) (omega arith)) less in
    subst (λ z. IsBefore (x ∷ a) (z ∷ b)) (same 0 (omega arith)) (before_same x a b rest)

-- a row with its clause in a map has no completion of the map
pub clause_excludes : (h : Holding) (slot : ℕ) (row : Row) (a c : List ℕ) → BoardFacts h → h.known slot ≡ Some row → IsPartOf row.clause a → IsCompletion h.frame a c → ⊥
clause_excludes h slot row a c facts there inside done = (facts.known slot row there).excludes c (completes_part h.frame a row.clause c done (part_trans row.clause a c inside done.contains))

-- where a map is refuted it has no completion
pub refuted_none : (h : Holding) (a c : List ℕ) (cite : Cite) → BoardFacts h → IsRight h.frame h.known a (Refuted cite) → IsCompletion h.frame a c → ⊥
refuted_none h a c Nothing facts right done = right
refuted_none h a c (Test x) facts right done = done.holds x (fails_more h.frame a c x facts.frame done right)
refuted_none h a c (Slot s) facts (row, there, inside) done = clause_excludes h s row a c facts there inside done

module _ (f : Framed) (node : List ℕ) (p : ℕ) (values : IsCube f p node) where
  -- a completion with the value v at p is one of the node with that value
  pub to_child : (v : ℕ) (c : List ℕ) → IsCompletion f node c → get_or c p 0 ≡ v → IsCompletion f (set node p v) c
  to_child v c done is = completes_part f node (set node p v) c done (subst (λ u. IsPartOf (set node p u) c) is (part_with node c p done.contains))

  -- and the other way round
  pub from_child : (v : ℕ) (c : List ℕ) → IsCompletion f (set node p v) c → IsCompletion f node c
  from_child v c done = completes_part f (set node p v) node c done (part_trans node (set node p v) c (child_part f node p values v) done.contains)

  -- which has the value
  pub from_child_value : (v : ℕ) (c : List ℕ) → p < POSITIONS → 0 < v → IsCompletion f (set node p v) c → get_or c p 0 ≡ v
  from_child_value v c within some done = let here = child_here f node p values v within in done.contains p (λ none. omega arith) ∙ here

  -- completions of a node are in the order of their values at the next position
  pub completions_before : (a b : List ℕ) → IsCompletion f node a → IsCompletion f node b → get_or a p 0 < get_or b p 0 → IsBefore a b
  completions_before a b first second less = before_at p a b (first.map.positions ∙ sym second.map.positions)
      (λ q lt. first.contains q ((values.just q).1 lt) ∙ sym (second.contains q ((values.just q).1 lt))) less

module _ (f : Framed) (node : List ℕ) (p : ℕ) (values : IsCube f p node) (free : p < length f.places) where
  -- none has the value 0
  pub below_one : AreBelow f node p 1 []
  unfolding IsStrictlySortedBy
  below_one = record {
    increasing = tt;
    exactly = λ c. ((λ (has : Contains [] c). absurd (member_none c has)), λ (both : IsCompletion f node c × (get_or c p 0 < 1)). (let lt = both.1 in absurd (both.0.full p free (omega arith))));
  }

  -- those with the value v come after them
  pub below_more : (v : ℕ) (xs ys : List (List ℕ)) → p < POSITIONS → 0 < v → AreBelow f node p v xs → AreCompletions f (set node p v) ys → AreBelow f node p (v + 1) (xs ++ ys)
  below_more v xs ys within some below here = record {
    increasing = sorted_join list_cmp xs ys below.increasing here.increasing (λ a b in_xs in_ys. (
        let first = (below.exactly a).0 in_xs in
        let second = (here.exactly b).0 in_ys in
        let less = first.1 in
        let is = from_child_value f node p values v b within some second in
        completions_before f node p values a b first.0 (from_child f node p values v b second) (omega arith)));
    exactly = λ c. (
      (λ (has : Contains (xs ++ ys) c). ⊎_elim
          (λ (left : Contains xs c). (let both = (below.exactly c).0 left in let lt = both.1 in (both.0, omega arith)))
          (λ (right : Contains ys c). (let done = (here.exactly c).0 right in let is = from_child_value f node p values v c within some done in (from_child f node p values v c done, omega arith)))
          (Contains-append_cases xs ys c has)),
      λ (both : IsCompletion f node c × (get_or c p 0 < v + 1)). ⊎_elim
          (λ (lt : get_or c p 0 < v). Contains-append_left xs ys c ((below.exactly c).1 (both.0, lt)))
          (λ (le : v ≤ get_or c p 0). (let less = both.1 in Contains-append_right xs ys c ((here.exactly c).1 (to_child f node p values v c both.0 (omega arith)))))
          (cases_lt (get_or c p 0) v),
    );
  }

  -- where there are none with the value v there are no more
  pub below_none : (v : ℕ) (xs : List (List ℕ)) → AreBelow f node p v xs → ((c : List ℕ) → ¬ (IsCompletion f (set node p v) c)) → AreBelow f node p (v + 1) xs
  below_none v xs below none = record {
    increasing = below.increasing;
    exactly = λ c. (
      (λ (has : Contains xs c). (let both = (below.exactly c).0 has in let lt = both.1 in (both.0, omega arith))),
      λ (both : IsCompletion f node c × (get_or c p 0 < v + 1)). ⊎_elim
          (λ (lt : get_or c p 0 < v). (below.exactly c).1 (both.0, lt))
          (λ (le : v ≤ get_or c p 0). (let less = both.1 in absurd (none c (to_child f node p values v c both.0 (omega arith)))))
          (cases_lt (get_or c p 0) v),
    );
  }

  -- with all values tried they are the completions of the node
  pub below_all : (xs : List (List ℕ)) → AreBelow f node p (order f.field) xs → AreCompletions f node xs
  below_all xs below = record {
    increasing = below.increasing;
    exactly = λ c. (
      (λ (has : Contains xs c). ((below.exactly c).0 has).0),
      λ (done : IsCompletion f node c). (below.exactly c).1 (done, (done.assignment p (done.full p free)).1),
    );
  }

-- a node with a value at each position under which no set fails is its own completion
pub full_completion : (f : Framed) (node : List ℕ) (p : ℕ) → IsCube f p node → p ≡ length f.places → ((x : List ℕ) → ¬ (SetFails f node x)) → IsCompletion f node node
full_completion f node p values all holds = record {
  map = values.map;
  assignment = values.assignment;
  full = λ q lt. (values.just q).1 (omega arith);
  contains = part_refl node;
  holds = holds;
}

-- and has no other
pub full_only : (f : Framed) (node : List ℕ) (p : ℕ) (c : List ℕ) → IsCube f p node → p ≡ length f.places → IsCompletion f node c → (q : ℕ) → get_or c q 0 ≡ get_or node q 0
full_only f node p c values all done q = ⊎_elim
    (λ (none : get_or c q 0 ≡ 0). none ∙ sym (⊎_elim (λ (e : get_or node q 0 ≡ 0). e) (λ (some : get_or node q 0 ≢ 0). absurd (some (sym (done.contains q some) ∙ none))) (cases_eq (get_or node q 0) 0)))
    (λ (some : get_or c q 0 ≢ 0). (let lt = (done.assignment q some).0 in done.contains q ((values.just q).1 (omega arith))))
    (cases_eq (get_or c q 0) 0)
