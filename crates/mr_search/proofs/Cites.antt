-- A row whose clause has what its cites rest on follows.
use Rattle.std.proofs.Common.{◌≡◌, ◌≢◌, ℕ, ◌+◌, ◌<◌, ◌≤◌, List, length, get_or, set, refl, sym, ap, subst, ◌∙◌, ⊎_elim, arith, Option, Some, None, get_or-set_same, get_or-set_other}
use Rattle.std.specs.List.{slice_get}
use Rattle.std.proofs.lemmas.Bool.{cases_lt, cases_eq}
use Rattle.std.proofs.lemmas.List.{get_or_past}
use Rattle.mr_field.specs.Gf.{order}
use Rattle.mr_set.specs.declared.TheConstants.{ELEMENTS}
use Rattle.mr_assign.specs.Assign.{IsAssign, IsPartOf}
use Rattle.mr_graph.specs.declared.edge.Edge.{Edge}
use Rattle.mr_frame.specs.Frame.{Framed, IsFrame}
use Rattle.mr_frame.specs.Test.{IsAssignmentOf}
use Rattle.mr_frame.proofs.Apart.{parts_tell}
use Rattle.mr_frame.proofs.Outside.{HasEdge-slice_get}
use Rattle.mr_frame.proofs.Uniqueness.{place_exchange}
use Rattle.mr_nogood.specs.Follows.{Rows, CiteHolds, Follows}
use Rattle.mr_nogood.specs.declared.row.Cite.{Cite}
use Rattle.mr_nogood.specs.declared.row.Cite.TheVariants.{Nothing, Test, Slot}
use Rattle.mr_nogood.specs.declared.row.Row.{Row}
use Rattle.mr_exchange.specs.declared.answer.CubeAnswer.TheVariants.{Refuted}
use Rattle.mr_exchange.specs.Cubes.{IsCube}
use Rattle.mr_exchange.specs.Rank.{HasLeastRank}
use Rattle.mr_exchange.specs.Right.{IsRight}
use Rattle.mr_exchange.proofs.CubesInOrder.{few_places}
use Rattle.mr_search.specs.Private.Citing.{AreCites, Uses, IsUsed, above_row, above_cite, IsLeastAboveCites}

-- a free position's row is one of the basis
pub place_row : (f : Framed) (q : ℕ) (x : Edge) → IsFrame f → slice_get f.places q ≡ Some x → x.row < length f.basis
place_row f q x frame is = let edge = place_exchange f frame x.row x.col (HasEdge-slice_get f.places q x is) in let row = edge.row in let size = frame.basis.basis.0.size in omega arith

-- and its column an element
pub place_col : (f : Framed) (q : ℕ) (x : Edge) → IsFrame f → slice_get f.places q ≡ Some x → x.col < ELEMENTS
place_col f q x frame is = let edge = place_exchange f frame x.row x.col (HasEdge-slice_get f.places q x is) in let col = edge.element in let most = frame.limits.elements in omega arith

-- a row, by its parts
abbrev pub row_of : ℕ → ℕ → List ℕ → List Cite → Row
row_of rank at clause cites = record { rank = rank; at = at; clause = clause; cites = cites }

-- a number is above the row that a cite names where it is above each such row
pub above_le : (rows : Rows) (n : ℕ) (cite : Cite) → ((s : ℕ) (row : Row) → cite ≡ Slot s → rows s ≡ Some row → row.rank < n) → above_cite rows cite ≤ n
above_le rows n Nothing above = omega arith
above_le rows n (Test x) above = omega arith
above_le rows n (Slot s) above = read (rows s) (λ row is. above s row refl is)
  where
    read : (o : Option Row) → ((row : Row) → o ≡ Some row → row.rank < n) → above_row o ≤ n
    read None low = omega arith
    read (Some row) low = (let lt = low row refl in omega arith)

-- and the other way round
pub le_above : (rows : Rows) (n s : ℕ) (row : Row) (cite : Cite) → cite ≡ Slot s → rows s ≡ Some row → above_cite rows cite ≤ n → row.rank < n
le_above rows n s row cite is there le =
    let low : above_row (Some row) ≤ n = subst (λ o. above_row o ≤ n) there (subst (λ c. above_cite rows c ≤ n) is le) in
    omega arith

module _ (f : Framed) (rows : Rows) (node : List ℕ) (p : ℕ) (cites : List Cite) (clause : List ℕ) (rank : ℕ) (frame : IsFrame f) (values : IsCube f p node) (free : p < length f.places)
    (map : IsAssign clause) (inside : IsPartOf clause node) (used : (q : ℕ) → q < p → IsUsed f rows cites q → get_or clause q 0 ≡ get_or node q 0) (least : IsLeastAboveCites rows cites rank) where
  -- past the node's positions neither has a value
  past_node : (q : ℕ) → p ≤ q → get_or node q 0 ≡ 0
  past_node q le = ⊎_elim (λ (e : get_or node q 0 ≡ 0). e) (λ (some : get_or node q 0 ≢ 0). absurd (let lt = (values.just q).0 some in omega arith)) (cases_eq (get_or node q 0) 0)

  -- the clause has none there either
  pub past_clause : (q : ℕ) → p ≤ q → get_or clause q 0 ≡ 0
  past_clause q le = ⊎_elim (λ (e : get_or clause q 0 ≡ 0). e) (λ (some : get_or clause q 0 ≢ 0). absurd (some (sym (inside q some) ∙ past_node q le))) (cases_eq (get_or clause q 0) 0)

  -- what a cite rests on, the clause has with the value as the node has
  agrees : (v q : ℕ) → IsUsed f rows cites q → get_or (set node p v) q 0 ≡ get_or (set clause p v) q 0
  agrees v q uses = ⊎_elim
      (λ (same : q ≡ p). (let few = few_places f frame in let long = values.map.positions in let long' = map.positions in
      ap (λ i. get_or (set node p v) i 0) same ∙ get_or-set_same node p v 0 (omega arith) ∙ sym (ap (λ i. get_or (set clause p v) i 0) same ∙ get_or-set_same clause p v 0 (omega arith))))
      (λ (other : q ≢ p). get_or-set_other node p q v 0 other ∙ ⊎_elim
      (λ (lt : q < p). sym (used q lt uses))
      (λ (le : p ≤ q). past_node q le ∙ sym (past_clause q le))
      (cases_lt q p) ∙ sym (get_or-set_other clause p q v 0 other))
      (cases_eq q p)

  -- the clause gives elements to free positions alone
  pub clause_assigns : IsAssignmentOf f clause
  clause_assigns q some = let had = values.assignment q (λ none. some (sym (inside q some) ∙ none)) in let same = inside q some in let low = had.0 in let high = had.1 in (omega arith, omega arith)

  -- also with the value
  clause_assigns_with : (v : ℕ) → v < order f.field → IsAssignmentOf f (set clause p v)
  clause_assigns_with v small q some = ⊎_elim
      (λ (same : q ≡ p). (let few = few_places f frame in let long = map.positions in let is : get_or (set clause p v) q 0 ≡ v = ap (λ i. get_or (set clause p v) i 0) same ∙ get_or-set_same clause p v 0 (omega arith) in (omega arith, omega arith)))
      (λ (other : q ≢ p). (let is = get_or-set_other clause p q v 0 other in let had = clause_assigns q (λ none. some (is ∙ none)) in let low = had.0 in let high = had.1 in (omega arith, omega arith)))
      (cases_eq q p)

  -- a cite holds of the clause with the value
  holds_at : (v : ℕ) (cite : Cite) → v < order f.field → ((q : ℕ) → Uses f rows cite q → IsUsed f rows cites q) → above_cite rows cite ≤ rank → IsRight f rows (set node p v) (Refuted cite) → CiteHolds f rows rank (set clause p v) cite
  holds_at v Nothing small uses low right = right
  holds_at v (Test x) small uses low right = parts_tell f (set node p v) (set clause p v) x frame (clause_assigns_with v small) (λ q needs. agrees v q (uses q needs)) right
  holds_at v (Slot s) small uses low (row, there, part) =
      (row, there, le_above rows rank s row (Slot s) refl there low, λ q some. sym (agrees v q (uses q (record { row = row; there = there; some = some }))) ∙ part q some)

  -- each cite stands in the list
  cite_within : (k : ℕ) → get_or cites k Nothing ≢ Nothing → k < length cites
  cite_within k some = ⊎_elim (λ (lt : k < length cites). lt) (λ (past : length cites ≤ k). absurd (some (get_or_past cites k Nothing past))) (cases_lt k (length cites))

  -- where a map is refuted there is a cite
  some_cite : (a : List ℕ) (cite : Cite) → IsRight f rows a (Refuted cite) → cite ≢ Nothing
  some_cite a Nothing right none = right
  some_cite a (Test x) right none = cc
  some_cite a (Slot s) right none = cc

  -- so the row follows
  pub follows_from : AreCites f rows node p cites → Follows f rows (row_of rank p clause cites)
  follows_from are = record {
    map = map;
    clause = clause_assigns;
    position = free;
    no_value = past_clause p (omega arith);
    cites = λ k small. (
        let cite = get_or cites k Nothing in
        let right = are.each k small in
        let within = cite_within k (some_cite (set node p (k + 1)) cite right) in
        holds_at (k + 1) cite small (λ q uses. record { place = k; in_range = within; uses = uses }) (least.above k within) right);
    others = are.others;
  }

  -- with the least rank
  pub least_rank : HasLeastRank rows (row_of rank p clause cites)
  least_rank = record {
    above = λ k slot cited is there. le_above rows rank slot cited (get_or cites k Nothing) is there (least.above k (cite_within k (λ none. (let clash : Slot slot ≡ Nothing = sym is ∙ none in cc))));
    least = λ n above. least.least n (λ k lt. above_le rows n (get_or cites k Nothing) (λ s row is there. above k s row is there));
  }
