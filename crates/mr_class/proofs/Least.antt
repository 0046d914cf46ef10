-- Of the matrices of a class that are the identity at a basis one alone has ones on the first forest, and it is the least.
use Rattle.std.proofs.Common.{ℕ, ◌<◌, ◌≡◌, ◌≢◌, ◌⊎◌, ◌↔◌, Bool, true, false, List, sym, ap, ◌∙◌, ⊎_elim, inl, inr, arith}
use Rattle.std.proofs.lemmas.Bool.{cases_Bool, cases_eq}
use Rattle.mr_field.specs.Gf.{Gf, norm, order}
use Rattle.mr_field.proofs.Laws.{norm-element}
use Rattle.mr_linear.specs.Columns.{Entries}
use Rattle.mr_linear.proofs.Standard.{IsIdentityAt}
use Rattle.mr_linear.proofs.Operations.{SameZeros}
use Rattle.mr_linear.proofs.Square.{IsBasisOf}
use Rattle.mr_graph.specs.declared.edge.Edge.{Edge}
use Rattle.mr_graph.specs.Forest.{HasEdge, IsEarlierPlace, IsFirstForest}
use Rattle.mr_graph.proofs.Edges.{HasEdge-or_not}
use Rattle.mr_class.proofs.Compare.{IsSmaller}
use Rattle.mr_class.proofs.Unique.{agree-at}

-- Every entry is an element, the columns of the basis are the identity, and elsewhere the entries that are not 0 stand at
-- the edges.
pub record HasEdges (f : Gf) (r n : ℕ) (b : ℕ → ℕ) (basis : ℕ → Bool) (G : ℕ → ℕ → Type 0) (a : Entries) : Type 0 where
  pub elements : (i j : ℕ) → i < r → j < n → a i j < order f
  pub identity : IsIdentityAt r b a
  pub edges : (i j : ℕ) → i < r → j < n → basis j ≡ false → (a i j ≢ 0) ↔ G i j

module _ (f : Gf) (r n : ℕ) (b : ℕ → ℕ) (basis : ℕ → Bool) (G : ℕ → ℕ → Type 0) (forest : List Edge) (B : IsBasisOf r n b basis) (first : IsFirstForest G forest)
    (inside : (i j : ℕ) → G i j → (i < r) × (j < n) × (basis j ≡ false)) (a c : Entries) (ha : HasEdges f r n b basis G a) (hc : HasEdges f r n b basis G c) (z : SameZeros f r n a c) where
  -- entries are elements
  norm_is : (i j : ℕ) → i < r → j < n → norm f (a i j) ≡ a i j
  norm_is i j l m = norm-element f (a i j) (ha.elements i j l m)

  -- at an edge the entry is not zero
  edge-ne : (i j : ℕ) → G i j → (i < r) × (j < n) × (norm f (a i j) ≢ 0)
  edge-ne i j x =
      let p : (i < r) × (j < n) × (basis j ≡ false) = inside i j x in
      (p.0, p.1, λ none. (ha.edges i j p.0 p.1 p.2).1 x (sym (norm_is i j p.0 p.1) ∙ none))

  -- the two agree on the forest's edges before a place
  abbrev Agree : ℕ → ℕ → Type 0
  Agree i j = (i' j' : ℕ) → HasEdge forest i' j' → i' < r → j' < n → IsEarlierPlace i' j' i j → a i' j' ≡ c i' j'

  -- at an edge they agree then, or it is one of the forest
  at_edge : (i j : ℕ) → i < r → j < n → G i j → Agree i j → (a i j ≡ c i j) ⊎ HasEdge forest i j
  at_edge i j l m edge same = ⊎_elim
      (λ (y : HasEdge forest i j). inr y)
      (λ (out : HasEdge forest i j → ⊥).
      inl (sym (norm_is i j l m) ∙
      agree-at f r n b a c G forest B.below ha.identity hc.identity z edge-ne first i j edge out
      (λ i' j' q.
      let k : (i' < r) × (j' < n) × (basis j' ≡ false) = inside i' j' ((first.taken i' j').0 q.0).0 in
      ap (norm f) (same i' j' q.0 k.0 k.1 q.1)) ∙
      norm-element f (c i j) (hc.elements i j l m)))
      (HasEdge-or_not forest i j)

  -- and so they do at each place
  place : (i j : ℕ) → i < r → j < n → Agree i j → (a i j ≡ c i j) ⊎ HasEdge forest i j
  place i j l m same = ⊎_elim
      (λ (x : basis j ≡ true).
      let p : (k : ℕ) × (k < r) × (j ≡ b k) = B.place j x in
      inl (rw p.2 (ha.identity i p.0 l p.1 ∙ sym (hc.identity i p.0 l p.1))))
      (λ (x : basis j ≡ false). ⊎_elim
      (λ (none : a i j ≡ 0). ⊎_elim
      (λ (also : c i j ≡ 0). inl (none ∙ sym also))
      (λ (some : c i j ≢ 0). absurd ((ha.edges i j l m x).1 ((hc.edges i j l m x).0 some) none))
      (cases_eq (c i j) 0))
      (λ (some : a i j ≢ 0). at_edge i j l m ((ha.edges i j l m x).0 some) same)
      (cases_eq (a i j) 0))
      (cases_Bool (basis j))

  -- with ones on the forest they are one
  pub only-one : ((i j : ℕ) → HasEdge forest i j → a i j ≡ 1) → ((i j : ℕ) → HasEdge forest i j → c i j ≡ 1) → (i j : ℕ) → i < r → j < n → a i j ≡ c i j
  only-one oa oc i j l m =
      ⊎_elim (λ e. e) (λ (y : HasEdge forest i j). oa i j y ∙ sym (oc i j y))
      (place i j l m (λ i' j' y _ _ _. oa i' j' y ∙ sym (oc i' j' y)))

  -- none is smaller than the one with ones on the forest
  pub not-less : ((i j : ℕ) → HasEdge forest i j → a i j ≡ 1) → IsSmaller r n c a → ⊥
  not-less oa x =
      let lt : c x.row x.col < a x.row x.col = x.less in
      ⊎_elim (λ (e : a x.row x.col ≡ c x.row x.col). omega arith)
      (λ (y : HasEdge forest x.row x.col).
      let one : a x.row x.col ≡ 1 = oa x.row x.col y in
      let edge : G x.row x.col = ((first.taken x.row x.col).0 y).0 in
      (hc.edges x.row x.col x.row_in_range x.col_in_range (inside x.row x.col edge).2).1 edge (omega arith))
      (place x.row x.col x.row_in_range x.col_in_range (λ i' j' y l m q. sym (x.before i' j' l m q)))
