-- Labels of the parts that edges join, in a list of the labels of the rows and then of the columns.
use Rattle.std.proofs.Common.{ℕ, ◌+◌, ◌<◌, ◌≡◌, ◌≢◌, ◌⊎◌, List, length, get_or, cond, refl, sym, ap, ◌∙◌, ⊎_elim, inl, inr, eq-eqb, ne_eqb, arith}
use Rattle.std.proofs.lemmas.Bool.{cases_eq}
use Rattle.mr_graph.specs.Graph.{Vertex, row, col, IsVertex, Walk, stay, to_row}
use Rattle.mr_graph.specs.Private.Labels.{relabelled, place, label, IsLabelled}
use Rattle.mr_graph.proofs.Walks.{walk-trans, walk-sym, walk-more, walk-label}

-- a vertex has a place among the labels
pub place-lt : (rows cols : ℕ) (v : Vertex) → IsVertex rows cols v → place rows v < rows + cols
place-lt rows cols (row i) lt = omega arith
place-lt rows cols (col e) lt = omega arith

-- and no two vertices have one place
place-same : (rows cols : ℕ) (u v : Vertex) → IsVertex rows cols u → IsVertex rows cols v → place rows u ≡ place rows v → u ≡ v
place-same rows cols (row i) (row j) p q same = ap row same
place-same rows cols (row i) (col f) p q same = absurd (omega arith)
place-same rows cols (col e) (row j) p q same = absurd (omega arith)
place-same rows cols (col e) (col f) p q same = let h : e ≡ f = omega arith in ap col h

-- F with one more edge
abbrev pub And : (ℕ → ℕ → Type 0) → ℕ → ℕ → ℕ → ℕ → Type 0
And F i e i' e' = F i' e' ⊎ ((i' ≡ i) × (e' ≡ e))

-- without edges each vertex has a label of its own
pub labelled_none : (rows cols : ℕ) (xs : List ℕ) → length xs ≡ rows + cols → ((k : ℕ) → k < rows + cols → get_or xs k 0 ≡ k) → (F : ℕ → ℕ → Type 0) → ((i e : ℕ) → F i e → ⊥) → IsLabelled rows cols F xs
labelled_none rows cols xs size own F none = record {
  size = size;
  inside = λ i e x. absurd (none i e x);
  along = λ i e x. absurd (none i e x);
  joined = λ u v p q same.
      let is : u ≡ v = place-same rows cols u v p q (sym (own (place rows u) (place-lt rows cols u p)) ∙ same ∙ own (place rows v) (place-lt rows cols v q)) in
      rw is stay;
}

-- vertices of one label are joined, so that an edge between them closes a cycle
pub closes : {rows cols : ℕ} {F : ℕ → ℕ → Type 0} {xs : List ℕ} → IsLabelled rows cols F xs → (i e : ℕ) → i < rows → e < cols → label rows xs (row i) ≡ label rows xs (col e) → Walk F (row i) (col e)
closes h i e p q same = h.joined (row i) (col e) p q same

-- vertices of different labels are not joined
pub closes_not : {rows cols : ℕ} {F : ℕ → ℕ → Type 0} {xs : List ℕ} → IsLabelled rows cols F xs → (i e : ℕ) → label rows xs (row i) ≢ label rows xs (col e) → Walk F (row i) (col e) → ⊥
closes_not {rows} {xs = xs} h i e ne w = ne (walk-label (label rows xs) h.along w)

-- a label where the part of column e joins that of row i
abbrev pub merged : ℕ → List ℕ → ℕ → ℕ → ℕ → ℕ
merged rows xs i e x = relabelled (label rows xs (col e)) (label rows xs (row i)) x

-- a label that gives way becomes the other one
pub relabelled-same : (was now x : ℕ) → x ≡ was → relabelled was now x ≡ now
relabelled-same was now x p = ap (λ b. cond b now x) (eq-eqb x was p)

-- the others stay
pub relabelled-other : (was now x : ℕ) → x ≢ was → relabelled was now x ≡ x
relabelled-other was now x p = ap (λ b. cond b now x) (ne_eqb x was p)

-- with the edge (i, e) the labels that the merge leaves are those of the parts
pub merge : (rows cols : ℕ) (F : ℕ → ℕ → Type 0) (xs ys : List ℕ) (i e : ℕ) → IsLabelled rows cols F xs → i < rows → e < cols → length ys ≡ length xs →
    ((k : ℕ) → k < length xs → get_or ys k 0 ≡ merged rows xs i e (get_or xs k 0)) → IsLabelled rows cols (And F i e) ys
merge rows cols F xs ys i e h ilt elt size new = record {
  size = size ∙ h.size;
  inside = λ i' e' x. ⊎_elim (λ (p : F i' e'). h.inside i' e' p) (λ (p : (i' ≡ i) × (e' ≡ e)). (omega arith, omega arith)) x;
  along = λ i' e' x. ⊎_elim
      (λ (p : F i' e').
      at (row i') (h.inside i' e' p).0 ∙ ap (merged rows xs i e) (h.along i' e' p) ∙ sym (at (col e') (h.inside i' e' p).1))
      (λ (p : (i' ≡ i) × (e' ≡ e)). rw (p.0, p.1) (ends ∙ sym (to_row_label (col e) elt refl)))
      x;
  joined = λ u v iu iv same. ⊎_elim
      (λ (p : label rows xs u ≡ label rows xs (col e)). ⊎_elim
      (λ (q : label rows xs v ≡ label rows xs (col e)). bigger (h.joined u v iu iv (p ∙ sym q)))
      (λ (q : label rows xs v ≢ label rows xs (col e)).
      walk-trans (bigger (h.joined u (col e) iu elt p)) (walk-trans over (bigger (h.joined (row i) v ilt iv (sym (to_row_label u iu p) ∙ same ∙ kept v iv q)))))
      (cases_eq (label rows xs v) (label rows xs (col e))))
      (λ (p : label rows xs u ≢ label rows xs (col e)). ⊎_elim
      (λ (q : label rows xs v ≡ label rows xs (col e)).
      walk-trans (bigger (h.joined u (row i) iu ilt (sym (kept u iu p) ∙ same ∙ to_row_label v iv q))) (walk-trans (walk-sym over) (bigger (h.joined (col e) v elt iv (sym q)))))
      (λ (q : label rows xs v ≢ label rows xs (col e)). bigger (h.joined u v iu iv (sym (kept u iu p) ∙ same ∙ kept v iv q)))
      (cases_eq (label rows xs v) (label rows xs (col e))))
      (cases_eq (label rows xs u) (label rows xs (col e)));
}
  where
    at : (v : Vertex) → IsVertex rows cols v → label rows ys v ≡ merged rows xs i e (label rows xs v)
    at v iv = new (place rows v) (let lt = place-lt rows cols v iv in let n = h.size in omega arith)

    to_row_label : (v : Vertex) → IsVertex rows cols v → label rows xs v ≡ label rows xs (col e) → label rows ys v ≡ label rows xs (row i)
    to_row_label v iv p = at v iv ∙ relabelled-same (label rows xs (col e)) (label rows xs (row i)) (label rows xs v) p

    kept : (v : Vertex) → IsVertex rows cols v → label rows xs v ≢ label rows xs (col e) → label rows ys v ≡ label rows xs v
    kept v iv p = at v iv ∙ relabelled-other (label rows xs (col e)) (label rows xs (row i)) (label rows xs v) p

    ends : label rows ys (row i) ≡ label rows xs (row i)
    ends = ⊎_elim (λ (q : label rows xs (row i) ≡ label rows xs (col e)). to_row_label (row i) ilt q) (λ (q : label rows xs (row i) ≢ label rows xs (col e)). kept (row i) ilt q) (cases_eq (label rows xs (row i)) (label rows xs (col e)))

    bigger : {u v : Vertex} → Walk F u v → Walk (And F i e) u v
    bigger w = walk-more (λ i' e' y. inl y) w

    over : Walk (And F i e) (col e) (row i)
    over = to_row stay (inr (refl, refl))
