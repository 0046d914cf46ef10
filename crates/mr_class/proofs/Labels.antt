-- Labels of the parts that edges join.
use Rattle.std.proofs.Common.{ℕ, ◌≡◌, ◌≢◌, eqb, cond, refl, sym, ap, ◌∙◌, ⊎_elim, inl, inr, eq-eqb, ne_eqb}
use Rattle.std.proofs.lemmas.Bool.{cases_eq}
use Rattle.mr_graph.specs.Graph.{Vertex, row, col, Walk, stay, to_row}
use Rattle.mr_graph.proofs.Walks.{walk-trans, walk-sym, walk-more, walk-label}
use Rattle.mr_graph.proofs.Parts.{And}

-- equal labels just where a walk joins
pub record IsLabelled (F : ℕ → ℕ → Type 0) (label : Vertex → ℕ) : Type 0 where
  pub along : (i e : ℕ) → F i e → label (row i) ≡ label (col e)
  pub joined : (u v : Vertex) → label u ≡ label v → Walk F u v

-- the part of column e joins that of row i
abbrev pub merged : (Vertex → ℕ) → ℕ → ℕ → Vertex → ℕ
merged label i e v = cond (eqb (label v) (label (col e))) (label (row i)) (label v)

-- one more edge makes the labels of its two parts one
pub merge : (F : ℕ → ℕ → Type 0) (label : Vertex → ℕ) (i e : ℕ) → IsLabelled F label → IsLabelled (And F i e) (merged label i e)
merge F label i e h = record {
  along = λ i' e' x. ⊎_elim
      (λ (p : F i' e'). ap (λ k. cond (eqb k (label (col e))) (label (row i)) k) (h.along i' e' p))
      (λ (p : (i' ≡ i) × (e' ≡ e)). rw (p.0, p.1) (⊎_elim
      (λ (q : label (row i) ≡ label (col e)). changed (row i) q ∙ sym (changed (col e) refl))
      (λ (q : label (row i) ≢ label (col e)). kept (row i) q ∙ sym (changed (col e) refl)) (cases_eq (label (row i)) (label (col e)))))
      x;
  joined = λ u v x. ⊎_elim
      (λ (p : label u ≡ label (col e)). ⊎_elim
      (λ (q : label v ≡ label (col e)). bigger (h.joined u v (p ∙ sym q)))
      (λ (q : label v ≢ label (col e)). walk-trans (bigger (h.joined u (col e) p)) (walk-trans over (bigger (h.joined (row i) v (sym (changed u p) ∙ x ∙ kept v q)))))
      (cases_eq (label v) (label (col e))))
      (λ (p : label u ≢ label (col e)). ⊎_elim
      (λ (q : label v ≡ label (col e)). walk-trans (bigger (h.joined u (row i) (sym (kept u p) ∙ x ∙ changed v q))) (walk-trans (walk-sym over) (bigger (h.joined (col e) v (sym q)))))
      (λ (q : label v ≢ label (col e)). bigger (h.joined u v (sym (kept u p) ∙ x ∙ kept v q)))
      (cases_eq (label v) (label (col e))))
      (cases_eq (label u) (label (col e)));
}
  where
    changed : (v : Vertex) → label v ≡ label (col e) → merged label i e v ≡ label (row i)
    changed v p = rw (p, eq-eqb (label (col e)) (label (col e)) refl)

    kept : (v : Vertex) → label v ≢ label (col e) → merged label i e v ≡ label v
    kept v p = rw (ne_eqb (label v) (label (col e)) p)

    bigger : {u v : Vertex} → Walk F u v → Walk (And F i e) u v
    bigger w = walk-more (λ i' e' y. inl y) w

    over : Walk (And F i e) (col e) (row i)
    over = to_row stay (inr (refl, refl))

-- vertices of different labels are not joined
pub apart_walk : (F : ℕ → ℕ → Type 0) (label : Vertex → ℕ) → IsLabelled F label → (i e : ℕ) → label (row i) ≢ label (col e) → Walk F (row i) (col e) → ⊥
apart_walk F label h i e ne w = ne (walk-label label h.along w)
