-- Two matrices of one class that are the identity at the same basis and agree on the forest's edges before a place agree there.
use Rattle.std.proofs.Common.{ℕ, ◌<◌, ◌≡◌, ◌≢◌, List, sym, ◌∙◌, ⊎_elim}
use Rattle.std.proofs.lemmas.Bool.{cases_eq}
use Rattle.mr_field.specs.Gf.{Gf, mul, norm}
use Rattle.mr_field.proofs.Laws.{mul_comm, mul-norm_left, mul-norm_right, cancel_right}
use Rattle.mr_linear.specs.Columns.{Entries}
use Rattle.mr_linear.proofs.Standard.{IsIdentityAt}
use Rattle.mr_linear.proofs.Operations.{SameZeros}
use Rattle.mr_linear.proofs.Standard.{standard-factors}
use Rattle.mr_graph.specs.declared.edge.Edge.{Edge}
use Rattle.mr_graph.specs.Graph.{Vertex, row, col}
use Rattle.mr_graph.specs.Forest.{HasEdge, HasEdgeBefore, IsFirstForest}
use Rattle.mr_graph.proofs.Walks.{walk-label}

-- the factor of a row or a column
label : (f : Gf) (b t : ℕ → ℕ) → Vertex → ℕ
label f b t (row i) = norm f (t (b i))
label f b t (col e) = norm f (t e)

-- equal factors from equal entries that are not zero
equal_factors : (f : Gf) (s t v v' : ℕ) → mul f s v' ≡ mul f t v → norm f v ≡ norm f v' → norm f v ≢ 0 → norm f s ≡ norm f t
equal_factors f s t v v' e same ne =
    cancel_right f v s t ne (sym (mul-norm_right f s v) ∙ rw same (mul-norm_right f s v') ∙ e)

-- equal entries from equal factors that are not zero
equal_entries : (f : Gf) (s t v v' : ℕ) → mul f s v' ≡ mul f t v → norm f s ≡ norm f t → norm f t ≢ 0 → norm f v ≡ norm f v'
equal_entries f s t v v' e same ne =
    sym (cancel_right f t v' v ne (mul_comm f v' t ∙ sym (mul-norm_left f t v') ∙ rw (← same) (mul-norm_left f s v') ∙ e ∙ mul_comm f t v))

-- an equation of numbers holds where its contrary can't
stable : (x y : ℕ) → ((x ≡ y → ⊥) → ⊥) → x ≡ y
stable x y h = ⊎_elim (λ e. e) (λ ne. absurd (h ne)) (cases_eq x y)

-- where they agree on the forest's earlier edges they agree at an edge that closes a cycle with those
pub agree-at : (f : Gf) (r n : ℕ) (b : ℕ → ℕ) (a a' : Entries) (G : ℕ → ℕ → Type 0) (forest : List Edge) →
    ((k : ℕ) → k < r → b k < n) → IsIdentityAt r b a → IsIdentityAt r b a' → SameZeros f r n a a' →
    ((i e : ℕ) → G i e → (i < r) × (e < n) × (norm f (a i e) ≢ 0)) → IsFirstForest G forest →
    (i e : ℕ) → G i e → (HasEdge forest i e → ⊥) → ((i' e' : ℕ) → HasEdgeBefore forest i e i' e' → norm f (a i' e') ≡ norm f (a' i' e')) →
    norm f (a i e) ≡ norm f (a' i e)
unfolding label
agree-at f r n b a a' G forest below sa sa' h edges first i e ge out same =
    stable _ _ (λ differ. out ((first.taken i e).1 (
      ge,
      λ w. differ (equal_entries f (h.factor (b i)) (h.factor e) (a i e) (a' i e)
          (standard-factors f r n b a a' below sa sa' h i e (edges i e ge).0 (edges i e ge).1)
          (walk-label (label f b h.factor) one w) (h.not_zero e)),
    )))
  where
    one : (i' e' : ℕ) → HasEdgeBefore forest i e i' e' → label f b h.factor (row i') ≡ label f b h.factor (col e')
    one i' e' x =
        let q : (i' < r) × (e' < n) × (norm f (a i' e') ≢ 0) = edges i' e' ((first.taken i' e').0 x.0).0 in
        equal_factors f (h.factor (b i')) (h.factor e') (a i' e') (a' i' e')
        (standard-factors f r n b a a' below sa sa' h i' e' q.0 q.1) (same i' e' x) q.2
