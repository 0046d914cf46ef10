-- A forest's edges taken one by one, each next to what was taken where there is such an edge.
use Rattle.std.proofs.Common.{ℕ, ◌≡◌, ◌⊎◌, refl, ⊎_elim, inl, inr}
use Rattle.mr_graph.specs.Graph.{Vertex, row, col, Walk, stay, to_col, to_row}
use Rattle.mr_graph.proofs.Walks.{walk-trans, walk-sym, walk-more}
use Rattle.mr_graph.proofs.Parts.{And}
use Rattle.mr_graph.specs.Forest.{IsAcyclic}

-- an edge of F ends at the vertex
abbrev pub Touched : (ℕ → ℕ → Type 0) → Vertex → Type 0
Touched F (row i) = (e : ℕ) × F i e
Touched F (col e) = (i : ℕ) × F i e

-- out was taken and rem is left; where edges of both end, the taken ones join
pub record IsSplit (F out rem : ℕ → ℕ → Type 0) : Type 0 where
  pub taken : (i e : ℕ) → out i e → F i e
  pub left : (i e : ℕ) → rem i e → F i e
  pub whole : (i e : ℕ) → F i e → out i e ⊎ rem i e
  pub apart : (i e : ℕ) → rem i e → out i e → ⊥
  pub joined : (u v : Vertex) → Touched out u → Touched rem u → Touched out v → Touched rem v → Walk out u v

-- an edge that is left has an end that no taken edge touches
pub free_end : {F out rem : ℕ → ℕ → Type 0} → IsAcyclic F → IsSplit F out rem → (i e : ℕ) → rem i e → Touched out (row i) → Touched out (col e) → ⊥
free_end acyclic g i e x p q =
    acyclic i e (g.left i e x)
    (walk-more (λ i' e' y. (g.taken i' e' y, λ (s : (i' ≡ i) × (e' ≡ e)). g.apart i e x (rw (s.0, s.1) at y)))
    (g.joined (row i) (col e) p (e, x) q (i, x)))

-- it stays so with one more edge, next to a taken one or where none that is left is next to a taken one
pub split_more : (F out rem rem' : ℕ → ℕ → Type 0) (i e : ℕ) → IsSplit F out rem → rem i e →
    ((i' e' : ℕ) → rem' i' e' → rem i' e') → (rem' i e → ⊥) → ((i' e' : ℕ) → rem i' e' → rem' i' e' ⊎ ((i' ≡ i) × (e' ≡ e))) →
    (Touched out (row i) ⊎ (Touched out (col e) ⊎ ((v : Vertex) → Touched rem v → Touched out v → ⊥))) →
    IsSplit F (And out i e) rem'
split_more F out rem rem' i e g x smaller gone other next = record {
  taken = λ i' e' y. ⊎_elim (λ (p : out i' e'). g.taken i' e' p) (λ (p : (i' ≡ i) × (e' ≡ e)). rw (p.0, p.1) (g.left i e x)) y;
  left = λ i' e' y. g.left i' e' (smaller i' e' y);
  whole = λ i' e' y. ⊎_elim (λ (p : out i' e'). inl (inl p)) (λ (p : rem i' e'). ⊎_elim (λ (q : rem' i' e'). inr q) (λ (q : (i' ≡ i) × (e' ≡ e)). inl (inr q)) (other i' e' p)) (g.whole i' e' y);
  apart = λ i' e' y z. ⊎_elim (λ (p : out i' e'). g.apart i' e' (smaller i' e' y) p) (λ (p : (i' ≡ i) × (e' ≡ e)). gone (rw (p.0, p.1) at y)) z;
  joined = λ u v p q p' q'. walk-trans (to_row_i u p q) (walk-sym (to_row_i v p' q'));
}
  where
    bigger : {u v : Vertex} → Walk out u v → Walk (And out i e) u v
    bigger w = walk-more (λ i' e' y. inl y) w

    over : Walk (And out i e) (col e) (row i)
    over = to_row stay (inr (refl, refl))

    rem_more : (v : Vertex) → Touched rem' v → Touched rem v
    rem_more (row i') y = (y.0, smaller i' y.0 y.1)
    rem_more (col e') y = (y.0, smaller y.0 e' y.1)

    -- a vertex that taken edges touched before
    old : (v : Vertex) → Touched out v → Touched rem v → Walk (And out i e) v (row i)
    old v p q = ⊎_elim (λ (r : Touched out (row i)). bigger (g.joined v (row i) p q r (e, x)))
        (λ o. ⊎_elim (λ (r : Touched out (col e)). walk-trans (bigger (g.joined v (col e) p q r (i, x))) over)
        (λ (none : (v : Vertex) → Touched rem v → Touched out v → ⊥). absurd (none v q p)) o)
        next

    to_row_i : (v : Vertex) → Touched (And out i e) v → Touched rem' v → Walk (And out i e) v (row i)
    to_row_i (row i') p q = ⊎_elim (λ (s : out i' p.0). old (row i') (p.0, s) (rem_more (row i') q)) (λ (s : (i' ≡ i) × (p.0 ≡ e)). rw s.0 stay) p.1
    to_row_i (col e') p q = ⊎_elim (λ (s : out p.0 e'). old (col e') (p.0, s) (rem_more (col e') q)) (λ (s : (p.0 ≡ i) × (e' ≡ e)). rw s.1 over) p.1

-- where taken edges and those left touch nowhere, what the forest joins to a taken edge is touched by taken edges
pub reached : {F out rem : ℕ → ℕ → Type 0} → IsSplit F out rem → ((v : Vertex) → Touched rem v → Touched out v → ⊥) → (u v : Vertex) → Walk F u v → Touched out u → Touched out v
reached g none u v stay p = p
reached g none u v (to_col {i = i} {e = e} w x) p = ⊎_elim (λ q. (i, q)) (λ q. absurd (none (row i) (e, q) (reached g none u (row i) w p))) (g.whole i e x)
reached g none u v (to_row {i = i} {e = e} w x) p = ⊎_elim (λ q. (e, q)) (λ q. absurd (none (col e) (i, q) (reached g none u (col e) w p))) (g.whole i e x)
