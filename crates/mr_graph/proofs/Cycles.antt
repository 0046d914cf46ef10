-- A forest has no cycle: no edge is joined by the other edges.
use Rattle.std.proofs.Common.{ℕ, zero, suc, ◌+◌, ◌<◌, ◌≤◌, ◌≡◌, ◌⊎◌, List, [], ◌∷◌, ◌++◌, length, get_or, take, sym, ap, subst, ◌∙◌, ⊎_elim, inl, inr, arith}
use Rattle.std.proofs.lemmas.List.{take_more, take_all, get_or-take, length-take-le}
use Rattle.mr_graph.specs.declared.edge.Edge.{Edge}
use Rattle.mr_graph.specs.Graph.{Graph, IsEdge, Vertex, row, col, Walk, stay, to_col, to_row}
use Rattle.mr_graph.specs.Forest.{HasEdge, IsEarlierPlace, HasEdgeBefore, IsFirstForest, Other, IsAcyclic}
use Rattle.mr_graph.proofs.Walks.{walk-trans, walk-sym, walk-more}
use Rattle.mr_graph.proofs.Parts.{And}
use Rattle.mr_graph.proofs.Edges.{HasEdge-push, HasEdge-push_old, HasEdge-push_new, HasEdge-get_or, HasEdge-place}

-- a walk from u to v that uses the edge (i, e) at most once
Split : (F : ℕ → ℕ → Type 0) (i e : ℕ) (u v : Vertex) → Type 0
Split F i e u v = Walk F u v ⊎ ((Walk F u (row i) × Walk F (col e) v) ⊎ (Walk F u (col e) × Walk F (row i) v))

-- where there is a walk with the edge (i, e), there is one that uses it at most once
split : (F : ℕ → ℕ → Type 0) (i e : ℕ) (u v : Vertex) → Walk (And F i e) u v → Split F i e u v
unfolding Split
split F i e u v stay = inl stay
split F i e u v (to_col {i = i'} {e = e'} w x) = step (split F i e u (row i') w) x
  where
    step : Split F i e u (row i') → And F i e i' e' → Split F i e u (col e')
    step s (inl y) = ⊎_elim (λ p. inl (to_col p y)) (λ q. inr (⊎_elim (λ p. inl (p.0, to_col p.1 y)) (λ p. inr (p.0, to_col p.1 y)) q)) s
    step s (inr y) = rw (y.1) (⊎_elim (λ (p : Walk F u (row i')). inr (inl (rw y.0 at p, stay)))
        (λ q. ⊎_elim (λ (p : Walk F u (row i) × Walk F (col e) (row i')). inr (inl (p.0, stay))) (λ (p : Walk F u (col e) × Walk F (row i) (row i')). inl p.0) q) s)
split F i e u v (to_row {i = i'} {e = e'} w x) = step (split F i e u (col e') w) x
  where
    step : Split F i e u (col e') → And F i e i' e' → Split F i e u (row i')
    step s (inl y) = ⊎_elim (λ p. inl (to_row p y)) (λ q. inr (⊎_elim (λ p. inl (p.0, to_row p.1 y)) (λ p. inr (p.0, to_row p.1 y)) q)) s
    step s (inr y) = rw (y.0) (⊎_elim (λ (p : Walk F u (col e')). inr (inr (rw y.1 at p, stay)))
        (λ q. ⊎_elim (λ (p : Walk F u (row i) × Walk F (col e) (col e')). inl p.0) (λ (p : Walk F u (col e) × Walk F (row i) (col e')). inr (inr (p.0, stay))) q) s)

-- an edge whose ends are not joined closes no cycle
acyclic_more : (F : ℕ → ℕ → Type 0) (i0 e0 : ℕ) → IsAcyclic F → (Walk F (row i0) (col e0) → ⊥) → IsAcyclic (And F i0 e0)
unfolding Split
acyclic_more F i0 e0 h apart i e (inr x) w = apart (walk-more smaller (rw (x.0, x.1) at w))
  where
    smaller : (i' e' : ℕ) → Other (And F i0 e0) i0 e0 i' e' → F i' e'
    smaller i' e' y = ⊎_elim (λ (p : F i' e'). p) (λ (p : (i' ≡ i0) × (e' ≡ e0)). absurd (y.1 p)) y.0
acyclic_more F i0 e0 h apart i e (inl x) w =
    ⊎_elim (h i e x)
    (λ q. ⊎_elim
    (λ (p : Walk (Other F i e) (row i) (row i0) × Walk (Other F i e) (col e0) (col e)).
    apart (walk-trans (to_col (walk-sym (all p.0)) x) (walk-sym (all p.1))))
    (λ (p : Walk (Other F i e) (row i) (col e0) × Walk (Other F i e) (row i0) (col e)).
    apart (walk-trans (to_row (all p.1) x) (all p.0)))
    q)
    (split (Other F i e) i0 e0 (row i) (col e) (walk-more parts w))
  where
    parts : (i' e' : ℕ) → Other (And F i0 e0) i e i' e' → And (Other F i e) i0 e0 i' e'
    parts i' e' y = ⊎_elim (λ (p : F i' e'). inl (p, y.1)) (λ (p : (i' ≡ i0) × (e' ≡ e0)). inr p) y.0

    all : {u v : Vertex} → Walk (Other F i e) u v → Walk F u v
    all p = walk-more (λ i' e' y. y.0) p

-- the same edges have the same cycles
acyclic_same : (F G : ℕ → ℕ → Type 0) → ((i e : ℕ) → F i e → G i e) → ((i e : ℕ) → G i e → F i e) → IsAcyclic F → IsAcyclic G
acyclic_same F G there back h i e x w = h i e (back i e x) (walk-more (λ i' e' y. (back i' e' y.0, y.1)) w)

-- the first n edges of the first forest have no cycle
acyclic_take : (g : Graph) (xs : List Edge) → IsFirstForest (IsEdge g) xs → (n : ℕ) → n ≤ length xs → IsAcyclic (HasEdge (take n xs))
acyclic_take g xs h zero le = λ i e x. absurd x
acyclic_take g xs h (suc n) le =
    let d : Edge = record { row = 0; col = 0 } in
    let x : Edge = get_or xs n d in
    let lt : n < length xs = omega arith in
    let cut : take (suc n) xs ≡ take n xs ++ x ∷ [] = let e : suc n ≡ n + 1 = omega arith in ap (λ k. take k xs) e ∙ take_more xs n d lt in
    let apart : Walk (HasEdge (take n xs)) (row x.row) (col x.col) → ⊥ =
    λ w. ((h.taken x.row x.col).0 (HasEdge-get_or xs n d lt)).1 (walk-more (λ i e y. earlier d n lt i e y) w) in
    rw cut (acyclic_same (And (HasEdge (take n xs)) x.row x.col) (HasEdge (take n xs ++ x ∷ []))
    (λ i e y. ⊎_elim (λ (p : HasEdge (take n xs) i e). HasEdge-push_old (take n xs) x i e p) (λ (p : (i ≡ x.row) × (e ≡ x.col)). rw (p.0, p.1) (HasEdge-push_new (take n xs) x)) y)
    (λ i e y. HasEdge-push (take n xs) x i e y)
    (acyclic_more (HasEdge (take n xs)) x.row x.col (acyclic_take g xs h n (omega arith)) apart))
  where
    earlier : (d : Edge) (n : ℕ) → n < length xs → (i e : ℕ) → HasEdge (take n xs) i e → HasEdgeBefore xs (get_or xs n d).row (get_or xs n d).col i e
    earlier d n lt i e y =
        let place = HasEdge-place (take n xs) i e y d in
        let within : place.0 < n = let a = place.1 in let b = length-take-le n xs (omega arith) in omega arith in
        let read : get_or (take n xs) place.0 d ≡ get_or xs place.0 d = get_or-take n xs place.0 d within in
        let is_row : (get_or xs place.0 d).row ≡ i = sym (ap (λ (x : Edge). x.row) read) ∙ place.2 in
        let is_col : (get_or xs place.0 d).col ≡ e = sym (ap (λ (x : Edge). x.col) read) ∙ place.3 in (
          subst (λ k. HasEdge xs k e) is_row (subst (λ k. HasEdge xs (get_or xs place.0 d).row k) is_col (HasEdge-get_or xs place.0 d (omega arith))),
          subst (λ k. IsEarlierPlace k e (get_or xs n d).row (get_or xs n d).col) is_row (subst (λ k. IsEarlierPlace (get_or xs place.0 d).row k (get_or xs n d).row (get_or xs n d).col) is_col (h.rising place.0 n d within lt)),
        )

-- the first forest has no cycle
pub acyclic_first : (g : Graph) (xs : List Edge) → IsFirstForest (IsEdge g) xs → IsAcyclic (HasEdge xs)
acyclic_first g xs h = subst (λ ys. IsAcyclic (HasEdge ys)) (take_all (length xs) xs (omega arith)) (acyclic_take g xs h (length xs) (omega arith))

-- the forest can't fail to join the ends of an edge
edge_walk : (g : Graph) (xs : List Edge) → IsFirstForest (IsEdge g) xs → (i e : ℕ) → IsEdge g i e → (Walk (HasEdge xs) (row i) (col e) → ⊥) → ⊥
edge_walk g xs h i e x none = none (to_col stay ((h.taken i e).1 (x, λ w. none (walk-more (λ i' e' y. y.0) w))))

-- where the graph has a walk, the forest can't fail to have one
pub forest_walk : (g : Graph) (xs : List Edge) → IsFirstForest (IsEdge g) xs → {u v : Vertex} → Walk (IsEdge g) u v → (Walk (HasEdge xs) u v → ⊥) → ⊥
forest_walk g xs h stay none = none stay
forest_walk g xs h (to_col {i = i} {e = e} w x) none = forest_walk g xs h w (λ p. edge_walk g xs h i e x (λ q. none (walk-trans p q)))
forest_walk g xs h (to_row {i = i} {e = e} w x) none = forest_walk g xs h w (λ p. edge_walk g xs h i e x (λ q. none (walk-trans p (walk-sym q))))
