-- Lists of edges in row-major order.
use Rattle.std.proofs.Common.{ℕ, zero, suc, ◌+◌, ◌<◌, ◌≤◌, ◌≡◌, ◌≢◌, ◌⊎◌, List, [], ◌∷◌, ◌++◌, length, get_or, refl, sym, ap, subst, ◌∙◌, ⊎_elim, inl, inr, arith}
use Rattle.std.specs.Prelude.{Contains}
use Rattle.std.specs.List.Sorted.{IsPermutation}
use Rattle.std.proofs.lemmas.Bool.{cases_lt, cases_eq}
use Rattle.std.proofs.lemmas.List.Sorted.{Contains-permutation}
use Rattle.mr_graph.specs.declared.edge.Edge.{Edge}
use Rattle.mr_graph.specs.Forest.{HasEdge, IsEarlierPlace}

-- no place is before itself
pub not_before_itself : (i e : ℕ) → IsEarlierPlace i e i e → ⊥
not_before_itself i e x = ⊎_elim (λ (p : i < i). absurd (omega arith)) (λ (p : (i ≡ i) × (e < e)). absurd (omega arith)) x

-- what is before a place is before the next one in its row
pub before_more : (i' e' i e : ℕ) → IsEarlierPlace i' e' i e → IsEarlierPlace i' e' i (e + 1)
before_more i' e' i e x = ⊎_elim (λ (p : i' < i). inl p) (λ (p : (i' ≡ i) × (e' < e)). inr (p.0, omega arith)) x

-- before the next place in a row is this one and what is before it
pub before_cases : (i' e' i e : ℕ) → IsEarlierPlace i' e' i (e + 1) → IsEarlierPlace i' e' i e ⊎ ((i' ≡ i) × (e' ≡ e))
before_cases i' e' i e x = ⊎_elim (λ (p : i' < i). inl (inl p)) (λ (p : (i' ≡ i) × (e' < e + 1)). ⊎_elim (λ (q : e' < e). inl (inr (p.0, q))) (λ (q : e ≤ e'). inr (p.0, omega arith)) (cases_lt e' e)) x

-- a place is before the next one in its row
pub here_before_next : (i e : ℕ) → IsEarlierPlace i e i (e + 1)
here_before_next i e = inr (refl, omega arith)

-- a list with one more edge has that one and the old ones
pub HasEdge-push : (xs : List Edge) (x : Edge) (i e : ℕ) → HasEdge (xs ++ x ∷ []) i e → HasEdge xs i e ⊎ ((i ≡ x.row) × (e ≡ x.col))
HasEdge-push [] x i e h = ⊎_elim (λ p. inr p) (λ (n : ⊥). absurd n) h
HasEdge-push (y ∷ xs) x i e h = ⊎_elim (λ (p : (i ≡ y.row) × (e ≡ y.col)). inl (inl p)) (λ (p : HasEdge (xs ++ x ∷ []) i e). ⊎_elim (λ (q : HasEdge xs i e). inl (inr q)) (λ q. inr q) (HasEdge-push xs x i e p)) h

-- the old ones are still there
pub HasEdge-push_old : (xs : List Edge) (x : Edge) (i e : ℕ) → HasEdge xs i e → HasEdge (xs ++ x ∷ []) i e
HasEdge-push_old [] x i e h = absurd h
HasEdge-push_old (y ∷ xs) x i e h = ⊎_elim (λ (p : (i ≡ y.row) × (e ≡ y.col)). inl p) (λ (p : HasEdge xs i e). inr (HasEdge-push_old xs x i e p)) h

-- and the new one is there
pub HasEdge-push_new : (xs : List Edge) (x : Edge) → HasEdge (xs ++ x ∷ []) x.row x.col
HasEdge-push_new [] x = inl (refl, refl)
HasEdge-push_new (y ∷ xs) x = inr (HasEdge-push_new xs x)

-- a list has the edge at each of its places
pub HasEdge-get_or : (xs : List Edge) (k : ℕ) (d : Edge) → k < length xs → HasEdge xs (get_or xs k d).row (get_or xs k d).col
HasEdge-get_or [] k d lt = absurd (omega arith)
HasEdge-get_or (x ∷ xs) zero d lt = inl (refl, refl)
HasEdge-get_or (x ∷ xs) (suc k) d lt = inr (HasEdge-get_or xs k d (omega arith))

-- an edge of a list stands at some place
pub HasEdge-place : (xs : List Edge) (i e : ℕ) → HasEdge xs i e → (d : Edge) → (k : ℕ) × (k < length xs) × ((get_or xs k d).row ≡ i) × ((get_or xs k d).col ≡ e)
HasEdge-place [] i e h d = absurd h
HasEdge-place (x ∷ xs) i e (inl p) d = (0, omega arith, sym p.0, sym p.1)
HasEdge-place (x ∷ xs) i e (inr p) d = let u = HasEdge-place xs i e p d in (suc u.0, (let l = u.1 in omega arith), u.2, u.3)

-- a list has an edge or not
pub HasEdge-or_not : (xs : List Edge) (i e : ℕ) → HasEdge xs i e ⊎ (HasEdge xs i e → ⊥)
HasEdge-or_not [] i e = inr (λ h. h)
HasEdge-or_not (x ∷ xs) i e = ⊎_elim
    (λ (p : HasEdge xs i e). inl (inr p))
    (λ (p : HasEdge xs i e → ⊥). ⊎_elim
    (λ (q : i ≡ x.row). ⊎_elim (λ (r : e ≡ x.col). inl (inl (q, r))) (λ (r : e ≢ x.col). inr (λ h. ⊎_elim (λ (s : (i ≡ x.row) × (e ≡ x.col)). r s.1) p h)) (cases_eq e x.col))
    (λ (q : i ≢ x.row). inr (λ h. ⊎_elim (λ (s : (i ≡ x.row) × (e ≡ x.col)). q s.0) p h)) (cases_eq i x.row))
    (HasEdge-or_not xs i e)

-- an edge is its row and its column
pub edge_same : (x y : Edge) → x.row ≡ y.row → x.col ≡ y.col → x ≡ y
edge_same x y r c =
    let P : Edge = record { row = y.row; col = x.col } in
    let first : x ≡ P = ap (λ (k : ℕ). let z : Edge = record { row = k; col = x.col } in z) r in
    let second : P ≡ y = ap (λ (k : ℕ). let z : Edge = record { row = y.row; col = k } in z) c in
    first ∙ second

-- a list in another order has the same edges
pub HasEdge-permutation : (xs ys : List Edge) → IsPermutation xs ys → (i e : ℕ) → HasEdge xs i e → HasEdge ys i e
HasEdge-permutation xs ys moved i e h =
    let x : Edge = record { row = i; col = e } in
    let u = HasEdge-place xs i e h x in
    let there : Contains ys x = Contains-permutation xs ys x moved (u.0, u.1, edge_same (get_or xs u.0 x) x u.2 u.3) in
    subst (λ (y : Edge). HasEdge ys y.row y.col) there.2 (HasEdge-get_or ys there.0 x there.1)
