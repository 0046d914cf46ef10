-- A list in row-major order is told by its edges, and a graph has one first forest.
use Rattle.std.proofs.Common.{ℕ, zero, suc, ◌+◌, ◌<◌, ◌≡◌, ◌↔◌, List, [], ◌∷◌, get_or, refl, sym, ap, subst, ◌∙◌, ⊎_elim, inl, inr, arith}
use Rattle.std.specs.Prelude.{AllPairs}
use Rattle.mr_graph.specs.declared.edge.Edge.{Edge}
use Rattle.mr_graph.specs.Forest.{HasEdge, IsEarlierPlace, IsFirstForest}
use Rattle.mr_graph.proofs.Walks.{walk-more}
use Rattle.mr_graph.proofs.Edges.{edge_same, HasEdge-place, not_before_itself}

-- row by row, and in a row by column
abbrev pub IsRising : List Edge → Type 0
IsRising xs = AllPairs (λ x y. IsEarlierPlace x.row x.col y.row y.col) xs

-- of two places not each is before the other
not_both : (i e i' e' : ℕ) → IsEarlierPlace i e i' e' → IsEarlierPlace i' e' i e → ⊥
not_both i e i' e' p q = ⊎_elim
    (λ (a : i < i'). ⊎_elim (λ (b : i' < i). absurd (omega arith)) (λ (b : (i' ≡ i) × (e' < e)). absurd (omega arith)) q)
    (λ (a : (i ≡ i') × (e < e')). ⊎_elim (λ (b : i' < i). absurd (omega arith)) (λ (b : (i' ≡ i) × (e' < e)). absurd (omega arith)) q)
    p

-- the first edge is before each later one
first_before : (x : Edge) (xs : List Edge) → IsRising (x ∷ xs) → (i e : ℕ) → HasEdge xs i e → IsEarlierPlace x.row x.col i e
first_before x xs rising i e h =
    let u = HasEdge-place xs i e h x in
    subst (λ (k : ℕ). IsEarlierPlace x.row x.col k e) u.2 (subst (λ (k : ℕ). IsEarlierPlace x.row x.col (get_or xs u.0 x).row k) u.3 (rising 0 (suc u.0) x (omega arith) (let lt = u.1 in omega arith)))

-- the rest rises too
rest_rising : (x : Edge) (xs : List Edge) → IsRising (x ∷ xs) → IsRising xs
rest_rising x xs rising i j d lt inside = rising (suc i) (suc j) d (omega arith) (omega arith)

-- an edge of a list with another first one is in the rest
in_rest : (x y : Edge) (ys : List Edge) (i e : ℕ) → x ≡ y → IsEarlierPlace x.row x.col i e → HasEdge (y ∷ ys) i e → HasEdge ys i e
in_rest x y ys i e same before h = ⊎_elim
    (λ (p : (i ≡ y.row) × (e ≡ y.col)). absurd (not_before_itself y.row y.col (subst (λ (z : Edge). IsEarlierPlace z.row z.col y.row y.col) same (subst (λ (k : ℕ). IsEarlierPlace x.row x.col k y.col) p.0 (subst (λ (k : ℕ). IsEarlierPlace x.row x.col i k) p.1 before)))))
    (λ (p : HasEdge ys i e). p)
    h

-- the first edges of two lists with the same edges are one
first_same : (x y : Edge) (xs ys : List Edge) → IsRising (x ∷ xs) → IsRising (y ∷ ys) → HasEdge (y ∷ ys) x.row x.col → HasEdge (x ∷ xs) y.row y.col → x ≡ y
first_same x y xs ys p q here there = ⊎_elim
    (λ (a : (x.row ≡ y.row) × (x.col ≡ y.col)). edge_same x y a.0 a.1)
    (λ (a : HasEdge ys x.row x.col). ⊎_elim
    (λ (b : (y.row ≡ x.row) × (y.col ≡ x.col)). edge_same x y (sym b.0) (sym b.1))
    (λ (b : HasEdge xs y.row y.col). absurd (not_both x.row x.col y.row y.col (first_before x xs p y.row y.col b) (first_before y ys q x.row x.col a)))
    there)
    here

-- two lists in row-major order with the same edges are one
pub rising_same : (xs ys : List Edge) → IsRising xs → IsRising ys → ((i e : ℕ) → HasEdge xs i e ↔ HasEdge ys i e) → xs ≡ ys
rising_same [] [] p q same = refl
rising_same [] (y ∷ ys) p q same = absurd ((same y.row y.col).1 (inl (refl, refl)))
rising_same (x ∷ xs) [] p q same = absurd ((same x.row x.col).0 (inl (refl, refl)))
rising_same (x ∷ xs) (y ∷ ys) p q same =
    let head : x ≡ y = first_same x y xs ys p q ((same x.row x.col).0 (inl (refl, refl))) ((same y.row y.col).1 (inl (refl, refl))) in
    let rest : xs ≡ ys = rising_same xs ys (rest_rising x xs p) (rest_rising y ys q) (λ i e. (
      (λ h. in_rest x y ys i e head (first_before x xs p i e h) ((same i e).0 (inr h))),
      (λ h. in_rest y x xs i e (sym head) (first_before y ys q i e h) ((same i e).1 (inr h))),
    )) in
    ap (λ (z : Edge). z ∷ xs) head ∙ ap (λ (zs : List Edge). y ∷ zs) rest

module _ (G : ℕ → ℕ → Type 0) (xs ys : List Edge) (here : IsFirstForest G xs) (there : IsFirstForest G ys) where
  -- the two have the same edge at a place
  abbrev Agree : ℕ → ℕ → Type 0
  Agree i e = HasEdge xs i e ↔ HasEdge ys i e

  -- where they agree before a place they agree there
  agree_at : (i e : ℕ) → ((i' e' : ℕ) → IsEarlierPlace i' e' i e → Agree i' e') → Agree i e
  agree_at i e before = (
    (λ h. let was = (here.taken i e).0 h in (there.taken i e).1 (was.0, λ w. was.1 (walk-more (λ i' e' y. ((before i' e' y.1).1 y.0, y.1)) w))),
    (λ h. let was = (there.taken i e).0 h in (here.taken i e).1 (was.0, λ w. was.1 (walk-more (λ i' e' y. ((before i' e' y.1).0 y.0, y.1)) w))),
  )

  -- so they agree in a row
  agree_row : (i : ℕ) → ((i' e' : ℕ) → i' < i → Agree i' e') → (n e : ℕ) → e < n → Agree i e
  agree_row i above zero e lt = absurd (omega arith)
  agree_row i above (suc n) e lt = agree_at i e (λ i' e' b. ⊎_elim
      (λ (p : i' < i). above i' e' p)
      (λ (p : (i' ≡ i) × (e' < e)). subst (λ (k : ℕ). Agree k e') (sym p.0) (agree_row i above n e' (let q = p.1 in omega arith)))
      b)

  -- and in all rows
  agree : (n i e : ℕ) → i < n → Agree i e
  agree zero i e lt = absurd (omega arith)
  agree (suc n) i e lt = agree_row i (λ i' e' p. agree n i' e' (omega arith)) (e + 1) e (omega arith)

  -- a graph has one first forest
  pub first_forest-one : xs ≡ ys
  first_forest-one = rising_same xs ys here.rising there.rising (λ i e. agree (i + 1) i e (omega arith))
