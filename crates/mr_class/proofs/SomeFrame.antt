-- A matroid within the limits has a frame over each field.
use Rattle.std.proofs.Common.{ℕ, zero, suc, ◌+◌, ◌<◌, ◌≤◌, ◌≡◌, ◌≢◌, ◌⊎◌, List, [], ◌∷◌, ◌++◌, refl, subst, inl, inr, ⊎_elim, arith}
use Rattle.mr_field.specs.Gf.{Gf, gf2}
use Rattle.mr_field.proofs.Laws.{one-ne}
use Rattle.mr_set.specs.Matroid.{Presentation, IsBasis}
use Rattle.mr_graph.specs.declared.edge.Edge.{Edge}
use Rattle.mr_graph.specs.Forest.{HasEdge}
use Rattle.mr_graph.proofs.Edges.{HasEdge-or_not}
use Rattle.mr_frame.specs.Frame.{Framed, IsExchange, IsOutside, AreEdges}
use Rattle.mr_frame.specs.Private.Building.{IsListedTo}
use Rattle.mr_frame.proofs.Filled.{exchange_or_not}
use Rattle.mr_frame.proofs.Outside.{listed_none, listed_same, listed_more, listed_row, listed_all}
use Rattle.mr_frame.proofs.Uniqueness.{two_or_more}
use Rattle.mr_class.specs.Laws.{MatroidsHaveFrames}
use Rattle.mr_class.proofs.FirstBasis.{first_basis}
use Rattle.mr_class.proofs.Greedy.{first-forest}

-- the edges of a relation that is told of each place are listed
module _ (G : ℕ → ℕ → Type 0) (r n : ℕ) (told : (i e : ℕ) → i < r → e < n → G i e ⊎ (G i e → ⊥)) (inside : (i e : ℕ) → G i e → (i < r) × (e < n)) where
  -- one place more
  next_place : (i k : ℕ) → i < r → k < n → (xs : List Edge) × IsListedTo G xs i k → (xs : List Edge) × IsListedTo G xs i (k + 1)
  next_place i k row col was =
      let x : Edge = record { row = i; col = k } in
      ⊎_elim
      (λ (is : G i k). (was.0 ++ x ∷ [], listed_more G was.0 x was.1 is))
      (λ (none : G i k → ⊥). (was.0, listed_same G was.0 i k was.1 none))
      (told i k row col)

  -- the first places of a row
  places_of : (i k : ℕ) → i < r → k ≤ n → (xs : List Edge) × IsListedTo G xs i 0 → (xs : List Edge) × IsListedTo G xs i k
  places_of i zero row le was = was
  places_of i (suc k) row le was = let more : k + 1 ≡ suc k = omega arith in subst (λ j. (xs : List Edge) × IsListedTo G xs i j) more (next_place i k row (omega arith) (places_of i k row (omega arith) was))

  -- the first rows
  rows_of : (i : ℕ) → i ≤ r → (xs : List Edge) × IsListedTo G xs i 0
  rows_of zero le = ([], listed_none G)
  rows_of (suc i) le =
      let more : i + 1 ≡ suc i = omega arith in
      let was = places_of i n (omega arith) (omega arith) (rows_of i (omega arith)) in
      subst (λ j. (xs : List Edge) × IsListedTo G xs j 0) more (was.0, listed_row G was.0 i n (λ i' e' is. (inside i' e' is).1) was.1)

  -- all of them
  edges_listed : (xs : List Edge) × AreEdges G xs
  edges_listed = let was = rows_of r (omega arith) in (was.0, listed_all G was.0 r (λ i e is. (inside i e is).0) was.1)

-- the edges outside of a forest are told
outside_or_not : (m : Presentation) (b : List ℕ) → IsBasis m b → (forest : List Edge) (i e : ℕ) → i < m.rank → e < m.elements → IsOutside m b forest i e ⊎ (IsOutside m b forest i e → ⊥)
outside_or_not m b basis forest i e row col = ⊎_elim
    (λ (edge : IsExchange m b i e). ⊎_elim
    (λ (has : HasEdge forest i e). inr (λ out. out.1 has))
    (λ (none : HasEdge forest i e → ⊥). inl (edge, none))
    (HasEdge-or_not forest i e))
    (λ (none : IsExchange m b i e → ⊥). inr (λ out. none out.0))
    (exchange_or_not m b basis i e row col)

-- the free positions: none over two elements
free_places : (m : Presentation) (field : Gf) (b : List ℕ) → IsBasis m b → (forest : List Edge) → (places : List Edge) × (field ≡ gf2 → places ≡ []) × (field ≢ gf2 → AreEdges (IsOutside m b forest) places)
free_places m field b basis forest = ⊎_elim
    (λ (two : field ≡ gf2). ([], (λ _. refl), (λ more. absurd (more two))))
    (λ (more : field ≢ gf2).
    let xs = edges_listed (IsOutside m b forest) m.rank m.elements (outside_or_not m b basis forest) (λ i e out. (out.0.row, out.0.element)) in
    (xs.0, (λ two. absurd (more two)), (λ _. xs.1)))
    (two_or_more field)

-- a matroid within the limits has a frame
pub matroids_have_frames : MatroidsHaveFrames
matroids_have_frames m field matroid limits =
    let b = first_basis m matroid in
    let forest = first-forest field (λ _ _. 1) (IsExchange m b.0) m.rank m.elements (exchange_or_not m b.0 b.1.basis) (λ i e edge. one-ne field) (λ i e edge. (edge.row, edge.element)) in
    let places = free_places m field b.0 b.1.basis forest.0 in
    let f : Framed = record { matroid = m; field = field; basis = b.0; forest = forest.0; places = places.0 } in (
      f,
      record {
        frame = record { matroid = matroid; limits = limits; basis = b.1; forest = forest.1; none = places.1; places = places.2 };
        matroid = refl;
        over = refl;
      },
    )
