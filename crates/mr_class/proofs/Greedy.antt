-- The first forest of a relation, taken place by place, with labels of its parts and factors that make its entries 1.
use Rattle.std.proofs.Common.{ℕ, zero, suc, ◌+◌, ◌*◌, ◌<◌, ◌≤◌, ◌≡◌, ◌≢◌, ◌⊎◌, ◌↔◌, List, [], ◌∷◌, ◌++◌, get_or, refl, subst, ⊎_elim, inl, inr, arith}
use Rattle.std.proofs.lemmas.Bool.{cases_eq, cases_lt}
use Rattle.std.proofs.lemmas.List.Quantifiers.{all_pairs_push}
use Rattle.mr_field.specs.Gf.{Gf, norm}
use Rattle.mr_field.proofs.Laws.{one-ne}
use Rattle.mr_linear.specs.Columns.{Entries}
use Rattle.mr_graph.specs.declared.edge.Edge.{Edge}
use Rattle.mr_graph.specs.Graph.{Vertex, row, col, Walk, stay}
use Rattle.mr_graph.specs.Forest.{HasEdge, IsEarlierPlace, HasEdgeBefore, ClosesCycle, IsFirstForest}
use Rattle.mr_graph.proofs.Walks.{walk-more}
use Rattle.mr_graph.proofs.Parts.{And}
use Rattle.mr_graph.proofs.Edges.{not_before_itself, before_more, before_cases, here_before_next, HasEdge-push, HasEdge-push_old, HasEdge-push_new, HasEdge-get_or}
use Rattle.mr_graph.proofs.Uniqueness.{IsRising}
use Rattle.mr_class.proofs.Labels.{IsLabelled, merged, merge, apart_walk}
use Rattle.mr_class.proofs.Scaling.{Scales, join, scales-same}

-- the first forest of G among the places before (i, e)
pub record Grown (f : Gf) (a : Entries) (G : ℕ → ℕ → Type 0) (i e : ℕ) : Type 0 where
  pub edges : List Edge
  pub label : Vertex → ℕ
  pub rising : IsRising edges
  pub before : (x y : ℕ) → HasEdge edges x y → IsEarlierPlace x y i e
  pub taken : (x y : ℕ) → IsEarlierPlace x y i e → HasEdge edges x y ↔ (G x y × ¬ (ClosesCycle (HasEdgeBefore edges x y) x y))
  pub labelled : IsLabelled (HasEdge edges) label
  pub scales : Scales f a (HasEdge edges)

-- at first each vertex is a part of its own
first_label : Vertex → ℕ
first_label (row i) = 2 * i
first_label (col e) = 2 * e + 1

-- equal labels are of one vertex
first_joined : (u v : Vertex) → first_label u ≡ first_label v → Walk (HasEdge []) u v
unfolding first_label
first_joined (row i) (row k) h = let e : i ≡ k = omega arith in subst (λ z. Walk (HasEdge []) (row i) (row z)) e stay
first_joined (row i) (col k) h = absurd (omega arith)
first_joined (col i) (row k) h = absurd (omega arith)
first_joined (col i) (col k) h = let e : i ≡ k = omega arith in subst (λ z. Walk (HasEdge []) (col i) (col z)) e stay

-- no place is before the first
none_before : (x y : ℕ) → IsEarlierPlace x y 0 0 → ⊥
none_before x y b = ⊎_elim (λ (p : x < 0). omega arith) (λ (p : (x ≡ 0) × (y < 0)). omega (arith, p.1)) b

-- no place was seen
grown-start : (f : Gf) (a : Entries) (G : ℕ → ℕ → Type 0) → Grown f a G 0 0
grown-start f a G = record {
  edges = [];
  label = first_label;
  rising = λ i j d lt inside. absurd (omega arith);
  before = λ x y t. absurd t;
  taken = λ x y b. absurd (none_before x y b);
  labelled = record { along = λ i e x. absurd x; joined = first_joined };
  scales = record { rows = λ _. 1; cols = λ _. 1; rows_not_zero = λ i. one-ne f; cols_not_zero = λ e. one-ne f; ones = λ i e x. absurd x };
}

module _ (f : Gf) (a : Entries) (G : ℕ → ℕ → Type 0) where
  -- the place is left out of the forest
  leave : (i e : ℕ) (h : Grown f a G i e) → (G i e × ¬ (ClosesCycle (HasEdgeBefore h.edges i e) i e) → ⊥) → Grown f a G i (e + 1)
  leave i e h out = record {
    edges = h.edges;
    label = h.label;
    rising = h.rising;
    before = λ x y t. before_more x y i e (h.before x y t);
    taken = λ x y b. ⊎_elim (λ (p : IsEarlierPlace x y i e). h.taken x y p)
        (λ (p : (x ≡ i) × (y ≡ e)). rw (p.0, p.1) ((λ t. absurd (not_before_itself i e (h.before i e t))), (λ q. absurd (out q))))
        (before_cases x y i e b);
    labelled = h.labelled;
    scales = h.scales;
  }

  -- the place is taken into the forest
  take_edge : (i e : ℕ) (h : Grown f a G i e) → G i e → norm f (a i e) ≢ 0 → h.label (row i) ≢ h.label (col e) → Grown f a G i (e + 1)
  take_edge i e h ge ne apart = record {
    edges = edges;
    label = merged h.label i e;
    rising = all_pairs_push (λ y z. IsEarlierPlace y.row y.col z.row z.col) h.edges new h.rising (λ k d lt. h.before (get_or h.edges k d).row (get_or h.edges k d).col (HasEdge-get_or h.edges k d lt));
    before = λ x y t. ⊎_elim (λ (p : HasEdge h.edges x y). before_more x y i e (h.before x y p)) (λ (p : (x ≡ i) × (y ≡ e)). rw (p.0, p.1) (here_before_next i e)) (HasEdge-push h.edges new x y t);
    taken = λ x y b. ⊎_elim (λ (p : IsEarlierPlace x y i e). old x y p) (λ (p : (x ≡ i) × (y ≡ e)). rw (p.0, p.1) here) (before_cases x y i e b);
    labelled = record {
      along = λ x y t. (merge (HasEdge h.edges) h.label i e h.labelled).along x y (HasEdge-push h.edges new x y t);
      joined = λ u v same. walk-more more ((merge (HasEdge h.edges) h.label i e h.labelled).joined u v same);
    };
    scales = scales-same f a (And (HasEdge h.edges) i e) (HasEdge edges) (HasEdge-push h.edges new) (join f a (HasEdge h.edges) h.label i e h.labelled apart ne h.scales);
  }
    where
      new : Edge
      new = record { row = i; col = e }

      edges : List Edge
      edges = h.edges ++ new ∷ []

      more : (x y : ℕ) → And (HasEdge h.edges) i e x y → HasEdge edges x y
      more x y t = ⊎_elim (λ (p : HasEdge h.edges x y). HasEdge-push_old h.edges new x y p) (λ (p : (x ≡ i) × (y ≡ e)). rw (p.0, p.1) (HasEdge-push_new h.edges new)) t

      -- before a place that was seen stand the old edges alone
      fewer : (x y x' y' : ℕ) → (IsEarlierPlace x y i e) ⊎ ((x ≡ i) × (y ≡ e)) → HasEdgeBefore edges x y x' y' → HasEdgeBefore h.edges x y x' y'
      fewer x y x' y' b q = ⊎_elim
          (λ (p : HasEdge h.edges x' y'). (p, q.1))
          (λ (p : (x' ≡ i) × (y' ≡ e)). absurd (⊎_elim
          (λ (l : IsEarlierPlace x y i e). both x y l (rw (p.0, p.1) at q.1))
          (λ (l : (x ≡ i) × (y ≡ e)). not_before_itself i e (rw (p.0, p.1, l.0, l.1) at q.1)) b))
          (HasEdge-push h.edges new x' y' q.0)
        where
          both : (x y : ℕ) → IsEarlierPlace x y i e → IsEarlierPlace i e x y → ⊥
          both x y p q = ⊎_elim
              (λ (l : x < i). ⊎_elim (λ (m : i < x). omega arith) (λ (m : (i ≡ x) × (e < y)). omega (arith, m.0)) q)
              (λ (l : (x ≡ i) × (y < e)). ⊎_elim (λ (m : i < x). omega (arith, l.0)) (λ (m : (i ≡ x) × (e < y)). omega (arith, l.1, m.1)) q) p

      old : (x y : ℕ) → IsEarlierPlace x y i e → HasEdge edges x y ↔ (G x y × ¬ (ClosesCycle (HasEdgeBefore edges x y) x y))
      old x y b = (
        (λ t. ⊎_elim
            (λ (p : HasEdge h.edges x y). let q = (h.taken x y b).0 p in (q.0, λ w. q.1 (walk-more (λ x' y' z. fewer x y x' y' (inl b) z) w)))
            (λ (p : (x ≡ i) × (y ≡ e)). absurd (not_before_itself i e (rw (p.0, p.1) at b))) (HasEdge-push h.edges new x y t)),
        (λ q. HasEdge-push_old h.edges new x y ((h.taken x y b).1 (q.0, λ w. q.1 (walk-more (λ x' y' z. (HasEdge-push_old h.edges new x' y' z.0, z.1)) w)))),
      )

      here : HasEdge edges i e ↔ (G i e × ¬ (ClosesCycle (HasEdgeBefore edges i e) i e))
      here = (
        (λ _. (ge, λ w. apart_walk (HasEdge h.edges) h.label h.labelled i e apart (walk-more (λ x y z. (fewer i e x y (inr (refl, refl)) z).0) w))),
        (λ _. HasEdge-push_new h.edges new),
      )

  module _ (r n : ℕ) (decide : (i e : ℕ) → i < r → e < n → G i e ⊎ (G i e → ⊥)) (ne : (i e : ℕ) → G i e → norm f (a i e) ≢ 0) (inside : (i e : ℕ) → G i e → (i < r) × (e < n)) where
    -- one more place
    grown-next : (i e : ℕ) → i < r → e < n → Grown f a G i e → Grown f a G i (e + 1)
    grown-next i e l m h = ⊎_elim
        (λ (t : G i e). ⊎_elim
        (λ (p : h.label (row i) ≡ h.label (col e)). leave i e h (λ q. q.1 (walk-more (λ x y z. (z, h.before x y z)) (h.labelled.joined (row i) (col e) p))))
        (λ (p : h.label (row i) ≢ h.label (col e)). take_edge i e h t (ne i e t) p) (cases_eq (h.label (row i)) (h.label (col e))))
        (λ (o : G i e → ⊥). leave i e h (λ q. o q.0)) (decide i e l m)

    -- one more row
    grown-row : (i : ℕ) → Grown f a G i n → Grown f a G (i + 1) 0
    grown-row i h = record {
      edges = h.edges;
      label = h.label;
      rising = h.rising;
      before = λ x y t. ⊎_elim (λ (l : x < i). inl (omega arith)) (λ (l : (x ≡ i) × (y < n)). inl (omega (arith, l.0))) (h.before x y t);
      taken = λ x y b. ⊎_elim
          (λ (l : x < i + 1). ⊎_elim
          (λ (p : x ≡ i). ⊎_elim (λ (m : y < n). h.taken x y (inr (p, m))) (λ (m : n ≤ y). (
            (λ t. absurd (⊎_elim (λ (q : x < i). omega arith) (λ (q : (x ≡ i) × (y < n)). omega (arith, q.1)) (h.before x y t))),
            (λ q. absurd (let k = (inside x y q.0).1 in omega arith)),
          )) (cases_lt y n))
          (λ (p : x ≢ i). h.taken x y (inl (omega arith))) (cases_eq x i))
          (λ (l : (x ≡ i + 1) × (y < 0)). absurd (omega (arith, l.1))) b;
      labelled = h.labelled;
      scales = h.scales;
    }

    -- the first places of a row
    columns : (i k : ℕ) → i < r → k ≤ n → Grown f a G i 0 → Grown f a G i k
    columns i zero l m h = h
    columns i (suc k) l m h = let e : k + 1 ≡ suc k = omega arith in subst (Grown f a G i) e (grown-next i k l (omega arith) (columns i k l (omega arith) h))

    -- the first rows
    rows_of : (i : ℕ) → i ≤ r → Grown f a G i 0
    rows_of zero l = grown-start f a G
    rows_of (suc i) l = let e : i + 1 ≡ suc i = omega arith in subst (λ k. Grown f a G k 0) e (grown-row i (columns i n (omega arith) (omega arith) (rows_of i (omega arith))))

    -- all of them
    grown : Grown f a G r 0
    grown = rows_of r (omega arith)

    -- a relation has a first forest, and factors that make the entries on its edges 1
    pub first-forest : (forest : List Edge) × IsFirstForest G forest × Scales f a (HasEdge forest)
    first-forest = (
      grown.edges,
      record {
        rising = grown.rising;
        taken = λ i e. ⊎_elim
            (λ (l : i < r). grown.taken i e (inl l))
            (λ (l : r ≤ i). (
              (λ t. absurd (⊎_elim (λ (q : i < r). omega arith) (λ (q : (i ≡ r) × (e < 0)). omega (arith, q.1)) (grown.before i e t))),
              (λ q. absurd (let k = (inside i e q.0).0 in omega arith)),
            )) (cases_lt i r);
      },
      grown.scales,
    )
