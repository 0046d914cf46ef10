-- The first forest, place by place.
use Rattle.std.proofs.Common.{ℕ, ◌+◌, ◌<◌, ◌≤◌, ◌≡◌, ◌≢◌, ◌↔◌, Bool, true, false, List, [], ◌∷◌, ◌++◌, length, get_or, sym, ap, ◌∙◌, ⊎_elim, inl, inr, arith}
use Rattle.std.specs.Prelude.{IsTrue}
use Rattle.std.proofs.lemmas.Bool.{cases_lt, cases_eq}
use Rattle.std.proofs.lemmas.List.{ext_get_or}
use Rattle.std.proofs.lemmas.List.Quantifiers.{all_pairs_push}
use Rattle.mr_graph.specs.declared.edge.Edge.{Edge}
use Rattle.mr_graph.specs.Graph.{Graph, IsEdge, Vertex, row, col, IsVertex, Walk, stay, to_col, to_row}
use Rattle.mr_graph.specs.Forest.{HasEdge, IsEarlierPlace, HasEdgeBefore, ClosesCycle, IsFirstForest}
use Rattle.mr_graph.specs.Private.Labels.{label, IsLabelled, relabelled}
use Rattle.mr_graph.specs.Private.Grown.{IsGrown}
use Rattle.mr_graph.proofs.Walks.{walk-more, walk-trans, walk-sym}
use Rattle.mr_graph.proofs.Parts.{labelled_none, closes, closes_not, merge, merged, And, relabelled-same, relabelled-other}
use Rattle.mr_graph.proofs.Edges.{not_before_itself, before_more, before_cases, here_before_next, HasEdge-push, HasEdge-push_old, HasEdge-push_new, HasEdge-get_or}

-- no place is before the first one
nothing_before : (i' e' : ℕ) → IsEarlierPlace i' e' 0 0 → ⊥
nothing_before i' e' x = ⊎_elim (λ (p : i' < 0). absurd (omega arith)) (λ (p : (i' ≡ 0) × (e' < 0)). absurd (omega arith)) x

-- before the first place the forest is empty, and each vertex has a label of its own
pub grown_none : (g : Graph) (labels : List ℕ) → length labels ≡ g.rows + g.cols → ((k : ℕ) → k < g.rows + g.cols → get_or labels k 0 ≡ k) → IsGrown g labels [] 0 0
grown_none g labels size own = record {
  labelled = labelled_none g.rows g.cols labels size own (HasEdge []) (λ i e x. x);
  spans = λ i' e' x b. absurd (nothing_before i' e' b);
  before = λ i' e' x. absurd x;
  rising = λ i j d lt inside. absurd (omega arith);
  taken = λ i' e' b. absurd (nothing_before i' e' b);
}

-- a place without an edge leaves the forest as it is
pub grown_no_edge : (g : Graph) (labels : List ℕ) (forest : List Edge) (i e : ℕ) → IsGrown g labels forest i e → (IsEdge g i e → ⊥) → IsGrown g labels forest i (e + 1)
grown_no_edge g labels forest i e h none = record {
  labelled = h.labelled;
  spans = λ i' e' x b. ⊎_elim (λ (p : IsEarlierPlace i' e' i e). h.spans i' e' x p) (λ (p : (i' ≡ i) × (e' ≡ e)). absurd (none (rw (p.0, p.1) at x))) (before_cases i' e' i e b);
  before = λ i' e' x. before_more i' e' i e (h.before i' e' x);
  rising = h.rising;
  taken = λ i' e' b. ⊎_elim (λ (p : IsEarlierPlace i' e' i e). h.taken i' e' p) (λ (p : (i' ≡ i) × (e' ≡ e)). rw (p.0, p.1) (
    (λ (x : HasEdge forest i e). absurd (not_before_itself i e (h.before i e x))),
    (λ (x : IsEdge g i e × (ClosesCycle (HasEdgeBefore forest i e) i e → ⊥)). absurd (none x.0)),
  )) (before_cases i' e' i e b);
}

-- a row's end is the next row's start
pub grown_next_row : (g : Graph) (labels : List ℕ) (forest : List Edge) (i : ℕ) → IsGrown g labels forest i g.cols → IsGrown g labels forest (i + 1) 0
grown_next_row g labels forest i h = record {
  labelled = h.labelled;
  spans = λ i' e' x b. h.spans i' e' x (earlier i' e' x.col b);
  before = λ i' e' x. inl (⊎_elim (λ (p : i' < i). omega arith) (λ (p : (i' ≡ i) × (e' < g.cols)). omega arith) (h.before i' e' x));
  rising = h.rising;
  taken = λ i' e' b. (
    (λ x. (h.taken i' e' (h.before i' e' x)).0 x),
    (λ x. (h.taken i' e' (earlier i' e' x.0.col b)).1 x),
  );
}
  where
    earlier : (i' e' : ℕ) → e' < g.cols → IsEarlierPlace i' e' (i + 1) 0 → IsEarlierPlace i' e' i g.cols
    earlier i' e' lt b = ⊎_elim
        (λ (p : i' < i + 1). ⊎_elim (λ (q : i' < i). inl q) (λ (q : i ≤ i'). inr (omega arith, lt)) (cases_lt i' i))
        (λ (p : (i' ≡ i + 1) × (e' < 0)). absurd (omega arith)) b

-- an edge whose ends are joined already is not taken
pub grown_same : (g : Graph) (labels new : List ℕ) (forest : List Edge) (i e : ℕ) → IsGrown g labels forest i e → IsEdge g i e →
    label g.rows labels (row i) ≡ label g.rows labels (col e) → new ≡ labels → IsGrown g new forest i (e + 1)
grown_same g labels new forest i e h edge same kept = rw kept (record {
  labelled = h.labelled;
  spans = λ i' e' x b. ⊎_elim (λ (p : IsEarlierPlace i' e' i e). h.spans i' e' x p) (λ (p : (i' ≡ i) × (e' ≡ e)). rw (p.0, p.1) same) (before_cases i' e' i e b);
  before = λ i' e' x. before_more i' e' i e (h.before i' e' x);
  rising = h.rising;
  taken = λ i' e' b. ⊎_elim (λ (p : IsEarlierPlace i' e' i e). h.taken i' e' p) (λ (p : (i' ≡ i) × (e' ≡ e)). rw (p.0, p.1) (
    (λ (x : HasEdge forest i e). absurd (not_before_itself i e (h.before i e x))),
    (λ (x : IsEdge g i e × (ClosesCycle (HasEdgeBefore forest i e) i e → ⊥)). absurd (x.1 (walk-more (λ i' e' y. (y, h.before i' e' y)) (closes h.labelled i e edge.row edge.col same)))),
  )) (before_cases i' e' i e b);
})

-- an edge whose ends are not joined is taken
pub grown_more : (g : Graph) (labels new : List ℕ) (forest : List Edge) (x : Edge) → IsGrown g labels forest x.row x.col → IsEdge g x.row x.col →
    label g.rows labels (row x.row) ≢ label g.rows labels (col x.col) → length new ≡ length labels →
    ((k : ℕ) → k < length labels → get_or new k 0 ≡ merged g.rows labels x.row x.col (get_or labels k 0)) → IsGrown g new (forest ++ x ∷ []) x.row (x.col + 1)
grown_more g labels new forest x h edge differs size relabelled = record {
  labelled = pushed;
  spans = λ i' e' y b. ⊎_elim
      (λ (p : IsEarlierPlace i' e' x.row x.col). at (row i') y.row ∙ ap (merged g.rows labels x.row x.col) (h.spans i' e' y p) ∙ sym (at (col e') y.col))
      (λ (p : (i' ≡ x.row) × (e' ≡ x.col)). rw (p.0, p.1) (pushed.along x.row x.col (HasEdge-push_new forest x))) (before_cases i' e' x.row x.col b);
  before = λ i' e' y. ⊎_elim (λ (p : HasEdge forest i' e'). before_more i' e' x.row x.col (h.before i' e' p)) (λ (p : (i' ≡ x.row) × (e' ≡ x.col)). rw (p.0, p.1) (here_before_next x.row x.col)) (HasEdge-push forest x i' e' y);
  rising = all_pairs_push (λ a b. IsEarlierPlace a.row a.col b.row b.col) forest x h.rising (λ k d lt. h.before (get_or forest k d).row (get_or forest k d).col (HasEdge-get_or forest k d lt));
  taken = λ i' e' b. ⊎_elim
      (λ (p : IsEarlierPlace i' e' x.row x.col). (
        (λ y. let z = (h.taken i' e' p).0 (old i' e' p y) in (z.0, λ w. z.1 (walk-more (λ i'' e'' v. (old i'' e'' (earlier i'' e'' i' e' v.1 p) v.0, v.1)) w))),
        (λ z. HasEdge-push_old forest x i' e' ((h.taken i' e' p).1 (z.0, λ w. z.1 (walk-more (λ i'' e'' v. (HasEdge-push_old forest x i'' e'' v.0, v.1)) w)))),
      ))
      (λ (p : (i' ≡ x.row) × (e' ≡ x.col)). rw (p.0, p.1) (
        (λ (y : HasEdge (forest ++ x ∷ []) x.row x.col). (edge, λ (w : ClosesCycle (HasEdgeBefore (forest ++ x ∷ []) x.row x.col) x.row x.col). closes_not h.labelled x.row x.col differs (walk-more (λ i'' e'' v. old i'' e'' v.1 v.0) w))),
        (λ (z : IsEdge g x.row x.col × (ClosesCycle (HasEdgeBefore (forest ++ x ∷ []) x.row x.col) x.row x.col → ⊥)). HasEdge-push_new forest x),
      )) (before_cases i' e' x.row x.col b);
}
  where
    both : IsLabelled g.rows g.cols (And (HasEdge forest) x.row x.col) new
    both = merge g.rows g.cols (HasEdge forest) labels new x.row x.col h.labelled edge.row edge.col size relabelled

    pushed : IsLabelled g.rows g.cols (HasEdge (forest ++ x ∷ [])) new
    pushed = record {
      size = both.size;
      inside = λ i e y. both.inside i e (HasEdge-push forest x i e y);
      along = λ i e y. both.along i e (HasEdge-push forest x i e y);
      joined = λ u v iu iv same. walk-more (λ i e y. ⊎_elim (λ (p : HasEdge forest i e). HasEdge-push_old forest x i e p) (λ (p : (i ≡ x.row) × (e ≡ x.col)). rw (p.0, p.1) (HasEdge-push_new forest x)) y) (both.joined u v iu iv same);
    }

    at : (v : Vertex) → IsVertex g.rows g.cols v → label g.rows new v ≡ merged g.rows labels x.row x.col (label g.rows labels v)
    at (row i) lt = relabelled i (let n = h.labelled.size in omega arith)
    at (col e) lt = relabelled (g.rows + e) (let n = h.labelled.size in omega arith)

    -- an edge before the new one is an old one
    old : (i' e' : ℕ) → IsEarlierPlace i' e' x.row x.col → HasEdge (forest ++ x ∷ []) i' e' → HasEdge forest i' e'
    old i' e' b y = ⊎_elim (λ (p : HasEdge forest i' e'). p) (λ (p : (i' ≡ x.row) × (e' ≡ x.col)). absurd (not_before_itself x.row x.col (rw (p.0, p.1) at b))) (HasEdge-push forest x i' e' y)

    earlier : (i'' e'' i' e' : ℕ) → IsEarlierPlace i'' e'' i' e' → IsEarlierPlace i' e' x.row x.col → IsEarlierPlace i'' e'' x.row x.col
    earlier i'' e'' i' e' p q = ⊎_elim
        (λ (a : i'' < i'). ⊎_elim (λ (b : i' < x.row). inl (omega arith)) (λ (b : (i' ≡ x.row) × (e' < x.col)). inl (omega arith)) q)
        (λ (a : (i'' ≡ i') × (e'' < e')). ⊎_elim (λ (b : i' < x.row). inl (omega arith)) (λ (b : (i' ≡ x.row) × (e' < x.col)). inr (omega arith, omega arith)) q) p

-- past the last row the forest is the first forest
pub grown_all : (g : Graph) (labels : List ℕ) (forest : List Edge) → IsGrown g labels forest g.rows 0 → IsFirstForest (IsEdge g) forest
grown_all g labels forest h = record {
  rising = h.rising;
  taken = λ i e. (
    (λ x. (h.taken i e (h.before i e x)).0 x),
    (λ x. (h.taken i e (inl x.0.row)).1 x),
  );
}

-- uniting a label with itself changes nothing
unite_same : (labels new : List ℕ) (was : ℕ) → length new ≡ length labels → ((k : ℕ) → k < length labels → get_or new k 0 ≡ relabelled was was (get_or labels k 0)) → new ≡ labels
unite_same labels new was size relabelled_at = ext_get_or 0 new labels size (λ k lt. relabelled_at k (omega arith) ∙ same (get_or labels k 0))
  where
    same : (x : ℕ) → relabelled was was x ≡ x
    same x = ⊎_elim (λ (p : x ≡ was). relabelled-same was was x p ∙ sym p) (λ (p : x ≢ was). relabelled-other was was x p) (cases_eq x was)

-- where uniting finds one label, the edge is not taken
pub grown_united : (g : Graph) (labels new : List ℕ) (forest : List Edge) (i e : ℕ) (united : Bool) → IsGrown g labels forest i e → IsEdge g i e →
    united ≡ false → length new ≡ length labels →
    (IsTrue united ↔ (label g.rows labels (col e) ≢ label g.rows labels (row i))) →
    ((k : ℕ) → k < length labels → get_or new k 0 ≡ merged g.rows labels i e (get_or labels k 0)) → IsGrown g new forest i (e + 1)
grown_united g labels new forest i e united h edge refused size apart new_at = ⊎_elim
    (λ (p : label g.rows labels (row i) ≡ label g.rows labels (col e)).
    grown_same g labels new forest i e h edge p
    (unite_same labels new (label g.rows labels (col e)) size (λ k lt. new_at k lt ∙ ap (λ now. relabelled (label g.rows labels (col e)) now (get_or labels k 0)) p)))
    (λ (p : label g.rows labels (row i) ≢ label g.rows labels (col e)). let yes : IsTrue united = apart.1 (λ s. p (sym s)) in absurd (let f : true ≡ false = sym yes ∙ refused in cc))
    (cases_eq (label g.rows labels (row i)) (label g.rows labels (col e)))

-- the forest joins what the graph joins
grown_edge : (g : Graph) (labels : List ℕ) (forest : List Edge) → IsGrown g labels forest g.rows 0 → (i e : ℕ) → IsEdge g i e → Walk (HasEdge forest) (row i) (col e)
grown_edge g labels forest h i e x = h.labelled.joined (row i) (col e) x.row x.col (h.spans i e x (inl x.row))

-- the whole forest spans the graph
pub grown_spans : (g : Graph) (labels : List ℕ) (forest : List Edge) → IsGrown g labels forest g.rows 0 → {u v : Vertex} → Walk (IsEdge g) u v → Walk (HasEdge forest) u v
grown_spans g labels forest h stay = stay
grown_spans g labels forest h (to_col {i = i} {e = e} w x) = walk-trans (grown_spans g labels forest h w) (grown_edge g labels forest h i e x)
grown_spans g labels forest h (to_row {i = i} {e = e} w x) = walk-trans (grown_spans g labels forest h w) (walk-sym (grown_edge g labels forest h i e x))
