-- The forest's edges in order, one by one.
use Rattle.std.proofs.Common.{ℕ, zero, suc, ◌+◌, ◌<◌, ◌≤◌, ◌≡◌, ◌⊎◌, List, [], ◌∷◌, ◌++◌, length, get_or, take, sym, ap, subst, ◌∙◌, ⊎_elim, inl, inr, arith}
use Rattle.std.specs.Prelude.{AllPairs, remove}
use Rattle.std.specs.List.Sorted.{IsPermutation}
use Rattle.std.proofs.lemmas.Bool.{cases_lt}
use Rattle.std.proofs.lemmas.List.{take-append-le, take_at, get_or_append_left, get_or_push, get_or_default, length_push}
use Rattle.std.proofs.lemmas.List.Edits.{get_or-remove_below, get_or-remove_above, length-remove}
use Rattle.std.proofs.lemmas.List.Quantifiers.{all_pairs_remove}
use Rattle.std.proofs.lemmas.List.Sorted.{IsPermutation-more}
use Rattle.mr_graph.specs.declared.edge.Edge.{Edge}
use Rattle.mr_graph.specs.Graph.{IsEdge, Graph, Vertex, row, col, Walk, stay}
use Rattle.mr_graph.specs.Forest.{HasEdge, IsEarlierPlace, IsFirstForest}
use Rattle.mr_graph.specs.Order.{Touches, IsLeafOf, IsFirstAt, IsForestOrder}
use Rattle.mr_graph.specs.Private.Order.{IsNextEdge}
use Rattle.mr_graph.proofs.Parts.{And}
use Rattle.mr_graph.proofs.Walks.{walk-more}
use Rattle.mr_graph.proofs.Edges.{HasEdge-push, HasEdge-push_old, HasEdge-push_new, HasEdge-get_or, HasEdge-place, not_before_itself}
use Rattle.mr_graph.proofs.Cycles.{acyclic_first, forest_walk}
use Rattle.mr_graph.proofs.Leaves.{Touched, IsSplit, free_end, split_more, reached}

-- a vertex that a list touches has an edge of it
touched : (xs : List Edge) (v : Vertex) → Touches xs v → Touched (HasEdge xs) v
touched xs (row i) (k, x, lt, read, is) = (x.col, subst (λ j. HasEdge xs j x.col) is (subst (λ (y : Edge). HasEdge xs y.row y.col) read (HasEdge-get_or xs k x lt)))
touched xs (col e) (k, x, lt, read, is) = (x.row, subst (λ j. HasEdge xs x.row j) is (subst (λ (y : Edge). HasEdge xs y.row y.col) read (HasEdge-get_or xs k x lt)))

-- and a vertex that has an edge of it is touched
pub touches : (xs : List Edge) (v : Vertex) → Touched (HasEdge xs) v → Touches xs v
touches xs (row i) (e, h) =
    let d : Edge = record { row = 0; col = 0 } in
    let u = HasEdge-place xs i e h d in
    (u.0, get_or xs u.0 d, u.1, get_or_default xs u.0 (get_or xs u.0 d) d u.1, u.2)
touches xs (col e) (i, h) =
    let d : Edge = record { row = 0; col = 0 } in
    let u = HasEdge-place xs i e h d in
    (u.0, get_or xs u.0 d, u.1, get_or_default xs u.0 (get_or xs u.0 d) d u.1, u.3)

-- two edges that differ in the row or in the column
abbrev pub IsDifferent : Edge → Edge → Type 0
IsDifferent x y = (x.row ≡ y.row) × (x.col ≡ y.col) → ⊥

-- an edge before another one differs from it
different : (x y : Edge) → IsEarlierPlace x.row x.col y.row y.col → IsDifferent x y
different x y b s = not_before_itself y.row y.col (subst (λ j. IsEarlierPlace j y.col y.row y.col) s.0 (subst (λ j. IsEarlierPlace x.row j y.row y.col) s.1 b))

-- what is left was there before
pub HasEdge-remove : (xs : List Edge) (k i e : ℕ) → HasEdge (remove xs k) i e → HasEdge xs i e
HasEdge-remove [] zero i e h = h
HasEdge-remove [] (suc k) i e h = h
HasEdge-remove (x ∷ xs) zero i e h = inr h
HasEdge-remove (x ∷ xs) (suc k) i e h = ⊎_elim (λ (p : (i ≡ x.row) × (e ≡ x.col)). inl p) (λ (p : HasEdge (remove xs k) i e). inr (HasEdge-remove xs k i e p)) h

-- an edge is still left, or it is the removed one
pub HasEdge-remove_other : (xs : List Edge) (k : ℕ) (d : Edge) → k < length xs → (i e : ℕ) → HasEdge xs i e → HasEdge (remove xs k) i e ⊎ ((i ≡ (get_or xs k d).row) × (e ≡ (get_or xs k d).col))
HasEdge-remove_other [] k d lt i e h = absurd h
HasEdge-remove_other (x ∷ xs) zero d lt i e h = ⊎_elim (λ (p : (i ≡ x.row) × (e ≡ x.col)). inr p) (λ (p : HasEdge xs i e). inl p) h
HasEdge-remove_other (x ∷ xs) (suc k) d lt i e h =
    ⊎_elim (λ (p : (i ≡ x.row) × (e ≡ x.col)). inl (inl p))
    (λ (p : HasEdge xs i e). ⊎_elim (λ (q : HasEdge (remove xs k) i e). inl (inr q)) (λ q. inr q) (HasEdge-remove_other xs k d (omega arith) i e p)) h

-- the removed edge is not left, as it stood once
removed_gone : (xs : List Edge) (k : ℕ) (d : Edge) → k < length xs → AllPairs IsDifferent xs → HasEdge (remove xs k) (get_or xs k d).row (get_or xs k d).col → ⊥
removed_gone xs k d lt distinct h =
    let u = HasEdge-place (remove xs k) (get_or xs k d).row (get_or xs k d).col h d in
    let size = length-remove xs k lt in
    let inside : u.0 < length (remove xs k) = u.1 in
    ⊎_elim
    (λ (p : u.0 < k). let read : get_or (remove xs k) u.0 d ≡ get_or xs u.0 d = get_or-remove_below xs k d u.0 p lt in
    distinct u.0 k d p lt (sym (ap (λ (x : Edge). x.row) read) ∙ u.2, sym (ap (λ (x : Edge). x.col) read) ∙ u.3))
    (λ (p : k ≤ u.0). let read : get_or (remove xs k) u.0 d ≡ get_or xs (u.0 + 1) d = get_or-remove_above xs k d u.0 p lt in
    distinct k (u.0 + 1) d (omega arith) (omega arith) (sym (sym (ap (λ (x : Edge). x.row) read) ∙ u.2), sym (sym (ap (λ (x : Edge). x.col) read) ∙ u.3)))
    (cases_lt u.0 k)

-- `out` was taken in order, and `left` is left
pub record IsOrdered (g : Graph) (forest out left : List Edge) : Type 0 where
  pub same : IsPermutation forest (out ++ left)
  pub order : IsForestOrder (IsEdge g) out
  pub split : IsSplit (HasEdge forest) (HasEdge out) (HasEdge left)
  pub distinct : AllPairs IsDifferent left

-- where no edge that is left is a leaf, none is next to a taken one
no_leaf_apart : (g : Graph) (forest out left : List Edge) → IsFirstForest (IsEdge g) forest → IsSplit (HasEdge forest) (HasEdge out) (HasEdge left) →
    ((i e : ℕ) → HasEdge left i e → IsLeafOf out i e → ⊥) → (v : Vertex) → Touched (HasEdge left) v → Touched (HasEdge out) v → ⊥
no_leaf_apart g forest out left h s none (row i) (e, y) p = none i e y (inl (touches out (row i) p, λ q. free_end (acyclic_first g forest h) s i e y p (touched out (col e) q)))
no_leaf_apart g forest out left h s none (col e) (i, y) p = none i e y (inr (touches out (col e) p, λ q. free_end (acyclic_first g forest h) s i e y (touched out (row i) q) p))

-- an order grows by the first edge of a component, or by an edge with exactly one end touched
order_push : (G : ℕ → ℕ → Type 0) (out : List Edge) (x : Edge) → IsForestOrder G out → IsFirstAt G out x.row ⊎ IsLeafOf out x.row x.col → IsForestOrder G (out ++ x ∷ [])
order_push G out x h new k d lt = ⊎_elim
    (λ (p : k < length out).
    let cut : take k (out ++ x ∷ []) ≡ take k out = take-append-le k out (x ∷ []) (omega arith) in
    let read : get_or (out ++ x ∷ []) k d ≡ get_or out k d = get_or_append_left out (x ∷ []) d k p in
    subst (λ ys. IsFirstAt G ys (get_or (out ++ x ∷ []) k d).row ⊎ IsLeafOf ys (get_or (out ++ x ∷ []) k d).row (get_or (out ++ x ∷ []) k d).col) (sym cut)
    (subst (λ (y : Edge). IsFirstAt G (take k out) y.row ⊎ IsLeafOf (take k out) y.row y.col) (sym read) (h k d p)))
    (λ (p : length out ≤ k).
    let is : length out ≡ k = let n = length_push out x in omega arith in
    let cut : take k (out ++ x ∷ []) ≡ out = take_at out (x ∷ []) k is in
    let read : get_or (out ++ x ∷ []) k d ≡ x = get_or_push out x d k is in
    subst (λ ys. IsFirstAt G ys (get_or (out ++ x ∷ []) k d).row ⊎ IsLeafOf ys (get_or (out ++ x ∷ []) k d).row (get_or (out ++ x ∷ []) k d).col) (sym cut)
    (subst (λ (y : Edge). IsFirstAt G out y.row ⊎ IsLeafOf out y.row y.col) (sym read) new))
    (cases_lt k (length out))

-- taken edges may be listed in another way
split_same : (F out out' rem : ℕ → ℕ → Type 0) → ((i e : ℕ) → out i e → out' i e) → ((i e : ℕ) → out' i e → out i e) → ((u v : Vertex) → Walk out u v → Walk out' u v) → IsSplit F out rem → IsSplit F out' rem
split_same F out out' rem there back walk s = record {
  taken = λ i e x. s.taken i e (back i e x);
  left = s.left;
  whole = λ i e x. ⊎_elim (λ p. inl (there i e p)) (λ p. inr p) (s.whole i e x);
  apart = λ i e x y. s.apart i e x (back i e y);
  joined = λ u v p q p' q'. walk u v (s.joined u v (less u p) q (less v p') q');
}
  where
    less : (v : Vertex) → Touched out' v → Touched out v
    less (row i) p = (p.0, back i p.0 p.1)
    less (col e) p = (p.0, back p.0 e p.1)

-- the order with one more edge, the next one
pub ordered_more : (g : Graph) (forest out left : List Edge) (k : ℕ) (x : Edge) → IsFirstForest (IsEdge g) forest → IsOrdered g forest out left → k < length left → x ≡ get_or left k x → IsNextEdge out left k →
    IsOrdered g forest (out ++ x ∷ []) (remove left k)
ordered_more g forest out left k x h o lt read next = record {
  same = IsPermutation-more forest out left k x lt read o.same;
  order = order_push (IsEdge g) out x o.order (⊎_elim (λ l. inr (leaf l)) (λ none. inl (first none)) next);
  split = split_same (HasEdge forest) (And (HasEdge out) x.row x.col) (HasEdge (out ++ x ∷ [])) (HasEdge (remove left k)) there (HasEdge-push out x) (λ u v w. walk-more there w)
      (split_more (HasEdge forest) (HasEdge out) (HasEdge left) (HasEdge (remove left k)) x.row x.col o.split here (HasEdge-remove left k) gone other
      (⊎_elim (λ l. ⊎_elim (λ (p : Touches out (row x.row) × (Touches out (col x.col) → ⊥)). inl (touched out (row x.row) p.0)) (λ (p : Touches out (col x.col) × (Touches out (row x.row) → ⊥)). inr (inl (touched out (col x.col) p.0))) (leaf l))
      (λ none. inr (inr (no_leaf_apart g forest out left h o.split none))) next));
  distinct = all_pairs_remove IsDifferent left k lt o.distinct;
}
  where
    is : get_or left k x ≡ x
    is = sym read

    here : HasEdge left x.row x.col
    here = subst (λ (y : Edge). HasEdge left y.row y.col) is (HasEdge-get_or left k x lt)

    there : (i e : ℕ) → And (HasEdge out) x.row x.col i e → HasEdge (out ++ x ∷ []) i e
    there i e y = ⊎_elim (λ (p : HasEdge out i e). HasEdge-push_old out x i e p) (λ (p : (i ≡ x.row) × (e ≡ x.col)). rw (p.0, p.1) (HasEdge-push_new out x)) y

    gone : HasEdge (remove left k) x.row x.col → ⊥
    gone y = removed_gone left k x lt o.distinct (subst (λ (z : Edge). HasEdge (remove left k) z.row z.col) read y)

    other : (i e : ℕ) → HasEdge left i e → HasEdge (remove left k) i e ⊎ ((i ≡ x.row) × (e ≡ x.col))
    other i e y = subst (λ (z : Edge). HasEdge (remove left k) i e ⊎ ((i ≡ z.row) × (e ≡ z.col))) is (HasEdge-remove_other left k x lt i e y)

    leaf : ((d : Edge) → IsLeafOf out (get_or left k d).row (get_or left k d).col) → IsLeafOf out x.row x.col
    leaf l = subst (λ (y : Edge). IsLeafOf out y.row y.col) is (l x)

    first : ((i e : ℕ) → HasEdge left i e → IsLeafOf out i e → ⊥) → IsFirstAt (IsEdge g) out x.row
    first none v t w =
        let apart : (v : Vertex) → Touched (HasEdge left) v → Touched (HasEdge out) v → ⊥ = no_leaf_apart g forest out left h o.split none in
        forest_walk g forest h w (λ p. apart (row x.row) (x.col, here) (reached o.split apart v (row x.row) p (touched out v t)))

-- where no place has a leaf, no edge that is left is one
pub no_next : (out left : List Edge) → ((k : ℕ) (d : Edge) → k < length left → IsLeafOf out (get_or left k d).row (get_or left k d).col → ⊥) → (i e : ℕ) → HasEdge left i e → IsLeafOf out i e → ⊥
no_next out left none i e y l =
    let d : Edge = record { row = 0; col = 0 } in
    let u = HasEdge-place left i e y d in
    none u.0 d u.1 (subst (λ j. IsLeafOf out j (get_or left u.0 d).col) (sym u.2) (subst (λ j. IsLeafOf out i j) (sym u.3) l))

-- a leaf may be next
pub next_at : (out left : List Edge) (k : ℕ) (d : Edge) → k < length left → IsLeafOf out (get_or left k d).row (get_or left k d).col → IsNextEdge out left k
next_at out left k d lt l = inl (λ d'. subst (λ (y : Edge). IsLeafOf out y.row y.col) (get_or_default left k d d' lt) l)

-- no leaf stands below place k
abbrev pub NoLeafBelow : List Edge → List Edge → ℕ → Type 0
NoLeafBelow out left n = (k : ℕ) (d : Edge) → k < n → IsLeafOf out (get_or left k d).row (get_or left k d).col → ⊥

-- the search passes an edge that is no leaf
pub no_leaf_more : (out left : List Edge) (n : ℕ) (d : Edge) → n < length left → NoLeafBelow out left n → (IsLeafOf out (get_or left n d).row (get_or left n d).col → ⊥) → NoLeafBelow out left (n + 1)
no_leaf_more out left n d lt below none k d' small l = ⊎_elim
    (λ (p : k < n). below k d' p l)
    (λ (p : n ≤ k). let is : k ≡ n = omega arith in
    none (subst (λ (y : Edge). IsLeafOf out y.row y.col) (ap (λ j. get_or left j d') is ∙ get_or_default left n d' d lt) l))
    (cases_lt k n)

-- each edge of an order has an end that no earlier edge touches
pub free_end_of-order : (G : ℕ → ℕ → Type 0) (xs : List Edge) → IsForestOrder G xs → (k : ℕ) (d : Edge) → k < length xs →
    (Touches (take k xs) (row (get_or xs k d).row) → ⊥) ⊎ (Touches (take k xs) (col (get_or xs k d).col) → ⊥)
free_end_of-order G xs h k d lt = ⊎_elim
    (λ (first : IsFirstAt G (take k xs) (get_or xs k d).row). inl (λ t. first (row (get_or xs k d).row) t stay))
    (λ (leaf : IsLeafOf (take k xs) (get_or xs k d).row (get_or xs k d).col). ⊎_elim (λ p. inr p.1) (λ p. inl p.1) leaf)
    (h k d lt)

-- an order for a graph is one for each graph with the same edges
pub order_same : (G H : ℕ → ℕ → Type 0) (xs : List Edge) → ((i e : ℕ) → H i e → G i e) → IsForestOrder G xs → IsForestOrder H xs
order_same G H xs back order k d lt = ⊎_elim (λ (first : IsFirstAt G (take k xs) (get_or xs k d).row). inl (λ v t w. first v t (walk-more back w))) (λ leaf. inr leaf) (order k d lt)
