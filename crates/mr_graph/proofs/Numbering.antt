-- Labels numbered in the order of their first places.
use Rattle.std.proofs.Common.{ℕ, ◌+◌, ◌<◌, ◌≤◌, ◌≡◌, ◌≢◌, ◌⊎◌, ◌↔◌, List, [], ◌∷◌, ◌++◌, length, get_or, take, drop, refl, sym, ap, subst, ◌∙◌, ⊎_elim, inl, inr, arith, length-drop, take-append-drop}
use Rattle.std.proofs.lemmas.Bool.{cases_lt}
use Rattle.std.proofs.lemmas.List.{get_or_append_left, get_or_push, length_push, get_or-take, get_or-drop, length-take-le}
use Rattle.mr_graph.specs.declared.edge.Edge.{Edge}
use Rattle.mr_graph.specs.Graph.{Graph, IsEdge, Vertex, row, col, IsVertex}
use Rattle.mr_graph.specs.Private.Labels.{label, place, IsLabelled}
use Rattle.mr_graph.specs.Private.Grown.{IsGrown}
use Rattle.mr_graph.specs.Components.{number, IsNumberedInOrder, IsComponents}
use Rattle.mr_graph.specs.Private.Components.{IsNumbered}
use Rattle.mr_graph.proofs.Walks.{walk-more, walk-label}
use Rattle.mr_graph.proofs.Parts.{place-lt}

-- no labels have no numbers
pub numbered_none : (labels : List ℕ) → IsNumbered labels [] 0 0
numbered_none labels = record {
  size = refl;
  few = omega arith;
  same = λ j k p q. absurd (omega arith);
  order = record {
    below = λ k lt. absurd (omega arith);
    used = λ n lt. absurd (omega arith);
    smaller_first = λ k n lt below. absurd (omega arith);
  };
}

-- a new number leaves the old ones in place
old_number : (ns : List ℕ) (x k : ℕ) → k < length ns → get_or (ns ++ x ∷ []) k 0 ≡ get_or ns k 0
old_number ns x k lt = get_or_append_left ns (x ∷ []) 0 k lt

-- and stands behind them
new_number : (ns : List ℕ) (x k : ℕ) → k ≡ length ns → get_or (ns ++ x ∷ []) k 0 ≡ x
new_number ns x k is = get_or_push ns x 0 k (sym is)

-- a push keeps what the order says of the old places
in_order_old : (ns : List ℕ) (x count more : ℕ) → IsNumberedInOrder ns count → count ≤ more → x < more → ((n : ℕ) → n < more → (n < count) ⊎ (n ≡ x)) →
    ((n : ℕ) → n < x → (j : ℕ) × (j < length ns) × (get_or ns j 0 ≡ n)) → IsNumberedInOrder (ns ++ x ∷ []) more
in_order_old ns x count more h le small which earlier = record {
  below = λ k lt. at k lt (λ v. v < more) (λ p. let s = h.below k p in omega arith) small;
  used = λ n lt. ⊎_elim
      (λ (p : n < count). let u = h.used n p in (u.0, (let z = long in let s = u.1 in omega arith), old_number ns x u.0 u.1 ∙ u.2))
      (λ (p : n ≡ x). (length ns, (let z = long in omega arith), new_number ns x (length ns) refl ∙ sym p)) (which n lt);
  smaller_first = λ k n lt under. ⊎_elim
      (λ (p : k < length ns). let u = h.smaller_first k n p (subst (λ v. n < v) (old_number ns x k p) under) in (u.0, u.1, old_number ns x u.0 (let s = u.1 in omega arith) ∙ u.2))
      (λ (p : length ns ≤ k). let is : k ≡ length ns = let z = long in omega arith in
      let u = earlier n (subst (λ v. n < v) (new_number ns x k is) under) in (u.0, (let s = u.1 in omega arith), old_number ns x u.0 u.1 ∙ u.2)) (cases_lt k (length ns));
}
  where
    long : length (ns ++ x ∷ []) ≡ length ns + 1
    long = length_push ns x

    at : (k : ℕ) → k < length (ns ++ x ∷ []) → (P : ℕ → Type 0) → (k < length ns → P (get_or ns k 0)) → P x → P (get_or (ns ++ x ∷ []) k 0)
    at k lt P p q = ⊎_elim (λ (s : k < length ns). subst P (sym (old_number ns x k s)) (p s)) (λ (s : length ns ≤ k). subst P (sym (new_number ns x k (let z = long in omega arith))) q) (cases_lt k (length ns))

-- after a push numbers are equal just where their labels are
same_more : (labels ns : List ℕ) (x n : ℕ) → length ns ≡ n → ((j k : ℕ) → j < n → k < n → (get_or ns j 0 ≡ get_or ns k 0) ↔ (get_or labels j 0 ≡ get_or labels k 0)) →
    ((j : ℕ) → j < n → (get_or ns j 0 ≡ x) ↔ (get_or labels j 0 ≡ get_or labels n 0)) →
    (j k : ℕ) → j < n + 1 → k < n + 1 → (get_or (ns ++ x ∷ []) j 0 ≡ get_or (ns ++ x ∷ []) k 0) ↔ (get_or labels j 0 ≡ get_or labels k 0)
same_more labels ns x n size old new j k p q = ⊎_elim
    (λ (a : j < n). ⊎_elim
    (λ (b : k < n). (
      λ e. (old j k a b).0 (sym (at j a) ∙ e ∙ at k b),
      λ e. at j a ∙ (old j k a b).1 e ∙ sym (at k b),
    ))
    (λ (b : n ≤ k). let is : k ≡ n = omega arith in (
      λ e. (new j a).0 (sym (at j a) ∙ e ∙ here k is) ∙ ap (λ i. get_or labels i 0) (sym is),
      λ e. at j a ∙ (new j a).1 (e ∙ ap (λ i. get_or labels i 0) is) ∙ sym (here k is),
    )) (cases_lt k n))
    (λ (a : n ≤ j). let is : j ≡ n = omega arith in ⊎_elim
    (λ (b : k < n). (
      λ e. ap (λ i. get_or labels i 0) is ∙ sym ((new k b).0 (sym (at k b) ∙ sym e ∙ here j is)),
      λ e. here j is ∙ sym (at k b ∙ (new k b).1 (sym e ∙ ap (λ i. get_or labels i 0) is)),
    ))
    (λ (b : n ≤ k). let same : j ≡ k = omega arith in (
      λ e. ap (λ i. get_or labels i 0) same,
      λ e. ap (λ i. get_or (ns ++ x ∷ []) i 0) same,
    )) (cases_lt k n))
    (cases_lt j n)
  where
    at : (i : ℕ) → i < n → get_or (ns ++ x ∷ []) i 0 ≡ get_or ns i 0
    at i lt = old_number ns x i (omega arith)

    here : (i : ℕ) → i ≡ n → get_or (ns ++ x ∷ []) i 0 ≡ x
    here i is = new_number ns x i (is ∙ sym size)

-- a label that stood at an earlier place takes its number
pub numbered_old : (labels ns : List ℕ) (count n i : ℕ) → IsNumbered labels ns count n → i < n → get_or labels i 0 ≡ get_or labels n 0 → (x : ℕ) → x ≡ get_or ns i 0 → IsNumbered labels (ns ++ x ∷ []) count (n + 1)
numbered_old labels ns count n i h lt found x is = record {
  size = let z = length_push ns x in let s = h.size in omega arith;
  few = let s = h.few in omega arith;
  same = same_more labels ns x n h.size h.same (λ j small. (
    λ e. (h.same j i small lt).0 (e ∙ is) ∙ found,
    λ e. (h.same j i small lt).1 (e ∙ sym found) ∙ sym is,
  ));
  order = in_order_old ns x count count h.order (omega arith) (let b = h.order.below i (let s = h.size in omega arith) in omega arith) (λ m small. inl small) (λ m under.
      let u = h.order.smaller_first i m (let s = h.size in omega arith) (omega arith) in (u.0, (let a = u.1 in let s = h.size in omega arith), u.2));
}

-- a label that stood at no earlier place takes the next number
pub numbered_new : (labels ns : List ℕ) (count n : ℕ) → IsNumbered labels ns count n → ((i : ℕ) → i < n → get_or labels i 0 ≢ get_or labels n 0) → IsNumbered labels (ns ++ count ∷ []) (count + 1) (n + 1)
numbered_new labels ns count n h none = record {
  size = let z = length_push ns count in let s = h.size in omega arith;
  few = let s = h.few in omega arith;
  same = same_more labels ns count n h.size h.same (λ j small. (
    λ e. absurd (let b = h.order.below j (let s = h.size in omega arith) in omega arith),
    λ e. absurd (none j small e),
  ));
  order = in_order_old ns count count (count + 1) h.order (omega arith) (omega arith) (λ m small. ⊎_elim (λ (p : m < count). inl p) (λ (p : count ≤ m). inr (omega arith)) (cases_lt m count)) (λ m under. h.order.used m under);
}

-- the labels of a graph's first forest are those of its components
graph_labelled : (g : Graph) (labels : List ℕ) (forest : List Edge) → IsGrown g labels forest g.rows 0 → IsLabelled g.rows g.cols (IsEdge g) labels
graph_labelled g labels forest h = record {
  size = h.labelled.size;
  inside = λ i e x. (x.row, x.col);
  along = λ i e x. h.spans i e x (inl x.row);
  joined = λ u v p q same. walk-more (λ i e x. ((h.taken i e (h.before i e x)).0 x).0) (h.labelled.joined u v p q same);
}

-- the numbers of the labels of the whole forest are those of the components
pub components_numbered : (g : Graph) (labels : List ℕ) (forest : List Edge) (ns : List ℕ) (count : ℕ) → IsGrown g labels forest g.rows 0 → IsNumbered labels ns count (length labels) →
    IsComponents g (take g.rows ns) (drop g.rows ns) count
components_numbered g labels forest ns count h n = record {
  row_count = length-take-le g.rows ns (let s = size in omega arith);
  col_count = length-drop g.rows ns ∙ (let s = size in omega arith);
  same = λ u v p q. (
    λ e. l.joined u v p q ((n.same (place g.rows u) (place g.rows v) (at u p) (at v q)).0 (sym (read u p) ∙ e ∙ read v q)),
    λ w. read u p ∙ (n.same (place g.rows u) (place g.rows v) (at u p) (at v q)).1 (walk-label (label g.rows labels) l.along w) ∙ sym (read v q),
  );
  order = subst (λ xs. IsNumberedInOrder xs count) (sym (take-append-drop g.rows ns)) n.order;
}
  where
    l : IsLabelled g.rows g.cols (IsEdge g) labels
    l = graph_labelled g labels forest h

    size : length ns ≡ g.rows + g.cols
    size = n.size ∙ l.size

    at : (v : Vertex) → IsVertex g.rows g.cols v → place g.rows v < length labels
    at v p = let lt = place-lt g.rows g.cols v p in let s = l.size in omega arith

    read : (v : Vertex) → IsVertex g.rows g.cols v → number (take g.rows ns) (drop g.rows ns) v ≡ get_or ns (place g.rows v) 0
    read (row i) p = get_or-take g.rows ns i 0 p
    read (col e) p = get_or-drop g.rows ns e 0
