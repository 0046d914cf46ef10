-- The entry at one more edge is brought to 1.
use Rattle.std.proofs.Common.{ℕ, ◌<◌, ◌≡◌, ◌≢◌, List, [], ◌∷◌, ◌++◌, length, get_or, Bool, true, false, eqb, cond, refl, sym, ap, subst, ◌∙◌, ⊎_elim, arith, eq-eqb, ne_eqb}
use Rattle.std.specs.Prelude.{Contains}
use Rattle.std.proofs.lemmas.Bool.{cases_eq}
use Rattle.std.proofs.lemmas.List.Elements.{Contains-get_or}
use Rattle.mr_field.specs.Gf.{Gf, mul, inv, order}
use Rattle.mr_field.proofs.Laws.{mul_comm, mul-zero, mul-one, mul-inv, norm-element, norm-ne, inv-lt}
use Rattle.mr_set.specs.Elements.{is_element}
use Rattle.mr_set.specs.Subsets.{IsSetOf}
use Rattle.mr_set.specs.Matroid.{Presentation, IsFirstBasis}
use Rattle.mr_graph.specs.declared.edge.Edge.{Edge}
use Rattle.mr_graph.specs.Graph.{row, col}
use Rattle.mr_graph.specs.Forest.{HasEdge}
use Rattle.mr_graph.specs.Order.{Touches}
use Rattle.mr_graph.proofs.Edges.{HasEdge-push}
use Rattle.mr_graph.proofs.Ordering.{touches}
use Rattle.mr_linear.specs.declared.operation.RowOp.{RowOp}
use Rattle.mr_linear.specs.declared.operation.RowOp.TheVariants.{ScaleRow, ScaleCol}
use Rattle.mr_linear.specs.Columns.{Entries}
use Rattle.mr_linear.specs.Matrix.{Grid, height, entry}
use Rattle.mr_linear.specs.Operations.{IsAllowedOperation, entries_after, matrix_after}
use Rattle.mr_linear.specs.Representation.{Represents}
use Rattle.mr_linear.proofs.Grids.{Same, height-grid_of, entry-grid_of, entry-lt}
use Rattle.mr_linear.proofs.Places.{place-lt}
use Rattle.mr_linear.proofs.LawsOfMatrices.{equivalent-represents}
use Rattle.mr_linear.proofs.Exchanges.{entry-exchange}
use Rattle.mr_frame.specs.Frame.{IsExchange}
use Rattle.mr_class.specs.Private.Scaling.{IsScaledOn, IsNextEdge}
use Rattle.mr_class.proofs.Classes.{basis-columns, edge-inside}

-- an operation leaves a representation
after-represents : (m : Presentation) (w : Grid) (op : RowOp) → Represents w m → IsAllowedOperation w op → Represents (matrix_after w op) m
after-represents m w op rep allowed = equivalent-represents m w (matrix_after w op) rep (op ∷ [], (allowed, refl))

-- the entries after an operation
after-entries : (w : Grid) (op : RowOp) → Same (height w) w.cols (entry (matrix_after w op)) (entries_after w.field op (entry w))
after-entries w op = entry-grid_of w.field (height w) w.cols (entries_after w.field op (entry w))

-- a representation with the identity at the basis, and an edge whose entry is to become 1
module _ (m : Presentation) (b : List ℕ) (first : IsFirstBasis m b) (taken : List Edge) (x : Edge) (w : Grid) (is : IsScaledOn m b taken w) (next : IsNextEdge m b taken x)
    (v : ℕ) (value : v ≡ entry w x.row x.col) where
  -- the entry is an element
  value-lt : v < order w.field
  value-lt = subst (λ (z : ℕ). z < order w.field) (sym value) (entry-lt w is.represents.fits.grid x.row x.col (edge-inside m b first w is.represents.fits x.row x.col next.edge).0 (edge-inside m b first w is.represents.fits x.row x.col next.edge).1)

  -- and not 0
  pub value-ne : v ≢ 0
  value-ne none = (entry-exchange m w b x.row x.col is.represents first.basis is.identity next.edge.row next.edge.element next.edge.outside).1 next.edge.basis (sym value ∙ none)

-- the same, with the entry's inverse
module _ (m : Presentation) (b : List ℕ) (first : IsFirstBasis m b) (taken : List Edge) (x : Edge) (w : Grid) (is : IsScaledOn m b taken w) (next : IsNextEdge m b taken x)
    (f : Gf) (v by : ℕ) (field : f ≡ w.field) (value : v ≡ entry w x.row x.col) (inverse : by ≡ inv f v) where
  -- edges lie in the matrix
  inside : (i e : ℕ) → IsExchange m b i e → (i < height w) × (e < w.cols) × (is_element b e ≡ false)
  inside = edge-inside m b first w is.represents.fits

  -- the inverse, over the matrix's field
  by-is : by ≡ inv w.field v
  by-is = inverse ∙ ap (λ (k : Gf). inv k v) field

  -- times its inverse it is 1
  one : mul w.field by v ≡ 1
  one = ap (λ (z : ℕ). mul w.field z v) by-is ∙ mul_comm w.field (inv w.field v) v ∙ mul-inv w.field v (norm-ne w.field v (value-lt m b first taken x w is next v value) (value-ne m b first taken x w is next v value))

  -- it is an element
  by-lt : by < order w.field
  by-lt = subst (λ (z : ℕ). z < order w.field) (sym by-is) (inv-lt w.field v)

  -- and not 0
  by-ne : by ≢ 0
  by-ne none = (let zero' : mul w.field by v ≡ 0 = ap (λ (z : ℕ). mul w.field z v) none ∙ mul_comm w.field 0 v ∙ mul-zero w.field v in let full = one in omega arith)

  -- the basis lies in the matrix, and its columns are those of no edge
  columns : IsSetOf w.cols (height w) b
  columns = basis-columns m b first w is.represents.fits

  -- a place of the basis is no edge's column
  basis-ne : (k i e : ℕ) → k < length b → IsExchange m b i e → get_or b k 0 ≢ e
  basis-ne k i e lt edge same = edge.outside (subst (Contains b) same (Contains-get_or b k 0 lt))

  -- the column's scaling
  pub col-allowed : IsAllowedOperation w (ScaleCol x.col by)
  col-allowed = ((inside x.row x.col next.edge).1, by-lt, by-ne)

  -- the entries in other columns stay
  col-other : (i j : ℕ) → i < height w → j < w.cols → j ≢ x.col → entry (matrix_after w (ScaleCol x.col by)) i j ≡ entry w i j
  col-other i j l k other = after-entries w (ScaleCol x.col by) i j l k ∙ ap (λ t. cond t (mul w.field by (entry w i j)) (entry w i j)) (ne_eqb j x.col other)

  -- the edge's entry is 1
  col-one : entry (matrix_after w (ScaleCol x.col by)) x.row x.col ≡ 1
  col-one =
      after-entries w (ScaleCol x.col by) x.row x.col (inside x.row x.col next.edge).0 (inside x.row x.col next.edge).1 ∙
      ap (λ t. cond t (mul w.field by (entry w x.row x.col)) (entry w x.row x.col)) (eq-eqb x.col x.col refl) ∙ ap (mul w.field by) (sym value) ∙ one

  -- where no taken edge ends at the column the identity and the old ones stay
  pub col-scaled : (Touches taken (col x.col) → ⊥) → IsScaledOn m b (taken ++ x ∷ []) (matrix_after w (ScaleCol x.col by))
  col-scaled free = record {
    represents = after-represents m w (ScaleCol x.col by) is.represents col-allowed;
    identity = λ i k l n.
        let size = columns.size in
        let lies : i < height w = subst (λ j. i < j) (height-grid_of w.field (height w) w.cols (entries_after w.field (ScaleCol x.col by) (entry w))) l in
        col-other i (get_or b k 0) lies (place-lt w.cols (height w) b columns k (omega arith)) (basis-ne k x.row x.col n next.edge) ∙ is.identity i k lies n;
    ones = λ i e h. ⊎_elim
        (λ (old : HasEdge taken i e).
        let edge = next.exchanges i e old in
        col-other i e (inside i e edge).0 (inside i e edge).1 (λ same. free (touches taken (col x.col) (i, subst (HasEdge taken i) same old))) ∙ is.ones i e old)
        (λ (new : (i ≡ x.row) × (e ≡ x.col)). rw (new.0, new.1) col-one)
        (HasEdge-push taken x i e h);
  }

  -- the row's scaling
  pub row-allowed : IsAllowedOperation w (ScaleRow x.row by)
  row-allowed = ((inside x.row x.col next.edge).0, by-lt, by-ne)

  -- then that of the column of the row's element of the basis
  pub back-allowed : IsAllowedOperation (matrix_after w (ScaleRow x.row by)) (ScaleCol (get_or b x.row 0) v)
  back-allowed = (place-lt w.cols (height w) b columns x.row (inside x.row x.col next.edge).0, value-lt m b first taken x w is next v value, value-ne m b first taken x w is next v value)

  -- the matrix after both
  abbrev pub end : Grid
  end = matrix_after (matrix_after w (ScaleRow x.row by)) (ScaleCol (get_or b x.row 0) v)

  -- the first leaves the number of rows
  mid-height : height (matrix_after w (ScaleRow x.row by)) ≡ height w
  mid-height = height-grid_of w.field (height w) w.cols (entries_after w.field (ScaleRow x.row by) (entry w))

  -- the entries after the first
  abbrev rowed : Entries
  rowed i j = cond (eqb i x.row) (mul w.field by (entry w i j)) (entry w i j)

  -- the entries after both
  both-entries : (i j : ℕ) → i < height w → j < w.cols → entry end i j ≡ cond (eqb j (get_or b x.row 0)) (mul w.field v (rowed i j)) (rowed i j)
  both-entries i j l k =
      after-entries (matrix_after w (ScaleRow x.row by)) (ScaleCol (get_or b x.row 0) v) i j (subst (λ n. i < n) (sym mid-height) l) k ∙
      ap (λ (z : ℕ). cond (eqb j (get_or b x.row 0)) (mul w.field v z) z) (after-entries w (ScaleRow x.row by) i j l k)

  -- the entries in other rows and columns stay
  both-other : (i j : ℕ) → i < height w → j < w.cols → i ≢ x.row → j ≢ get_or b x.row 0 → entry end i j ≡ entry w i j
  both-other i j l k apart aside = both-entries i j l k ∙ rw (ne_eqb j (get_or b x.row 0) aside, ne_eqb i x.row apart) refl

  -- so do zeros
  both-zero : (i j : ℕ) → i < height w → j < w.cols → entry w i j ≡ 0 → entry end i j ≡ 0
  both-zero i j l k none = both-entries i j l k ∙ rw none (by_tests (eqb j (get_or b x.row 0)) (eqb i x.row))
    where
      by_tests : (p q : Bool) → cond p (mul w.field v (cond q (mul w.field by 0) 0)) (cond q (mul w.field by 0) 0) ≡ 0
      by_tests true true = rw (mul-zero w.field by) (mul-zero w.field v)
      by_tests true false = mul-zero w.field v
      by_tests false true = mul-zero w.field by
      by_tests false false = refl

  -- the edge's entry is 1
  both-one : entry end x.row x.col ≡ 1
  both-one =
      both-entries x.row x.col (inside x.row x.col next.edge).0 (inside x.row x.col next.edge).1 ∙
      rw (ne_eqb x.col (get_or b x.row 0) (λ same. basis-ne x.row x.row x.col (let lt = (inside x.row x.col next.edge).0 in let size = columns.size in omega arith) next.edge (sym same)), eq-eqb x.row x.row refl, ← value) one

  -- and the identity's entry in the row is 1 again
  both-back : entry w x.row (get_or b x.row 0) ≡ 1 → entry end x.row (get_or b x.row 0) ≡ 1
  both-back was =
      both-entries x.row (get_or b x.row 0) (inside x.row x.col next.edge).0 (place-lt w.cols (height w) b columns x.row (inside x.row x.col next.edge).0) ∙
      rw (eq-eqb (get_or b x.row 0) (get_or b x.row 0) refl, eq-eqb x.row x.row refl, was, mul-one w.field by, norm-element w.field by by-lt) (mul_comm w.field v by ∙ one)

  -- where no taken edge ends at the row the identity comes back and the old ones stay
  pub row-scaled : (Touches taken (row x.row) → ⊥) → IsScaledOn m b (taken ++ x ∷ []) end
  row-scaled free = record {
    represents = after-represents m (matrix_after w (ScaleRow x.row by)) (ScaleCol (get_or b x.row 0) v) (after-represents m w (ScaleRow x.row by) is.represents row-allowed) back-allowed;
    identity = λ i k l n.
        let lies : i < height w = subst (λ j. i < j) (height-grid_of w.field (height (matrix_after w (ScaleRow x.row by))) w.cols (entries_after w.field (ScaleCol (get_or b x.row 0) v) (entry (matrix_after w (ScaleRow x.row by)))) ∙ mid-height) l in
        identity i k lies n;
    ones = λ i e h. ⊎_elim
        (λ (old : HasEdge taken i e).
        let edge = next.exchanges i e old in
        both-other i e (inside i e edge).0 (inside i e edge).1 (λ same. free (touches taken (row x.row) (e, subst (λ j. HasEdge taken j e) same old)))
        (λ same. basis-ne x.row i e (let lt = (inside x.row x.col next.edge).0 in let size = columns.size in omega arith) edge (sym same)) ∙ is.ones i e old)
        (λ (new : (i ≡ x.row) × (e ≡ x.col)). rw (new.0, new.1) both-one)
        (HasEdge-push taken x i e h);
  }
    where
      identity : (i k : ℕ) → i < height w → k < length b → entry end i (get_or b k 0) ≡ cond (eqb i k) 1 0
      identity i k l n =
          let size = columns.size in
          let place : k < height w = omega arith in
          let lies : get_or b k 0 < w.cols = place-lt w.cols (height w) b columns k place in
          ⊎_elim
          (λ (same : i ≡ k). ⊎_elim
          (λ (here : k ≡ x.row). rw (same, here, eq-eqb x.row x.row refl) (both-back (rw (eq-eqb x.row x.row refl) at (is.identity x.row x.row (inside x.row x.col next.edge).0 (let lt = (inside x.row x.col next.edge).0 in omega arith)))))
          (λ (other : k ≢ x.row). both-other i (get_or b k 0) l lies (λ p. other (sym same ∙ p)) (λ p. other (different k p n)) ∙ is.identity i k l n)
          (cases_eq k x.row))
          (λ (off : i ≢ k).
          let none : entry w i (get_or b k 0) ≡ 0 = is.identity i k l n ∙ ap (λ t. cond t 1 0) (ne_eqb i k off) in
          both-zero i (get_or b k 0) l lies none ∙ sym (ap (λ t. cond t 1 0) (ne_eqb i k off)))
          (cases_eq i k)
        where
          different : (k : ℕ) → get_or b k 0 ≡ get_or b x.row 0 → k < length b → k ≡ x.row
          different k same n = ⊎_elim (λ (p : k ≡ x.row). p)
              (λ (off : k ≢ x.row).
              let lt : x.row < height w = (inside x.row x.col next.edge).0 in
              let size = columns.size in
              let first_one : entry w k (get_or b k 0) ≡ 1 = is.identity k k (omega arith) n ∙ ap (λ t. cond t 1 0) (eq-eqb k k refl) in
              let none : entry w k (get_or b x.row 0) ≡ 0 = is.identity k x.row (omega arith) (omega arith) ∙ ap (λ t. cond t 1 0) (ne_eqb k x.row off) in
              let equal : entry w k (get_or b k 0) ≡ entry w k (get_or b x.row 0) = ap (entry w k) same in
              absurd (omega arith))
              (cases_eq k x.row)
