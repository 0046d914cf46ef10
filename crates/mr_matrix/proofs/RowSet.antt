-- A row that is written entry by entry.
use Rattle.std.proofs.Common.{◌≡◌, ◌≢◌, ℕ, ◌+◌, ◌<◌, ◌≤◌, List, [], length, set, get_or, Bool, true, false, cond, ◌&&◌, refl, sym, ap, subst, ◌∙◌, ⊎_elim, arith, eq-eqb, ne_eqb}
use Rattle.std.specs.Prelude.{All, nat_eq, nat_lt}
use Rattle.std.proofs.lemmas.Bool.{cases_eq}
use Rattle.std.proofs.lemmas.Bool.Decides.{nat_tests, Decides-ltb}
use Rattle.std.proofs.lemmas.List.{get_or-set_other, get_or-set_same, length-set}
use Rattle.mr_field.specs.Gf.{order}
use Rattle.mr_linear.specs.Matrix.{Grid, IsMatrixRow, IsGrid, height, entry, with_entry}
use Rattle.mr_linear.proofs.Grids.{SameShape, same_grids, entry-grid_of, height-grid_of, IsGrid-grid_of, entry-lt}
use Rattle.mr_matrix.specs.Block.{grid_with}

-- the entry in row x and column y, once the first j entries of row i are those of the row
abbrev pub part_set : Grid → ℕ → ℕ → List ℕ → ℕ → ℕ → ℕ
part_set old i j row x y = cond (nat_eq x i && nat_lt y j) (get_or row y 0) (entry old x y)

-- the first j entries of row i of a are those of the row, and all others are the old ones
pub record RowSet (old : Grid) (i j : ℕ) (row : List ℕ) (a : Grid) : Type 0 where
  pub grid : IsGrid a
  pub shape : SameShape a old
  pub entries : (x y : ℕ) → x < height old → y < old.cols → entry a x y ≡ part_set old i j row x y

-- none was written
pub set-none : (old : Grid) (i : ℕ) (row : List ℕ) → IsGrid old → RowSet old i 0 row old
set-none old i row grid = record {
  grid = grid;
  shape = record { field = refl; rows = refl; cols = refl };
  entries = λ x y l m. sym (ap (λ b. cond (nat_eq x i && b) (get_or row y 0) (entry old x y)) (let no_less : nat_lt y 0 ≡ false = grind (arith, nat_tests) in no_less) ∙ ap (λ b. cond b (get_or row y 0) (entry old x y)) (and_false (nat_eq x i)));
}
  where
    and_false : (b : Bool) → (b && false) ≡ false
    and_false true = refl
    and_false false = refl

-- one more was
pub set-next : (old : Grid) (i j v : ℕ) (row : List ℕ) (a b : Grid) → i < height old → j < old.cols → v < order old.field → v ≡ get_or row j 0 → RowSet old i j row a → b ≡ with_entry a i j v → RowSet old i (j + 1) row b
set-next old i j v row a b li lj small value before is = subst (RowSet old i (j + 1) row) (sym is) (record {
  grid = IsGrid-grid_of a.field (height a) a.cols written before.grid.rows (λ x y l m. element x y l m);
  shape = record { field = before.shape.field; rows = height-grid_of a.field (height a) a.cols written ∙ before.shape.rows; cols = before.shape.cols };
  entries = λ x y l m. entry-grid_of a.field (height a) a.cols written x y (let r = before.shape.rows in omega arith) (let c = before.shape.cols in omega arith) ∙ at x y l m;
})
  where
    written : ℕ → ℕ → ℕ
    written x y = cond (nat_eq x i && nat_eq y j) v (entry a x y)

    element : (x y : ℕ) → x < height a → y < a.cols → written x y < order a.field
    element x y l m = choose (nat_eq x i && nat_eq y j)
      where
        choose : (t : Bool) → cond t v (entry a x y) < order a.field
        choose true = subst (λ f. v < order f) (sym before.shape.field) small
        choose false = entry-lt a before.grid x y l m

    at : (x y : ℕ) → x < height old → y < old.cols → written x y ≡ part_set old i (j + 1) row x y
    at x y l m = ⊎_elim
        (λ (same : x ≡ i). ⊎_elim
        (λ (here : y ≡ j).
        let less : nat_lt y (j + 1) ≡ true = (Decides-ltb y (j + 1)).1 (omega arith) in
        ap (λ t. cond (t && nat_eq y j) v (entry a x y)) (eq-eqb x i same) ∙ ap (λ t. cond t v (entry a x y)) (eq-eqb y j here) ∙ value ∙ ap (λ k. get_or row k 0) (sym here)
        ∙ sym (ap (λ t. cond (t && nat_lt y (j + 1)) (get_or row y 0) (entry old x y)) (eq-eqb x i same) ∙ ap (λ t. cond t (get_or row y 0) (entry old x y)) less))
        (λ (other : y ≢ j).
        let less : nat_lt y (j + 1) ≡ nat_lt y j = grind (arith, nat_tests) in
        ap (λ t. cond (t && nat_eq y j) v (entry a x y)) (eq-eqb x i same) ∙ ap (λ t. cond t v (entry a x y)) (ne_eqb y j other) ∙ before.entries x y l m
        ∙ ap (λ t. cond (nat_eq x i && t) (get_or row y 0) (entry old x y)) (sym less))
        (cases_eq y j))
        (λ (other : x ≢ i).
        ap (λ t. cond (t && nat_eq y j) v (entry a x y)) (ne_eqb x i other) ∙ before.entries x y l m
        ∙ ap (λ t. cond (t && nat_lt y j) (get_or row y 0) (entry old x y)) (ne_eqb x i other)
        ∙ sym (ap (λ t. cond (t && nat_lt y (j + 1)) (get_or row y 0) (entry old x y)) (ne_eqb x i other)))
        (cases_eq x i)

-- the matrix with a row in the place of another
row-grid : (old : Grid) (i : ℕ) (row : List ℕ) → IsGrid old → length row ≡ old.cols → All (λ v. v < order old.field) row → IsGrid (grid_with old.field old.cols (set old.rows i row))
row-grid old i row grid size elements = record {
  each = λ k d l.
      let long = length-set old.rows i row in
      ⊎_elim
      (λ (same : k ≡ i). subst (IsMatrixRow old.field old.cols) (sym (ap (λ m. get_or (set old.rows i row) m d) same ∙ get_or-set_same old.rows i row d (omega arith))) (record { size = size; elements = elements }))
      (λ (other : k ≢ i). subst (IsMatrixRow old.field old.cols) (sym (get_or-set_other old.rows i k row d other)) (grid.each k d (omega arith)))
      (cases_eq k i);
  rows = let long = length-set old.rows i row in let flat = grid.rows in omega arith;
}

-- all were written
pub set-whole : (old : Grid) (i j : ℕ) (row : List ℕ) (a : Grid) → IsGrid old → length row ≡ old.cols → All (λ v. v < order old.field) row → i < height old → old.cols ≤ j → RowSet old i j row a → a ≡ grid_with old.field old.cols (set old.rows i row)
set-whole old i j row a grid size elements li end is = same_grids a (grid_with old.field old.cols (set old.rows i row)) is.grid (row-grid old i row grid size elements)
    (record { field = is.shape.field; rows = is.shape.rows ∙ sym (length-set old.rows i row); cols = is.shape.cols })
    (λ x y l m. is.entries x y (let r = is.shape.rows in omega arith) (let c = is.shape.cols in omega arith) ∙ at x y (let c = is.shape.cols in omega arith))
  where
    at : (x y : ℕ) → y < old.cols → part_set old i j row x y ≡ get_or (get_or (set old.rows i row) x []) y 0
    at x y m =
        let less : nat_lt y j ≡ true = (Decides-ltb y j).1 (omega arith) in
        ⊎_elim
        (λ (same : x ≡ i).
        ap (λ t. cond (t && nat_lt y j) (get_or row y 0) (entry old x y)) (eq-eqb x i same) ∙ ap (λ t. cond t (get_or row y 0) (entry old x y)) less
        ∙ sym (ap (λ (w : List ℕ). get_or w y 0) (ap (λ k. get_or (set old.rows i row) k []) same ∙ get_or-set_same old.rows i row [] li)))
        (λ (other : x ≢ i).
        ap (λ t. cond (t && nat_lt y j) (get_or row y 0) (entry old x y)) (ne_eqb x i other)
        ∙ sym (ap (λ (w : List ℕ). get_or w y 0) (get_or-set_other old.rows i x row [] other)))
        (cases_eq x i)
