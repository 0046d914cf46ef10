-- The entries of a part, copied one after another.
use Rattle.std.proofs.Common.{ℕ, ◌+◌, ◌*◌, ◌/◌, ◌%◌, ◌≡◌, ◌≢◌, ◌≤◌, List, set, get_or, refl, sym, subst, ◌∙◌, ⊎_elim, arith, get_or-set_same, get_or-set_other}
use Rattle.std.specs.Prelude.{◌<◌, Contains, replicate}
use Rattle.std.proofs.lemmas.Bool.{cases_eq, cases_lt}
use Rattle.std.proofs.Math.ListN.{length-set}
use Rattle.mr_set.specs.declared.TheConstants.{ELEMENTS}
use Rattle.mr_field.specs.Gf.{order}
use Rattle.mr_field.proofs.Laws.{order_pos}
use Rattle.mr_linear.specs.Stored.{cell}
use Rattle.mr_linear.specs.declared.elimination.TheConstants.{CELLS, STRIDE}
use Rattle.mr_linear.proofs.Stored.{zeros_at}
use Rattle.mr_linear.proofs.Working.{InField-set}
use Rattle.mr_frame.specs.Frame.{Framed}
use Rattle.mr_frame.specs.Private.Filling.{HasValue, IsCopiedTo}

module _ (f : Framed) (a rows columns : List ℕ) where
  -- zeros
  pub copied_none : IsCopiedTo f a rows columns (replicate 1024 0) 0
  copied_none = record {
    size = refl;
    elements = λ k. subst (λ (v : ℕ). v < order f.field) (sym (zeros_at 1024 k)) (order_pos f.field);
    done = λ k lt. absurd (omega arith);
  }

  -- one cell more
  pub copied_more : (w : List ℕ) (n v : ℕ) → n < CELLS → IsCopiedTo f a rows columns w n → v < order f.field → (Contains rows (n / STRIDE) → Contains columns (n % STRIDE) → HasValue f a (n / STRIDE) (n % STRIDE) v) →
      IsCopiedTo f a rows columns (set w n v) (n + 1)
  copied_more w n v within to small here = record {
    size = length-set w n v ∙ to.size;
    elements = InField-set f.field w n v (let s = to.size in omega arith) to.elements small;
    done = λ k lt row col. ⊎_elim
        (λ (same : k ≡ n). subst (λ (j : ℕ). HasValue f a (j / STRIDE) (j % STRIDE) (get_or (set w n v) j 0)) (sym same)
        (subst (HasValue f a (n / STRIDE) (n % STRIDE)) (sym (get_or-set_same w n v 0 (let s = to.size in omega arith)))
        (here (subst (λ (j : ℕ). Contains rows (j / STRIDE)) same row) (subst (λ (j : ℕ). Contains columns (j % STRIDE)) same col))))
        (λ (other : k ≢ n). subst (HasValue f a (k / STRIDE) (k % STRIDE)) (sym (get_or-set_other w n k v 0 other)) (to.done k (omega arith) row col))
        (cases_eq k n);
  }

  -- cells outside of the rows and columns are passed
  pub copied_past : (w : List ℕ) (n m : ℕ) → IsCopiedTo f a rows columns w n → ((k : ℕ) → n ≤ k → k < m → Contains rows (k / STRIDE) → Contains columns (k % STRIDE) → ⊥) → IsCopiedTo f a rows columns w m
  copied_past w n m to outside = record {
    size = to.size;
    elements = to.elements;
    done = λ k lt row col. ⊎_elim (λ (low : k < n). to.done k low row col) (λ (high : n ≤ k). absurd (outside k high lt row col)) (cases_lt k n);
  }

  -- a row that is none of the rows is passed
  pub row_past : (w : List ℕ) (row : ℕ) → IsCopiedTo f a rows columns w (row * STRIDE) → (Contains rows row → ⊥) → IsCopiedTo f a rows columns w ((row + 1) * STRIDE)
  row_past w row to none = copied_past w (row * STRIDE) ((row + 1) * STRIDE) to (λ k low high in_rows in_columns. none (subst (Contains rows) (let e : k / STRIDE ≡ row = omega arith in e) in_rows))

  -- so are the cells of a row after the last column
  pub columns_past : (w : List ℕ) (row n : ℕ) → IsCopiedTo f a rows columns w (row * STRIDE + n) → n ≤ STRIDE → ((e : ℕ) → Contains columns e → e < n) → IsCopiedTo f a rows columns w ((row + 1) * STRIDE)
  columns_past w row n to limit small = copied_past w (row * STRIDE + n) ((row + 1) * STRIDE) to (λ k low high in_rows in_columns. let lt = small (k % STRIDE) in_columns in omega arith)

  -- one column is passed
  pub column_past : (w : List ℕ) (row e : ℕ) → e < STRIDE → IsCopiedTo f a rows columns w (row * STRIDE + e) → (Contains columns e → ⊥) → IsCopiedTo f a rows columns w (row * STRIDE + (e + 1))
  column_past w row e within to none = copied_past w (row * STRIDE + e) (row * STRIDE + (e + 1)) to (λ k low high in_rows in_columns. none (subst (Contains columns) (let same : k % STRIDE ≡ e = omega arith in same) in_columns))

  -- one entry is copied
  pub column_copied : (w : List ℕ) (row e v : ℕ) → row < ELEMENTS → e < STRIDE → IsCopiedTo f a rows columns w (row * STRIDE + e) → v < order f.field → HasValue f a row e v → IsCopiedTo f a rows columns (set w (row * STRIDE + e) v) (row * STRIDE + (e + 1))
  column_copied w row e v low within to small value =
      let at_row : (row * STRIDE + e) / STRIDE ≡ row = omega arith in
      let at_col : (row * STRIDE + e) % STRIDE ≡ e = omega arith in
      let next : row * STRIDE + e + 1 ≡ row * STRIDE + (e + 1) = omega arith in
      subst (IsCopiedTo f a rows columns (set w (row * STRIDE + e) v)) next
      (copied_more w (row * STRIDE + e) v (omega arith) to small (λ in_rows in_columns. subst (λ (x : ℕ). HasValue f a x ((row * STRIDE + e) % STRIDE) v) (sym at_row) (subst (λ (y : ℕ). HasValue f a row y v) (sym at_col) value)))

  -- the entries of whole rows
  pub copied_at : (w : List ℕ) (r i e : ℕ) → IsCopiedTo f a rows columns w (r * STRIDE) → i < r → e < STRIDE → Contains rows i → Contains columns e → HasValue f a i e (cell w i e)
  copied_at w r i e to row col in_rows in_columns =
      let k : ℕ = i * 32 + e in
      let at_row : k / 32 ≡ i = omega arith in
      let at_col : k % 32 ≡ e = omega arith in
      subst (λ (x : ℕ). HasValue f a x e (get_or w k 0)) at_row (subst (λ (y : ℕ). HasValue f a (k / 32) y (get_or w k 0)) at_col
      (to.done k (omega arith) (subst (Contains rows) (sym at_row) in_rows) (subst (Contains columns) (sym at_col) in_columns)))
