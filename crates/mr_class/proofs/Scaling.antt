-- Row and column factors that make the entries on edges 1.
use Rattle.std.proofs.Common.{ℕ, ◌≡◌, ◌≢◌, eqb, cond, refl, sym, ◌∙◌, ⊎_elim, eq-eqb, ne_eqb, arith}
use Rattle.std.proofs.lemmas.Bool.{cases_eq}
use Rattle.mr_field.specs.Gf.{Gf, mul, norm, inv}
use Rattle.mr_field.proofs.Laws.{ring, mul-norm_right, norm-mul, mul-inv, mul-one, norm-one, cancel, mul-zero}
use Rattle.mr_linear.specs.Columns.{Entries}
use Rattle.mr_graph.specs.Graph.{Vertex, row, col}
use Rattle.mr_graph.proofs.Parts.{And}
use Rattle.mr_class.proofs.Labels.{IsLabelled}

-- row and column factors that are not zero and make the entries on the edges 1
pub record Scales (f : Gf) (a : Entries) (F : ℕ → ℕ → Type 0) : Type 0 where
  pub rows : ℕ → ℕ
  pub cols : ℕ → ℕ
  pub rows_not_zero : (i : ℕ) → norm f (rows i) ≢ 0
  pub cols_not_zero : (e : ℕ) → norm f (cols e) ≢ 0
  pub ones : (i e : ℕ) → F i e → mul f (rows i) (mul f (cols e) (a i e)) ≡ 1

-- an inverse is not zero
pub inv-not_zero : (f : Gf) (v : ℕ) → norm f v ≢ 0 → norm f (inv f v) ≢ 0
inv-not_zero f v ne z =
    let e : mul f v (inv f v) ≡ 0 = sym (mul-norm_right f v (inv f v)) ∙ rw z (mul-zero f v) in
    let g : mul f v (inv f v) ≡ 1 = mul-inv f v ne in
    omega arith

-- nor is a product of two that are not zero
pub mul-not_zero : (f : Gf) (v w : ℕ) → norm f v ≢ 0 → norm f w ≢ 0 → norm f (mul f v w) ≢ 0
mul-not_zero f v w p q z = q (cancel f v w p (sym (norm-mul f v w) ∙ z))

-- the same edges, listed in another way
pub scales-same : (f : Gf) (a : Entries) (F H : ℕ → ℕ → Type 0) → ((i e : ℕ) → H i e → F i e) → Scales f a F → Scales f a H
scales-same f a F H back s = record {
  rows = s.rows;
  cols = s.cols;
  rows_not_zero = s.rows_not_zero;
  cols_not_zero = s.cols_not_zero;
  ones = λ i e x. s.ones i e (back i e x);
}

-- one more edge between two parts: the part of its column is scaled
pub join : (f : Gf) (a : Entries) (F : ℕ → ℕ → Type 0) (label : Vertex → ℕ) (i e : ℕ) → IsLabelled F label → label (row i) ≢ label (col e) → norm f (a i e) ≢ 0 →
    Scales f a F → Scales f a (And F i e)
join f a F label i e h apart ne s = record {
  rows = rows;
  cols = cols;
  rows_not_zero = λ x. ⊎_elim (λ (p : label (row x) ≡ part). rw (row_in x p) (mul-not_zero f v (s.rows x) nv (s.rows_not_zero x))) (λ (p : label (row x) ≢ part). rw (row_out x p) (s.rows_not_zero x)) (cases_eq (label (row x)) part);
  cols_not_zero = λ y. ⊎_elim (λ (p : label (col y) ≡ part). rw (col_in y p) (mul-not_zero f w (s.cols y) (inv-not_zero f v nv) (s.cols_not_zero y))) (λ (p : label (col y) ≢ part). rw (col_out y p) (s.cols_not_zero y)) (cases_eq (label (col y)) part);
  ones = λ x y q. ⊎_elim
      (λ (p : F x y). ⊎_elim
      (λ (k : label (col y) ≡ part). rw (row_in x (h.along x y p ∙ k), col_in y k) (both x y p))
      (λ (k : label (col y) ≢ part). rw (row_out x (λ z. k (sym (h.along x y p) ∙ z)), col_out y k) (s.ones x y p))
      (cases_eq (label (col y)) part))
      (λ (p : (x ≡ i) × (y ≡ e)). rw (p.0, p.1, row_out i apart, col_in e refl) new) q;
}
  where
    part : ℕ
    part = label (col e)

    v : ℕ
    v = mul f (s.rows i) (mul f (s.cols e) (a i e))

    nv : norm f v ≢ 0
    nv = mul-not_zero f (s.rows i) (mul f (s.cols e) (a i e)) (s.rows_not_zero i) (mul-not_zero f (s.cols e) (a i e) (s.cols_not_zero e) ne)

    w : ℕ
    w = inv f v

    rows : ℕ → ℕ
    rows x = cond (eqb (label (row x)) part) (mul f v (s.rows x)) (s.rows x)

    cols : ℕ → ℕ
    cols y = cond (eqb (label (col y)) part) (mul f w (s.cols y)) (s.cols y)

    row_in : (x : ℕ) → label (row x) ≡ part → rows x ≡ mul f v (s.rows x)
    row_in x p = rw (p, eq-eqb part part refl)

    row_out : (x : ℕ) → label (row x) ≢ part → rows x ≡ s.rows x
    row_out x p = rw (ne_eqb (label (row x)) part p)

    col_in : (y : ℕ) → label (col y) ≡ part → cols y ≡ mul f w (s.cols y)
    col_in y p = rw (p, eq-eqb part part refl)

    col_out : (y : ℕ) → label (col y) ≢ part → cols y ≡ s.cols y
    col_out y p = rw (ne_eqb (label (col y)) part p)

    new : mul f (s.rows i) (mul f (mul f w (s.cols e)) (a i e)) ≡ 1
    new =
        let g : mul f (s.rows i) (mul f (mul f w (s.cols e)) (a i e)) ≡ mul f v w = simp ring in
        g ∙ mul-inv f v nv

    both : (x y : ℕ) → F x y → mul f (mul f v (s.rows x)) (mul f (mul f w (s.cols y)) (a x y)) ≡ 1
    both x y p =
        let g : mul f (mul f v (s.rows x)) (mul f (mul f w (s.cols y)) (a x y)) ≡ mul f (mul f v w) (mul f (s.rows x) (mul f (s.cols y) (a x y))) = simp ring in
        g ∙ rw (mul-inv f v nv, s.ones x y p) (mul-one f 1 ∙ norm-one f)
