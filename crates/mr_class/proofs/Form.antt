-- A matrix that is the identity at a basis is brought to ones on edges outside of it, and stays the identity there.
use Rattle.std.proofs.Common.{ℕ, ◌<◌, ◌≡◌, ◌≢◌, ◌⊎◌, Bool, true, false, refl, sym, ap, ⊎_elim, inl, inr, eq-eqb, ne_eqb, arith}
use Rattle.std.proofs.lemmas.Bool.{cases_eq, cases_Bool, both_ways}
use Rattle.mr_field.specs.Gf.{Gf, mul, norm, inv, order}
use Rattle.mr_field.proofs.Laws.{mul-norm_right, mul-inv, mul-zero, mul-one, mul-lt}
use Rattle.mr_linear.specs.Columns.{Entries}
use Rattle.mr_linear.proofs.Standard.{IsIdentityAt}
use Rattle.mr_linear.proofs.Operations.{Equivalent}
use Rattle.mr_linear.proofs.Chains.{equivalent-trans, rows-scaled, cols-scaled}
use Rattle.mr_linear.proofs.Square.{IsBasisOf}
use Rattle.mr_class.proofs.Scaling.{Scales, inv-not_zero}

-- a matrix with the identity at the basis and ones on the edges, to which operations lead
pub record FormOf (f : Gf) (r n : ℕ) (b : ℕ → ℕ) (F : ℕ → ℕ → Type 0) (a : Entries) : Type 0 where
  pub form : Entries
  pub equivalent : Equivalent f r n a form
  pub standard : IsIdentityAt r b form
  pub ones : (i e : ℕ) → F i e → form i e ≡ 1
  pub elements : (i j : ℕ) → i < r → j < n → form i j < order f

module _ (f : Gf) (r n : ℕ) (b : ℕ → ℕ) (basis : ℕ → Bool) (F : ℕ → ℕ → Type 0) (a : Entries) (B : IsBasisOf r n b basis) (st : IsIdentityAt r b a)
    (S : Scales f a F) (outside : (i e : ℕ) → F i e → basis e ≡ false) where
  -- the places of the basis differ
  injective : (i k : ℕ) → i < r → k < r → b i ≡ b k → i ≡ k
  injective i k l m e = ⊎_elim (λ p. p)
      (λ (o : i ≢ k).
      let one : a i (b i) ≡ 1 = rw (st i i l l, eq-eqb i i refl) in
      let none : a i (b k) ≡ 0 = rw (st i k l m, ne_eqb i k o) in
      let same : a i (b i) ≡ a i (b k) = ap (a i) e in
      absurd (omega arith))
      (cases_eq i k)

  -- the factor of a column: of the basis that which undoes its row's, elsewhere its own
  col_by : (j : ℕ) → (basis j ≡ true) ⊎ (basis j ≡ false) → ℕ
  col_by j (inl x) = inv f (S.rows (B.place j x).0)
  col_by j (inr x) = S.cols j

  -- the same, as the column lies
  col_factor : ℕ → ℕ
  col_factor j = col_by j (cases_Bool (basis j))

  -- no factor is zero
  col_by-ne : (j : ℕ) (d : (basis j ≡ true) ⊎ (basis j ≡ false)) → norm f (col_by j d) ≢ 0
  unfolding col_by
  col_by-ne j (inl x) = inv-not_zero f (S.rows (B.place j x).0) (S.rows_not_zero (B.place j x).0)
  col_by-ne j (inr x) = S.cols_not_zero j

  -- at the basis it undoes the row's
  col_by-basis : (k : ℕ) → k < r → (d : (basis (b k) ≡ true) ⊎ (basis (b k) ≡ false)) → col_by (b k) d ≡ inv f (S.rows k)
  unfolding col_by
  col_by-basis k l (inl x) = let p : (i : ℕ) × (i < r) × (b k ≡ b i) = B.place (b k) x in ap (λ i. inv f (S.rows i)) (sym (injective k p.0 l p.1 p.2))
  col_by-basis k l (inr x) = absurd (both_ways (basis (b k)) x (B.member k l))

  -- elsewhere it is the column's own
  col_by-other : (j : ℕ) → basis j ≡ false → (d : (basis j ≡ true) ⊎ (basis j ≡ false)) → col_by j d ≡ S.cols j
  unfolding col_by
  col_by-other j o (inl x) = absurd (both_ways (basis j) o x)
  col_by-other j o (inr x) = refl

  -- scaled by these factors the matrix has ones on the edges
  pub form_of : FormOf f r n b F a
  unfolding col_factor
  form_of = record {
    form = c;
    equivalent = equivalent-trans f r n a _ c (cols-scaled f r n a col_factor (λ j. col_by-ne j (cases_Bool (basis j)))) (rows-scaled f r n (λ i j. mul f (col_factor j) (a i j)) S.rows S.rows_not_zero);
    standard = λ i k l m. ⊎_elim
        (λ (p : i ≡ k). rw (p, col_by-basis k m (cases_Bool (basis (b k))), st k k m m, eq-eqb k k refl, mul-one f (inv f (S.rows k)), mul-norm_right f (S.rows k) (inv f (S.rows k)))
        (mul-inv f (S.rows k) (S.rows_not_zero k)))
        (λ (o : i ≢ k). rw (st i k l m, ne_eqb i k o, mul-zero f (col_factor (b k))) (mul-zero f (S.rows i)))
        (cases_eq i k);
    ones = λ i e x. rw (col_by-other e (outside i e x) (cases_Bool (basis e))) (S.ones i e x);
    elements = λ i j _ _. mul-lt f (S.rows i) (mul f (col_factor j) (a i j));
  }
    where
      c : Entries
      c i j = mul f (S.rows i) (mul f (col_factor j) (a i j))
