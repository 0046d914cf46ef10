-- The field of a number of elements, and its tables: words of private contracts and of the proofs.
use Rattle.std.specs.Prelude.{ℕ, zero, suc, ◌+◌, ◌/◌, ◌%◌, ◌≡◌, List, [], ◌∷◌}
use Rattle.mr_field.specs.Gf.{Gf, order, characteristic, degree, add, mul, neg, inv}

-- the values of t at i, i + 1, .., n of them
unfoldable pub values : ℕ → ℕ → (ℕ → ℕ) → List ℕ
values i zero t = []
values i (suc n) t = t i ∷ values (i + 1) n t

-- row a of the sums stands at 9 a
unfoldable pub sum_table : Gf → List ℕ
sum_table f = values 0 81 (λ i. add f (i / 9) (i % 9))

-- row a of the products stands at 9 a
unfoldable pub product_table : Gf → List ℕ
product_table f = values 0 81 (λ i. mul f (i / 9) (i % 9))

-- the opposites
unfoldable pub opposite_table : Gf → List ℕ
opposite_table f = values 0 9 (neg f)

-- the inverses
unfoldable pub inverse_table : Gf → List ℕ
inverse_table f = values 0 9 (inv f)

-- the numbers and tables of a field
pub record IsField (f : Gf) (q p k : ℕ) (sums products opposites inverses : List ℕ) : Type 0 where
  pub order_is : order f ≡ q
  pub characteristic_is : characteristic f ≡ p
  pub degree_is : degree f ≡ k
  pub sums_are : sum_table f ≡ sums
  pub products_are : product_table f ≡ products
  pub opposites_are : opposite_table f ≡ opposites
  pub inverses_are : inverse_table f ≡ inverses
