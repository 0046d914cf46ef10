-- Parts with two or three rows and as many columns.
use Rattle.std.specs.Prelude.{ℕ, ◌<◌, ◌≡◌, ◌≢◌, ◌⊎◌, ◌↔◌, Bool, true, List, Contains}
use Rattle.mr_field.specs.Gf.{Gf, add, mul, neg, order}
use Rattle.mr_set.specs.Elements.{is_element}
use Rattle.mr_linear.specs.Columns.{Entries, Dependent}
use Rattle.mr_linear.specs.Elimination.{with_value}

-- these two are what a set has of the first n
pub record IsPair (n : ℕ) (x : ℕ → Bool) (i k : ℕ) : Type 0 where
  pub first : i < n
  pub second : k < n
  pub apart : i ≢ k
  pub has_first : x i ≡ true
  pub has_second : x k ≡ true
  pub only : (l : ℕ) → l < n → x l ≡ true → (l ≡ i) ⊎ (l ≡ k)

-- the determinant of rows i and k and columns e and j, but for its sign
abbrev pub pair_sum : Gf → Entries → ℕ → ℕ → ℕ → ℕ → ℕ
pair_sum f a i k e j = add f (mul f (a i j) (a k e)) (mul f (a i e) (mul f (neg f 1) (a k j)))

-- the values in one row and column for which columns are dependent in some rows
abbrev pub AreValues : Gf → ℕ → List ℕ → ℕ → Entries → ℕ → ℕ → List ℕ → List ℕ → Type 0
AreValues f r rows n a i e x values = (v : ℕ) → Contains values v ↔ ((v < order f) × Dependent f r (is_element rows) n (with_value a i e v) (is_element x))
