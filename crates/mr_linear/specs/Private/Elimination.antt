-- One step of the elimination by columns: words of private contracts and of the proofs.
use Rattle.std.specs.Prelude.{ℕ, ◌==◌, if◌then◌else◌}
use Rattle.mr_field.specs.Gf.{Gf, add, mul, neg, inv}
use Rattle.mr_linear.specs.Columns.{Entries}

-- how much of column n is added to column e, to clear row k
unfoldable pub factor : (f : Gf) (a : Entries) (n k e : ℕ) → ℕ
factor f a n k e = mul f (neg f 1) (mul f (a k e) (inv f (a k n)))

-- the entries once row k is cleared in the columns before n
unfoldable pub cleared : (f : Gf) (a : Entries) (n k : ℕ) → Entries
cleared f a n k i e = add f (a i e) (mul f (factor f a n k e) (a i n))

-- the entries once v times column u is added to column e
abbrev pub joined : Gf → Entries → ℕ → ℕ → ℕ → Entries
joined f a e u v i j = if j == e then add f (a i e) (mul f v (a i u)) else a i j
