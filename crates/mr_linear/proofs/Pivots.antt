-- The elimination at any column, and with a column that is the sum of two.
use Rattle.std.proofs.Common.{ℕ, ◌<◌, ◌≡◌, ◌≢◌, ◌⊎◌, ◌↔◌, Bool, true, false, eqb, cond, not, ◌&&◌, refl, sym, ap, subst, ◌∙◌, ⊎_elim, inl, inr, arith, eq-eqb, ne_eqb}
use Rattle.std.proofs.lemmas.Bool.{cases_eq, cases_Bool, and_parts, lt-ltb}
use Rattle.mr_field.specs.Gf.{Gf, add, mul, norm, neg, inv, order}
use Rattle.mr_field.proofs.Laws.{ring, norm-zero, norm-mul, opposites, cancel, cancel_right, add-norm_right, mul-zero, zero-mul, one-mul, mul-one, mul-inv, add-neg, one-ne, mul-norm_left, norm-element, norm-add}
use Rattle.mr_linear.specs.Columns.{Entries, total, LiesOn, MakesZero, Dependent}
use Rattle.mr_linear.specs.Elimination.{with_value}
use Rattle.mr_linear.specs.Private.Elimination.{factor, cleared, joined}
use Rattle.mr_linear.proofs.Sums.{total-same, total-zeros, total-added, norm-total, total-one}
use Rattle.mr_linear.proofs.Dependence.{OnlyZero, OnlyZero-independent, independent-OnlyZero, dependent-from_not, at, at-same, at-other, total-split, cleared-row, both_bool}
use Rattle.std.proofs.Common.{List, [], ◌∷◌}
use Rattle.std.specs.Prelude.{Contains, nat_eq, ◌||◌}
use Rattle.mr_set.specs.Elements.{numbers_below}
use Rattle.mr_set.proofs.Members.{same_numbers, itself, Contains-from_element, is_element-from_Contains, is_element-numbers_below}
use Rattle.mr_set.proofs.Tests.{without, without-other, without-same, element-lt, IsSet-numbers_below}

-- a coefficient that is zero adds nothing
nothing : (f : Gf) (c v : ℕ) → norm f c ≡ 0 → mul f c v ≡ 0
nothing f c v z = sym (mul-norm_left f c v) ∙ rw z (zero-mul f v)

-- only the entries on the set, in the rows, matter
pub OnlyZero-on : (f : Gf) (m : ℕ) (s t : ℕ → Bool) (n : ℕ) (a b : Entries) (x y : ℕ → Bool) →
    ((i : ℕ) → i < m → s i ≡ t i) → ((j : ℕ) → j < n → x j ≡ y j) →
    ((i j : ℕ) → i < m → j < n → s i ≡ true → x j ≡ true → a i j ≡ b i j) → OnlyZero f m s n a x → OnlyZero f m t n b y
OnlyZero-on f m s t n a b x y rows sets same h c on z j l =
    h' j l
  where
    -- the coefficients, zero from n on
    d : ℕ → ℕ
    d k = cond (x k) (c k) 0

    d-on : LiesOn f x d
    d-on k out = rw out (norm-zero f)

    d-in : (k : ℕ) → x k ≡ true → d k ≡ c k
    d-in k inside = rw inside

    d-out : (k : ℕ) → x k ≡ false → d k ≡ 0
    d-out k out = rw out

    term : (i k : ℕ) → i < m → s i ≡ true → k < n → mul f (d k) (a i k) ≡ mul f (c k) (b i k)
    term i k il r kl = ⊎_elim
        (λ (inside : x k ≡ true). rw (d-in k inside, same i k il kl r inside))
        (λ (out : x k ≡ false). rw (d-out k out) (zero-mul f (a i k)) ∙ sym (nothing f (c k) (b i k) (on k (sym (sets k kl) ∙ out))))
        (cases_Bool (x k))

    zero_d : MakesZero f m s n a d
    zero_d i il r = total-same f n _ _ (λ k kl. term i k il r kl) ∙ z i il (sym (rows i il) ∙ r)

    h' : (k : ℕ) → k < n → norm f (c k) ≡ 0
    h' k kl = ⊎_elim
        (λ (inside : x k ≡ true). sym (ap (norm f) (d-in k inside)) ∙ h d d-on zero_d k kl)
        (λ (out : x k ≡ false). on k (sym (sets k kl) ∙ out))
        (cases_Bool (x k))

-- a combination where the coefficient at n, which was zero, is changed
total-at_any : (f : Gf) (N n : ℕ) (c s : ℕ → ℕ) (g : ℕ) → n < N → norm f (c n) ≡ 0 →
    total f N (λ j. mul f (at c n g j) (s j)) ≡ add f (total f N (λ j. mul f (c j) (s j))) (mul f g (s n))
total-at_any f N n c s g l z =
    let p : total f N (λ j. mul f (at c n g j) (s j)) ≡ add f (total f N (at (λ j. mul f (at c n g j) (s j)) n 0)) (mul f (at c n g n) (s n)) = total-split f N n (λ j. mul f (at c n g j) (s j)) l in
    let q : total f N (λ j. mul f (c j) (s j)) ≡ add f (total f N (at (λ j. mul f (c j) (s j)) n 0)) (mul f (c n) (s n)) = total-split f N n (λ j. mul f (c j) (s j)) l in
    let same : total f N (at (λ j. mul f (at c n g j) (s j)) n 0) ≡ total f N (at (λ j. mul f (c j) (s j)) n 0) = total-same f N _ _ (λ j _. each j) in
    let none : mul f (c n) (s n) ≡ 0 = nothing f (c n) (s n) z in
    p ∙ rw (q, same, none, at-same c n g) (simp ring)
  where
    each : (j : ℕ) → at (λ j. mul f (at c n g j) (s j)) n 0 j ≡ at (λ j. mul f (c j) (s j)) n 0 j
    each j = ⊎_elim
        (λ (e : j ≡ n). rw e (at-same (λ j. mul f (at c n g j) (s j)) n 0 ∙ sym (at-same (λ j. mul f (c j) (s j)) n 0)))
        (λ (o : j ≢ n). at-other (λ j. mul f (at c n g j) (s j)) n 0 j o ∙ ap (λ v. mul f v (s j)) (at-other c n g j o) ∙ sym (at-other (λ j. mul f (c j) (s j)) n 0 j o))
        (cases_eq j n)

-- the combination of the columns that a combination of the cleared ones gives
unfoldable raised : (f : Gf) (N : ℕ) (a : Entries) (n k : ℕ) (d : ℕ → ℕ) → ℕ
raised f N a n k d = total f N (λ e. mul f (d e) (factor f a n k e))

-- a combination of the cleared columns is one of the columns
total-raised : (f : Gf) (N : ℕ) (a : Entries) (n k : ℕ) (d : ℕ → ℕ) (i : ℕ) → n < N → norm f (d n) ≡ 0 →
    total f N (λ j. mul f (at d n (raised f N a n k d) j) (a i j)) ≡ total f N (λ e. mul f (d e) (cleared f a n k i e))
unfolding raised cleared
total-raised f N a n k d i l z =
    total-at_any f N n d (a i) (total f N (λ e. mul f (d e) (factor f a n k e))) l z ∙ sym (total-added f N d (a i) (factor f a n k) (a i n))

-- a column without a pivot
pub stop-at : (f : Gf) (m : ℕ) (rows : ℕ → Bool) (N n : ℕ) (a : Entries) (x : ℕ → Bool) → n < N → x n ≡ true →
    ((i : ℕ) → i < m → rows i ≡ true → norm f (a i n) ≡ 0) → Dependent f m rows N a x
stop-at f m rows N n a x l has h = record {
  coefficient = at (λ _. 0) n 1;
  on_set = λ j out. ⊎_elim (λ (e : j ≡ n). both_bool (x n) has (rw (← e) out)) (λ (ne : j ≢ n). rw (at-other (λ _. 0) n 1 j ne) (norm-zero f)) (cases_eq j n);
  place = n;
  in_range = l;
  not_zero = rw (at-same (λ _. 0) n 1) (one-ne f);
  zero_sum = λ i il r. total-at_any f N n (λ _. 0) (a i) 1 l (norm-zero f) ∙ rw (total-zeros f N (λ j. mul f 0 (a i j)) (λ j _. rw (zero-mul f (a i j)) (norm-zero f)), one-mul f (a i n), h i il r) (simp ring);
}

module _ (f : Gf) (m : ℕ) (rows : ℕ → Bool) (N n : ℕ) (a : Entries) (x : ℕ → Bool) (k : ℕ) (below : n < N) (has : x n ≡ true) (row : k < m) (in_rows : rows k ≡ true) (ne : norm f (a k n) ≢ 0) where
  -- zero coefficients of the cleared columns, raised
  raised-zero : (d : ℕ → ℕ) → norm f (d n) ≡ 0 → MakesZero f m (without rows k) N (cleared f a n k) d → MakesZero f m rows N a (at d n (raised f N a n k d))
  raised-zero d z zs i l r =
      total-raised f N a n k d i below z ∙
      ⊎_elim
      (λ (e : i ≡ k). rw e (total-zeros f N _ (λ j _. rw (cleared-row f a n k j ne, mul-zero f (d j)) (norm-zero f))))
      (λ (o : i ≢ k). zs i l (without-other rows k i o ∙ r))
      (cases_eq i k)

  -- they lie on the set
  raised-on : (d : ℕ → ℕ) (g : ℕ) → LiesOn f (without x n) d → LiesOn f x (at d n g)
  raised-on d g on j out = ⊎_elim
      (λ (e : j ≡ n). both_bool (x n) has (rw (← e) out))
      (λ (o : j ≢ n). rw (at-other d n g j o) (on j (without-other x n j o ∙ out)))
      (cases_eq j n)

  -- where the columns are independent the cleared ones are
  pivot-there : OnlyZero f m rows N a x → OnlyZero f m (without rows k) N (cleared f a n k) (without x n)
  pivot-there h d on zs j l =
      let z : norm f (d n) ≡ 0 = on n (without-same x n) in
      let all : norm f (at d n (raised f N a n k d) j) ≡ 0 = h (at d n (raised f N a n k d)) (raised-on d (raised f N a n k d) on) (raised-zero d z zs) j l in
      ⊎_elim (λ (e : j ≡ n). rw e z) (λ (o : j ≢ n). sym (ap (norm f) (at-other d n (raised f N a n k d) j o)) ∙ all) (cases_eq j n)

  module _ (c : ℕ → ℕ) (on : LiesOn f x c) (zero_sum : MakesZero f m rows N a c) where
    -- the coefficients but for that at n
    abbrev others : ℕ → ℕ
    others = at c n 0

    others-zero : norm f (others n) ≡ 0
    others-zero = rw (at-same c n 0) (norm-zero f)

    others-on : LiesOn f (without x n) others
    others-on j out = ⊎_elim
        (λ (e : j ≡ n). rw e others-zero)
        (λ (o : j ≢ n). rw (at-other c n 0 j o) (on j (sym (without-other x n j o) ∙ out)))
        (cases_eq j n)

    -- with its own coefficient at n
    again : (j : ℕ) → at others n (c n) j ≡ c j
    again j = ⊎_elim
        (λ (e : j ≡ n). rw e (at-same others n (c n)))
        (λ (o : j ≢ n). at-other others n (c n) j o ∙ at-other c n 0 j o)
        (cases_eq j n)

    -- in a row where the sum is zero
    in_row : (i : ℕ) → i < m → rows i ≡ true → add f (total f N (λ j. mul f (others j) (a i j))) (mul f (c n) (a i n)) ≡ 0
    in_row i l r =
        sym (total-at_any f N n others (a i) (c n) below others-zero) ∙
        total-same f N _ _ (λ j _. ap (λ v. mul f v (a i j)) (again j)) ∙ zero_sum i l r

    -- the coefficient at n is the one that raises the others
    last-raises : norm f (c n) ≡ raised f N a n k others
    unfolding raised cleared
    last-raises =
        let g = total f N (λ e. mul f (others e) (factor f a n k e)) in
        let s = total f N (λ e. mul f (others e) (a k e)) in
        let h : add f s (mul f g (a k n)) ≡ 0 =
        sym (total-added f N others (a k) (factor f a n k) (a k n)) ∙ total-zeros f N _ (λ j _. rw (cleared-row f a n k j ne, mul-zero f (others j)) (norm-zero f)) in
        let e : mul f (c n) (a k n) ≡ mul f g (a k n) =
        sym (norm-mul f (c n) (a k n)) ∙ opposites f s (mul f (c n) (a k n)) (mul f g (a k n)) (in_row k row in_rows) h ∙ norm-mul f g (a k n) in
        cancel_right f (a k n) (c n) g ne e ∙ norm-total f N _

    -- so the others make the cleared columns zero
    others-zero_sum : MakesZero f m (without rows k) N (cleared f a n k) others
    others-zero_sum i l r =
        let inside : rows i ≡ true = (and_parts (not (eqb i k)) (rows i) r).1 in
        let e : mul f (raised f N a n k others) (a i n) ≡ mul f (c n) (a i n) = ap (λ v. mul f v (a i n)) (sym last-raises) ∙ mul-norm_left f (c n) (a i n) in
        sym (total-raised f N a n k others i below others-zero) ∙ total-at_any f N n others (a i) (raised f N a n k others) below others-zero ∙ rw e (in_row i l inside)

    -- and the coefficients are zero where those of the cleared columns are
    all_zero : OnlyZero f m (without rows k) N (cleared f a n k) (without x n) → (j : ℕ) → j < N → norm f (c j) ≡ 0
    unfolding raised
    all_zero h j l =
        let first : (i : ℕ) → i < N → norm f (others i) ≡ 0 = h others others-on others-zero_sum in
        ⊎_elim
        (λ (e : j ≡ n). rw e (last-raises ∙ total-zeros f N _ (λ i il. rw (nothing f (others i) (factor f a n k i) (first i il)) (norm-zero f))))
        (λ (o : j ≢ n). sym (ap (norm f) (at-other c n 0 j o)) ∙ first j l)
        (cases_eq j n)

  -- a column with a pivot
  pub pivot-at : OnlyZero f m (without rows k) N (cleared f a n k) (without x n) ↔ OnlyZero f m rows N a x
  pivot-at = ((λ h c on z. all_zero c on z h), pivot-there)

-- the columns joined once others are cleared are those cleared once they are joined
pub joined-cleared : (f : Gf) (a : Entries) (n k e u v i j : ℕ) → n ≢ e → joined f (cleared f a n k) e u v i j ≡ cleared f (joined f a e u v) n k i j
unfolding cleared factor
joined-cleared f a n k e u v i j ne = ⊎_elim
    (λ (p : j ≡ e). rw (p, eq-eqb e e refl, ne_eqb n e ne) (simp ring))
    (λ (o : j ≢ e). rw (ne_eqb j e o, ne_eqb n e ne))
    (cases_eq j e)

-- one column is left
module _ (f : Gf) (m : ℕ) (rows : ℕ → Bool) (N e : ℕ) (b : Entries) (y : ℕ → Bool) (below : e < N) (has : y e ≡ true) (others : (j : ℕ) → j < N → j ≢ e → y j ≡ false) where
  -- an entry that is not zero
  one-left : (k : ℕ) → k < m → rows k ≡ true → norm f (b k e) ≢ 0 → OnlyZero f m rows N b y
  one-left k l r ne c on z j jl = ⊎_elim
      (λ (p : j ≡ e).
      let only : total f N (λ i. mul f (c i) (b k i)) ≡ norm f (mul f (c e) (b k e)) =
      total-one f N e (λ i. mul f (c i) (b k i)) below (λ i il o. rw (nothing f (c i) (b k i) (on i (others i il o))) (norm-zero f)) in
      let q : mul f (b k e) (c e) ≡ 0 = (let w : mul f (b k e) (c e) ≡ mul f (c e) (b k e) = simp ring in w ∙ sym (norm-mul f (c e) (b k e)) ∙ sym only ∙ z k l r) in
      rw p (cancel f (b k e) (c e) ne q))
      (λ (o : j ≢ e). on j (others j jl o))
      (cases_eq j e)

  -- the columns are dependent just where it is zero in each row
  pub left-zero : Dependent f m rows N b y ↔ ((i : ℕ) → i < m → rows i ≡ true → norm f (b i e) ≡ 0)
  left-zero = (
    (λ d i l r. ⊎_elim (λ (z : norm f (b i e) ≡ 0). z) (λ (ne : norm f (b i e) ≢ 0). absurd (OnlyZero-independent f m rows N b y (one-left i l r ne) d)) (cases_eq (norm f (b i e)) 0)),
    (λ h. stop-at f m rows N e b y below has h),
  )

-- in the joined columns the others are as they were
joined-other : (f : Gf) (a : Entries) (e u v i j : ℕ) → j ≢ e → joined f a e u v i j ≡ a i j
joined-other f a e u v i j ne = rw (ne_eqb j e ne)

-- and column e is the sum
joined-same : (f : Gf) (a : Entries) (e u v i : ℕ) → joined f a e u v i e ≡ add f (a i e) (mul f v (a i u))
joined-same f a e u v i = rw (eq-eqb e e refl)

-- entries that agree on a column and on u agree there once u is joined to e
joined-agree : (f : Gf) (a b : Entries) (e u v i j : ℕ) → b i j ≡ a i j → b i u ≡ a i u → joined f b e u v i j ≡ joined f a e u v i j
joined-agree f a b e u v i j p q = ⊎_elim
    (λ (s : j ≡ e).
    let p' : b i e ≡ a i e = subst (λ c. b i c ≡ a i c) s p in
    rw s (joined-same f b e u v i ∙ rw (p', q) (sym (joined-same f a e u v i))))
    (λ (o : j ≢ e). joined-other f b e u v i j o ∙ p ∙ sym (joined-other f a e u v i j o))
    (cases_eq j e)

-- for each v, the columns of a set are independent once v times u is joined to e, just where those of another are
abbrev pub SameVerdicts : Gf → ℕ → ℕ → ℕ → ℕ → (ℕ → Bool) → Entries → (ℕ → Bool) → (ℕ → Bool) → Entries → (ℕ → Bool) → Type 0
SameVerdicts f m N e u rows a x start b y = (v : ℕ) → OnlyZero f m rows N (joined f a e u v) x ↔ OnlyZero f m start N (joined f b e u v) y

-- a column with a pivot
pub keep-open : (f : Gf) (m N e u : ℕ) (rows rows' left left' : ℕ → Bool) (a b : Entries) (n k : ℕ) (start : ℕ → Bool) (a0 : Entries) (x : ℕ → Bool) →
    n < N → u < N → n ≢ e → left n ≡ true → k < m → rows k ≡ true → norm f (a k n) ≢ 0 →
    ((i : ℕ) → rows' i ≡ without rows k i) → ((j : ℕ) → left' j ≡ without left n j) →
    ((i j : ℕ) → i < m → j < N → (left' j ≡ true) ⊎ (j ≡ u) → b i j ≡ cleared f a n k i j) →
    SameVerdicts f m N e u rows a left start a0 x → SameVerdicts f m N e u rows' b left' start a0 x
keep-open f m N e u rows rows' left left' a b n k start a0 x below ub ne has row in_rows nz rs ls same h v =
    let nz' : norm f (joined f a e u v k n) ≢ 0 = λ z. nz (sym (ap (norm f) (joined-other f a e u v k n ne)) ∙ z) in
    let step : OnlyZero f m (without rows k) N (cleared f (joined f a e u v) n k) (without left n) ↔ OnlyZero f m rows N (joined f a e u v) left =
    pivot-at f m rows N n (joined f a e u v) left k below has row in_rows nz' in (
      (λ o. (h v).0 (step.0 (OnlyZero-on f m rows' (without rows k) N (joined f b e u v) (cleared f (joined f a e u v) n k) left' (without left n)
          (λ i _. rs i) (λ j _. ls j) (λ i j il jl _ l. entries i j il jl l) o))),
      (λ o. OnlyZero-on f m (without rows k) rows' N (cleared f (joined f a e u v) n k) (joined f b e u v) (without left n) left'
          (λ i _. sym (rs i)) (λ j _. sym (ls j)) (λ i j il jl _ l. sym (entries i j il jl (ls j ∙ l))) (step.1 ((h v).1 o))),
    )
  where
    entries : (i j : ℕ) → i < m → j < N → left' j ≡ true → joined f b e u v i j ≡ cleared f (joined f a e u v) n k i j
    entries i j il jl l =
        joined-agree f (cleared f a n k) b e u v i j (same i j il jl (inl l)) (same i u il ub (inr refl)) ∙ joined-cleared f a n k e u v i j ne

-- a column that is zero in each row
pub stop-open : (f : Gf) (m N e u : ℕ) (rows left : ℕ → Bool) (a : Entries) (n : ℕ) (start : ℕ → Bool) (a0 : Entries) (x : ℕ → Bool) →
    n < N → n ≢ e → left n ≡ true → ((i : ℕ) → i < m → rows i ≡ true → norm f (a i n) ≡ 0) →
    SameVerdicts f m N e u rows a left start a0 x → (v : ℕ) → Dependent f m start N (joined f a0 e u v) x
stop-open f m N e u rows left a n start a0 x below ne has z h v =
    dependent-from_not f m start N (joined f a0 e u v) x
    (λ ind. OnlyZero-independent f m rows N (joined f a e u v) left ((h v).1 (independent-OnlyZero f m start N (joined f a0 e u v) x ind))
    (stop-at f m rows N n (joined f a e u v) left below has (λ i il r. ap (norm f) (joined-other f a e u v i n ne) ∙ z i il r)))

-- column e alone is left: dependent just where the sum is zero in each row
pub end-open : (f : Gf) (m N e u : ℕ) (rows left : ℕ → Bool) (a : Entries) (start : ℕ → Bool) (a0 : Entries) (x : ℕ → Bool) →
    e < N → left e ≡ true → ((j : ℕ) → j < N → j ≢ e → left j ≡ false) →
    SameVerdicts f m N e u rows a left start a0 x → (v : ℕ) →
    Dependent f m start N (joined f a0 e u v) x ↔ ((i : ℕ) → i < m → rows i ≡ true → add f (a i e) (mul f v (a i u)) ≡ 0)
end-open f m N e u rows left a start a0 x below has others h v =
    let last : Dependent f m rows N (joined f a e u v) left ↔ ((i : ℕ) → i < m → rows i ≡ true → norm f (joined f a e u v i e) ≡ 0) =
    left-zero f m rows N e (joined f a e u v) left below has others in (
      (λ d i il r.
          let there : Dependent f m rows N (joined f a e u v) left =
          dependent-from_not f m rows N (joined f a e u v) left
          (λ ind. OnlyZero-independent f m start N (joined f a0 e u v) x ((h v).0 (independent-OnlyZero f m rows N (joined f a e u v) left ind)) d) in
          sum i (last.0 there i il r)),
      (λ z.
          let here : Dependent f m rows N (joined f a e u v) left = last.1 (λ i il r. back i (z i il r)) in
          dependent-from_not f m start N (joined f a0 e u v) x
          (λ ind. OnlyZero-independent f m rows N (joined f a e u v) left ((h v).1 (independent-OnlyZero f m start N (joined f a0 e u v) x ind)) here)),
    )
  where
    sum : (i : ℕ) → norm f (joined f a e u v i e) ≡ 0 → add f (a i e) (mul f v (a i u)) ≡ 0
    sum i z = sym (norm-add f (a i e) (mul f v (a i u))) ∙ sym (ap (norm f) (joined-same f a e u v i)) ∙ z

    back : (i : ℕ) → add f (a i e) (mul f v (a i u)) ≡ 0 → norm f (joined f a e u v i e) ≡ 0
    back i z = ap (norm f) (joined-same f a e u v i) ∙ norm-add f (a i e) (mul f v (a i u)) ∙ z

-- where v is to stand in row r and column e: with 0 there, and column u the unit column of row r, v times it is joined
pub joined-unit : (f : Gf) (a b : Entries) (r e u v i j : ℕ) → v < order f → a i j < order f →
    b i u ≡ cond (eqb i r) 1 0 → b i j ≡ cond (eqb i r && eqb j e) 0 (a i j) →
    joined f b e u v i j ≡ with_value a r e v i j
joined-unit f a b r e u v i j vl al unit is = ⊎_elim
    (λ (p : j ≡ e). ⊎_elim
    (λ (q : i ≡ r).
    let here : b i e ≡ 0 = subst (λ (k : ℕ). b i k ≡ 0) p (is ∙ rw (p, q, eq-eqb e e refl, eq-eqb r r refl)) in
    let one : b i u ≡ 1 = unit ∙ rw (q, eq-eqb r r refl) in
    let s : add f 0 (mul f v 1) ≡ norm f v = simp ring in
    rw (p, joined-same f b e u v i, here, one, s, norm-element f v vl, q, eq-eqb r r refl, eq-eqb e e refl))
    (λ (o : i ≢ r).
    let here : b i j ≡ a i j = is ∙ rw (ne_eqb i r o) in
    let none : b i u ≡ 0 = unit ∙ rw (ne_eqb i r o) in
    let s : add f (a i j) (mul f v 0) ≡ norm f (a i j) = simp ring in
    subst (λ (k : ℕ). joined f b k u v i j ≡ with_value a r e v i j) p
    (joined-same f b j u v i ∙ rw (here, none, s, norm-element f (a i j) al, ne_eqb i r o)))
    (cases_eq i r))
    (λ (o : j ≢ e). joined-other f b e u v i j o ∙ is ∙ ⊎_elim (λ (q : i ≡ r). rw (q, eq-eqb r r refl, ne_eqb j e o)) (λ (q : i ≢ r). rw (ne_eqb i r q)) (cases_eq i r))
    (cases_eq j e)

-- the one value for which a linear form is zero
pub zero-of_form : (f : Gf) (s c v : ℕ) → c < order f → c ≢ 0 → v < order f → (add f s (mul f v c) ≡ 0) ↔ (v ≡ mul f (neg f s) (inv f c))
zero-of_form f s c v cl cz vl =
    let ne : norm f c ≢ 0 = λ z. cz (sym (norm-element f c cl) ∙ z) in
    let root = mul f (neg f s) (inv f c) in
    let g : mul f root c ≡ mul f (neg f s) (mul f c (inv f c)) = simp ring in
    let back : add f s (mul f root c) ≡ 0 = rw (g, mul-inv f c ne, mul-one f (neg f s), add-norm_right f s (neg f s)) (add-neg f s) in (
      (λ z.
          let p : mul f v c ≡ mul f root c = sym (norm-mul f v c) ∙ opposites f s (mul f v c) (mul f root c) z back ∙ norm-mul f root c in
          sym (norm-element f v vl) ∙ cancel_right f c v root ne p ∙ norm-mul f (neg f s) (inv f c)),
      (λ e. rw e back),
    )

-- only the entries on the set, in the rows, matter for dependence
pub Dependent-on : (f : Gf) (m : ℕ) (s : ℕ → Bool) (n : ℕ) (a b : Entries) (x : ℕ → Bool) →
    ((i j : ℕ) → i < m → j < n → x j ≡ true → a i j ≡ b i j) → Dependent f m s n a x → Dependent f m s n b x
Dependent-on f m s n a b x same d =
    dependent-from_not f m s n b x
    (λ ind. OnlyZero-independent f m s n a x
    (OnlyZero-on f m s s n b a x x (λ i _. refl) (λ j _. refl) (λ i j il jl _ l. sym (same i j il jl l)) (independent-OnlyZero f m s n b x ind)) d)

-- the values for which a linear form is zero
abbrev pub AreZeros : Gf → ℕ → ℕ → List ℕ → Type 0
AreZeros f s c values = (v : ℕ) → Contains values v ↔ ((v < order f) × (add f s (mul f v c) ≡ 0))

-- just one where the value has a factor that is not zero
pub only_root : (f : Gf) (s c root : ℕ) (values : List ℕ) → c < order f → c ≢ 0 → root ≡ mul f (neg f s) (inv f c) → root < order f → values ≡ root ∷ [] → AreZeros f s c values
only_root f s c root values cl cz is rl one v = (
  (λ h.
      let e : v ≡ root = only (subst (λ (xs : List ℕ). Contains xs v) one h) in
      (omega arith, (zero-of_form f s c v cl cz (omega arith)).1 (e ∙ is))),
  (λ h. let e : v ≡ root = (zero-of_form f s c v cl cz h.0).0 h.1 ∙ sym is in rw (one, e) (Contains-from_element (root ∷ []) root (itself root []))),
)
  where
    first : (b : Bool) → (b || false) ≡ true → b ≡ true
    first true h = refl
    first false h = h

    only : Contains (root ∷ []) v → v ≡ root
    only h = same_numbers v root (first (nat_eq v root) (is_element-from_Contains (root ∷ []) v h))

-- none where it is a number that is not zero
pub none_root : (f : Gf) (s c : ℕ) (values : List ℕ) → s < order f → c ≡ 0 → s ≢ 0 → values ≡ [] → AreZeros f s c values
none_root f s c values sl cz sz none v = (
  (λ h. absurd (let t : false ≡ true = is_element-from_Contains [] v (subst (λ (xs : List ℕ). Contains xs v) none h) in cc)),
  (λ h.
      let e : add f s (mul f v 0) ≡ norm f s = simp ring in
      absurd (sz (sym (norm-element f s sl) ∙ sym e ∙ sym (ap (λ k. add f s (mul f v k)) cz) ∙ h.1))),
)

-- the numbers below n
pub below_all : (n v : ℕ) → Contains (numbers_below n) v ↔ (v < n)
below_all n v = (
  (λ h. element-lt n (numbers_below n) (IsSet-numbers_below n) v (is_element-from_Contains (numbers_below n) v h)),
  (λ l. Contains-from_element (numbers_below n) v (is_element-numbers_below n v ∙ lt-ltb v n l)),
)

-- each one where it is zero
pub each_root : (f : Gf) (s c : ℕ) (values : List ℕ) (q : ℕ) → c ≡ 0 → s ≡ 0 → q ≡ order f → values ≡ numbers_below q → AreZeros f s c values
each_root f s c values q cz sz is all v =
    let e : add f 0 (mul f v 0) ≡ 0 = simp ring in (
      (λ h. ((subst (λ k. v < k) is ((below_all q v).0 (subst (λ (xs : List ℕ). Contains xs v) all h))), rw (cz, sz) e)),
      (λ h. subst (λ (xs : List ℕ). Contains xs v) (sym all) ((below_all q v).1 (subst (λ k. v < k) (sym is) h.0))),
    )
