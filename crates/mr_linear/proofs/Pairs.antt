-- The columns of a part with two or three rows and as many columns.
use Rattle.std.proofs.Common.{Some, [], List, ℕ, ◌<◌, ◌≡◌, ◌≢◌, ◌⊎◌, ◌↔◌, Bool, true, false, eqb, not, ◌&&◌, refl, sym, ap, subst, ◌∙◌, ⊎_elim, inl, inr, eq-eqb, ne_eqb}
use Rattle.std.proofs.lemmas.Bool.{cases_eq, cases_Bool, and_parts, both_ways}
use Rattle.mr_field.specs.Gf.{Gf, add, mul, norm, neg, inv, order}
use Rattle.mr_field.proofs.Laws.{ring, norm-zero, norm-mul, norm-norm, opposites, cancel, mul-zero, zero-mul, add-zero, one-mul, mul-inv, add-neg, minus, norm-one, mul-norm_left, mul-norm_right}
use Rattle.mr_linear.specs.Columns.{Entries, Dependent}
use Rattle.mr_linear.specs.Elimination.{with_value}
use Rattle.mr_linear.specs.Private.Elimination.{factor, cleared}
use Rattle.mr_linear.specs.Private.Small.{IsPair, AreValues, pair_sum}
use Rattle.mr_linear.proofs.Dependence.{OnlyZero-independent, independent-OnlyZero, dependent-from_not}
use Rattle.mr_linear.proofs.Opening.{of_others}
use Rattle.mr_linear.proofs.Pivots.{Dependent-on, pivot-at, stop-at, left-zero}
use Rattle.std.specs.Prelude.{Contains, slice_get, ◌==◌, if◌then◌else◌}
use Rattle.mr_set.specs.Elements.{is_element, without_element}
use Rattle.mr_set.proofs.Members.{Contains-from_element, is_element-without, is_element-from_Contains}
use Rattle.mr_set.proofs.Lowest.{first_inside}
use Rattle.mr_set.proofs.Tests.{without, without-other, without-same}

-- a factor that is zero makes a product zero
zero_left : (f : Gf) (a b : ℕ) → norm f a ≡ 0 → mul f a b ≡ 0
zero_left f a b z = sym (mul-norm_left f a b) ∙ rw z (zero-mul f b)

-- also as the second one
zero_right : (f : Gf) (a b : ℕ) → norm f b ≡ 0 → mul f a b ≡ 0
zero_right f a b z = sym (mul-norm_right f a b) ∙ rw z (mul-zero f a)

-- minus one times minus one
minus_twice : (f : Gf) → mul f (neg f 1) (neg f 1) ≡ 1
minus_twice f =
    let both : norm f (mul f (neg f 1) (neg f 1)) ≡ norm f 1 = opposites f (neg f 1) (mul f (neg f 1) (neg f 1)) 1 (minus f (neg f 1)) (let e : add f (neg f 1) 1 ≡ add f 1 (neg f 1) = simp ring in e ∙ add-neg f 1) in
    sym (norm-mul f (neg f 1) (neg f 1)) ∙ both ∙ norm-one f

-- a column with a pivot is taken out with the pivot's row
pub dependent-pivot : (f : Gf) (m : ℕ) (rows : ℕ → Bool) (N n : ℕ) (a : Entries) (x : ℕ → Bool) (k : ℕ) → n < N → x n ≡ true → k < m → rows k ≡ true → norm f (a k n) ≢ 0 →
    Dependent f m rows N a x ↔ Dependent f m (without rows k) N (cleared f a n k) (without x n)
dependent-pivot f m rows N n a x k nl has kl inside ne = (
  (λ d. dependent-from_not f m (without rows k) N (cleared f a n k) (without x n) (λ free.
      OnlyZero-independent f m rows N a x ((pivot-at f m rows N n a x k nl has kl inside ne).0 (independent-OnlyZero f m (without rows k) N (cleared f a n k) (without x n) free)) d)),
  (λ d. dependent-from_not f m rows N a x (λ free.
      OnlyZero-independent f m (without rows k) N (cleared f a n k) (without x n) ((pivot-at f m rows N n a x k nl has kl inside ne).1 (independent-OnlyZero f m rows N a x free)) d)),
)

-- without the second just the first is left
pair-without : (n : ℕ) (x : ℕ → Bool) (i k : ℕ) → IsPair n x i k → (l : ℕ) → l < n → l ≢ i → without x k l ≡ false
pair-without n x i k pair l ll ne = ⊎_elim
    (λ (t : without x k l ≡ true).
    let parts : (not (eqb l k) ≡ true) × (x l ≡ true) = and_parts (not (eqb l k)) (x l) t in
    ⊎_elim
    (λ (p : l ≡ i). absurd (ne p))
    (λ (p : l ≡ k). absurd (both_ways (without x k l) (subst (λ (y : ℕ). without x k y ≡ false) (sym p) (without-same x k)) t))
    (pair.only l ll parts.1))
    (λ (t : without x k l ≡ false). t)
    (cases_Bool (without x k l))

-- the other way round
pub pair-turned : (n : ℕ) (x : ℕ → Bool) (i k : ℕ) → IsPair n x i k → IsPair n x k i
pair-turned n x i k pair = record {
  first = pair.second;
  second = pair.first;
  apart = λ p. pair.apart (sym p);
  has_first = pair.has_second;
  has_second = pair.has_first;
  only = λ l ll t. ⊎_elim (λ (p : l ≡ i). inr p) (λ (p : l ≡ k). inl p) (pair.only l ll t);
}

-- two columns in two rows, with a pivot in the second column
pair-pivot : (f : Gf) (m N : ℕ) (rows x : ℕ → Bool) (a : Entries) (i k e j : ℕ) → IsPair m rows i k → IsPair N x e j → norm f (a k j) ≢ 0 →
    Dependent f m rows N a x ↔ (norm f (cleared f a j k i e) ≡ 0)
pair-pivot f m N rows x a i k e j of_rows of_columns ne =
    let step = dependent-pivot f m rows N j a x k of_columns.second of_columns.has_second of_rows.second of_rows.has_second ne in
    let here : without x j e ≡ true = without-other x j e of_columns.apart ∙ of_columns.has_first in
    let row : without rows k i ≡ true = without-other rows k i of_rows.apart ∙ of_rows.has_first in
    let left = left-zero f m (without rows k) N e (cleared f a j k) (without x j) of_columns.first here (pair-without N x e j of_columns) in (
      (λ d. left.0 (step.0 d) i of_rows.first row),
      (λ z. step.1 (left.1 (λ l ll t. ⊎_elim
          (λ (p : l ≡ i). rw p z)
          (λ (p : l ≢ i). absurd (both_ways (without rows k l) (pair-without m rows i k of_rows l ll p) t))
          (cases_eq l i)))),
    )

-- the cleared entry times a number that isn't zero is the determinant
pair_sum-cleared : (f : Gf) (a : Entries) (i k e j : ℕ) → norm f (a k j) ≢ 0 → mul f (mul f (neg f 1) (a k j)) (cleared f a j k i e) ≡ pair_sum f a i k e j
unfolding cleared factor
pair_sum-cleared f a i k e j ne =
    let expand : mul f (mul f (neg f 1) (a k j)) (add f (a i e) (mul f (mul f (neg f 1) (mul f (a k e) (inv f (a k j)))) (a i j))) ≡
    add f (mul f (a i e) (mul f (neg f 1) (a k j))) (mul f (mul f (mul f (neg f 1) (neg f 1)) (mul f (a k j) (inv f (a k j)))) (mul f (a i j) (a k e))) = simp ring in
    expand ∙ rw (minus_twice f, mul-inv f (a k j) ne) (simp ring)

-- that number
minus-ne : (f : Gf) (d : ℕ) → norm f d ≢ 0 → norm f (mul f (neg f 1) d) ≢ 0
minus-ne f d ne z =
    let e : mul f (neg f 1) (mul f (neg f 1) d) ≡ mul f (mul f (neg f 1) (neg f 1)) d = simp ring in
    ne (sym (one-mul f d) ∙ ap (λ v. mul f v d) (sym (minus_twice f)) ∙ sym e ∙ zero_right f (neg f 1) (mul f (neg f 1) d) z)

-- two columns in two rows are dependent just where their determinant is zero
pub pair-zero : (f : Gf) (m N : ℕ) (rows x : ℕ → Bool) (a : Entries) (i k e j : ℕ) → IsPair m rows i k → IsPair N x e j →
    Dependent f m rows N a x ↔ (pair_sum f a i k e j ≡ 0)
unfolding cleared factor
pair-zero f m N rows x a i k e j of_rows of_columns = ⊎_elim
    (λ (d : norm f (a k j) ≡ 0).
    let rest : mul f (a i e) (mul f (neg f 1) (a k j)) ≡ 0 = rw (zero_right f (neg f 1) (a k j) d) (mul-zero f (a i e)) in
    ⊎_elim
    (λ (b : norm f (a i j) ≡ 0). (
      (λ _. rw (rest, zero_left f (a i j) (a k e) b) (add-zero f 0 ∙ norm-zero f)),
      (λ _. stop-at f m rows N j a x of_columns.second of_columns.has_second (λ l ll t. ⊎_elim (λ (p : l ≡ i). rw p b) (λ (p : l ≡ k). rw p d) (of_rows.only l ll t))),
    ))
    (λ (b : norm f (a i j) ≢ 0).
    let by = pair-pivot f m N rows x a k i e j (pair-turned m rows i k of_rows) of_columns b in
    let same : norm f (cleared f a j i k e) ≡ norm f (a k e) =
    rw (zero_right f (mul f (neg f 1) (mul f (a i e) (inv f (a i j)))) (a k j) d) (rw (add-zero f (a k e)) (norm-norm f (a k e))) in
    let total : pair_sum f a i k e j ≡ mul f (a i j) (a k e) = rw rest (add-zero f (mul f (a i j) (a k e)) ∙ norm-mul f (a i j) (a k e)) in (
      (λ h. total ∙ zero_right f (a i j) (a k e) (sym same ∙ by.0 h)),
      (λ z. by.1 (same ∙ cancel f (a i j) (a k e) b (sym total ∙ z))),
    ))
    (cases_eq (norm f (a i j)) 0))
    (λ (d : norm f (a k j) ≢ 0).
    let by = pair-pivot f m N rows x a i k e j of_rows of_columns d in (
      (λ h. sym (pair_sum-cleared f a i k e j d) ∙ zero_right f (mul f (neg f 1) (a k j)) (cleared f a j k i e) (by.0 h)),
      (λ z. by.1 (cancel f (mul f (neg f 1) (a k j)) (cleared f a j k i e) (minus-ne f (a k j) d) (pair_sum-cleared f a i k e j d ∙ z))),
    ))
    (cases_eq (norm f (a k j)) 0)

-- three columns in three rows, with a pivot in the third row and column
pub triple-zero : (f : Gf) (m N : ℕ) (rows x : ℕ → Bool) (a : Entries) (i k p e j h : ℕ) → p < m → rows p ≡ true → h < N → x h ≡ true → norm f (a p h) ≢ 0 →
    IsPair m (without rows p) i k → IsPair N (without x h) e j → Dependent f m rows N a x ↔ (pair_sum f (cleared f a h p) i k e j ≡ 0)
triple-zero f m N rows x a i k p e j h pl has_p hl has_h ne of_rows of_columns =
    let step = dependent-pivot f m rows N h a x p hl has_h pl has_p ne in
    let rest = pair-zero f m N (without rows p) (without x h) (cleared f a h p) i k e j of_rows of_columns in
    ((λ d. rest.0 (step.0 d)), (λ z. step.1 (rest.1 z)))

-- with a value in row i and column e, the others are as they were
with_value-other : (a : Entries) (i e v x j : ℕ) → (x ≢ i) ⊎ (j ≢ e) → with_value a i e v x j ≡ a x j
with_value-other a i e v x j apart = ⊎_elim
    (λ (p : x ≢ i). rw (ne_eqb x i p))
    (λ (q : j ≢ e). ⊎_elim (λ (p : x ≡ i). rw (p, eq-eqb i i refl, ne_eqb j e q)) (λ (p : x ≢ i). rw (ne_eqb x i p)) (cases_eq x i))
    apart

-- and there it is the value
with_value-same : (a : Entries) (i e v : ℕ) → with_value a i e v i e ≡ v
with_value-same a i e v = rw (eq-eqb i i refl, eq-eqb e e refl)

-- the determinant with a value is a linear form in it
pub pair_sum-value : (f : Gf) (a : Entries) (i k e j v : ℕ) → i ≢ k → e ≢ j →
    pair_sum f (with_value a i e v) i k e j ≡ add f (mul f (a i j) (a k e)) (mul f v (mul f (neg f 1) (a k j)))
pair_sum-value f a i k e j v rows columns =
    rw (
      with_value-same a i e v,
      with_value-other a i e v i j (inr (λ p. columns (sym p))),
      with_value-other a i e v k e (inl (λ p. rows (sym p))),
      with_value-other a i e v k j (inl (λ p. rows (sym p))),
    )

-- also once row p is cleared by column h
pub pair_sum-cleared_value : (f : Gf) (a : Entries) (i k p e j h v by_e by_j beside under last : ℕ) → i ≢ k → i ≢ p → e ≢ j → e ≢ h →
    by_e ≡ mul f (neg f 1) (mul f (a p e) (inv f (a p h))) → by_j ≡ mul f (neg f 1) (mul f (a p j) (inv f (a p h))) →
    beside ≡ add f (a i j) (mul f by_j (a i h)) → under ≡ add f (a k e) (mul f by_e (a k h)) → last ≡ add f (a k j) (mul f by_j (a k h)) →
    pair_sum f (cleared f (with_value a i e v) h p) i k e j ≡
    add f (add f (mul f beside under) (mul f (mul f by_e (a i h)) (mul f (neg f 1) last))) (mul f v (mul f (neg f 1) last))
unfolding cleared factor
pair_sum-cleared_value f a i k p e j h v by_e by_j beside under last ik ip ej eh e_is j_is beside_is under_is last_is =
    let ie : with_value a i e v i e ≡ v = with_value-same a i e v in
    let ij : with_value a i e v i j ≡ a i j = with_value-other a i e v i j (inr (λ q. ej (sym q))) in
    let ih : with_value a i e v i h ≡ a i h = with_value-other a i e v i h (inr (λ q. eh (sym q))) in
    let ke : with_value a i e v k e ≡ a k e = with_value-other a i e v k e (inl (λ q. ik (sym q))) in
    let kj : with_value a i e v k j ≡ a k j = with_value-other a i e v k j (inl (λ q. ik (sym q))) in
    let kh : with_value a i e v k h ≡ a k h = with_value-other a i e v k h (inl (λ q. ik (sym q))) in
    let pe : with_value a i e v p e ≡ a p e = with_value-other a i e v p e (inl (λ q. ip (sym q))) in
    let pj : with_value a i e v p j ≡ a p j = with_value-other a i e v p j (inl (λ q. ip (sym q))) in
    let ph : with_value a i e v p h ≡ a p h = with_value-other a i e v p h (inl (λ q. ip (sym q))) in
    rw (ie, ij, ih, ke, kj, kh, pe, pj, ph, ← e_is, ← j_is, ← beside_is, ← under_is, ← last_is) (simp ring)

-- the values for a part with two rows and columns
pub pair-values : (f : Gf) (r n : ℕ) (rows x : List ℕ) (a : Entries) (i k e j : ℕ) (values : List ℕ) → IsPair r (is_element rows) i k → IsPair n (is_element x) e j →
    ((v : ℕ) → Contains values v ↔ ((v < order f) × (pair_sum f (with_value a i e v) i k e j ≡ 0))) → AreValues f r rows n a i e x values
pair-values f r n rows x a i k e j values of_rows of_columns are v =
    let same = pair-zero f r n (is_element rows) (is_element x) (with_value a i e v) i k e j of_rows of_columns in (
      (λ h. let t = (are v).0 h in (t.0, same.1 t.1)),
      (λ h. (are v).1 (h.0, same.0 h.1)),
    )

-- a set without an element as a test
pair-without_element : (n p : ℕ) (x x' : List ℕ) (i k : ℕ) → x' ≡ without_element p x → IsPair n (is_element x') i k → IsPair n (without (is_element x) p) i k
pair-without_element n p x x' i k is pair = record {
  first = pair.first;
  second = pair.second;
  apart = pair.apart;
  has_first = sym (same i) ∙ pair.has_first;
  has_second = sym (same k) ∙ pair.has_second;
  only = λ l ll t. pair.only l ll (same l ∙ t);
}
  where
    same : (l : ℕ) → is_element x' l ≡ without (is_element x) p l
    same l = ap (λ (ys : List ℕ). is_element ys l) is ∙ is_element-without p l x

-- the values for a part with three rows and columns
pub triple-values : (f : Gf) (r n : ℕ) (rows rows' x x' : List ℕ) (a : Entries) (i k p e j h : ℕ) (values : List ℕ) →
    p < r → Contains rows p → i ≢ p → h < n → Contains x h → norm f (a p h) ≢ 0 → rows' ≡ without_element p rows → x' ≡ without_element h x →
    IsPair r (is_element rows') i k → IsPair n (is_element x') e j →
    ((v : ℕ) → Contains values v ↔ ((v < order f) × (pair_sum f (cleared f (with_value a i e v) h p) i k e j ≡ 0))) → AreValues f r rows n a i e x values
triple-values f r n rows rows' x x' a i k p e j h values pl has_p ip hl has_h ne rows_is x_is of_rows of_columns are v =
    let still : norm f (with_value a i e v p h) ≢ 0 = rw (with_value-other a i e v p h (inl (λ q. ip (sym q)))) ne in
    let same = triple-zero f r n (is_element rows) (is_element x) (with_value a i e v) i k p e j h pl (is_element-from_Contains rows p has_p) hl (is_element-from_Contains x h has_h) still
    (pair-without_element r p rows rows' i k rows_is of_rows) (pair-without_element n h x x' e j x_is of_columns) in (
      (λ c. let t = (are v).0 c in (t.0, same.1 t.1)),
      (λ c. (are v).1 (c.0, same.0 c.1)),
    )

-- a set of which nothing is left without two elements is the two
pub only-other : (n : ℕ) (x rest rest' : List ℕ) (first k : ℕ) → first < n → Contains x first → rest ≡ without_element first x → Some k ≡ slice_get rest 0 → k < n →
    rest' ≡ without_element k rest → rest' ≡ [] → IsPair n (is_element x) first k
only-other n x rest rest' first k fl has rest_is least kl rest'_is none = record {
  first = fl;
  second = kl;
  apart = λ p. another.0 (sym p);
  has_first = is_element-from_Contains x first has;
  has_second = another.1;
  only = λ l ll t. ⊎_elim
      (λ (p : l ≡ first). inl p)
      (λ (p : l ≢ first). ⊎_elim
      (λ (q : l ≡ k). inr q)
      (λ (q : l ≢ k). absurd (both_ways (is_element rest' l) (rw none refl) (left l p q t)))
      (cases_eq l k))
      (cases_eq l first);
}
  where
    another : (k ≢ first) × (is_element x k ≡ true)
    another = of_others x rest first k rest_is (first_inside rest k least)

    left : (l : ℕ) → l ≢ first → l ≢ k → is_element x l ≡ true → is_element rest' l ≡ true
    left l p q t = ap (λ (ys : List ℕ). is_element ys l) rest'_is ∙ is_element-without k l rest ∙ without-other (is_element rest) k l q ∙
        ap (λ (ys : List ℕ). is_element ys l) rest_is ∙ is_element-without first l x ∙ without-other (is_element x) first l p ∙ t

-- another element stays
pub still_in : (x x' : List ℕ) (p i : ℕ) → x' ≡ without_element p x → p ≢ i → Contains x i → Contains x' i
still_in x x' p i is ne has = Contains-from_element x' i (ap (λ (ys : List ℕ). is_element ys i) is ∙ is_element-without p i x ∙ without-other (is_element x) p i (λ q. ne (sym q)) ∙ is_element-from_Contains x i has)

-- the zeros of a linear form that is a sum
pub forms-values : (f : Gf) (values : List ℕ) (s c : ℕ) (sum : ℕ → ℕ) → ((v : ℕ) → sum v ≡ add f s (mul f v c)) →
    ((v : ℕ) → Contains values v ↔ ((v < order f) × (add f s (mul f v c) ≡ 0))) → (v : ℕ) → Contains values v ↔ ((v < order f) × (sum v ≡ 0))
forms-values f values s c sum is are v = (
  (λ h. let t = (are v).0 h in (t.0, is v ∙ t.1)),
  (λ h. (are v).1 (h.0, sym (is v) ∙ h.1)),
)

-- entries that are the same have the same values
pub values-same : (f : Gf) (r : ℕ) (rows : List ℕ) (n : ℕ) (a b : Entries) (i e : ℕ) (x values : List ℕ) → ((y j : ℕ) → y < r → j < n → a y j ≡ b y j) →
    AreValues f r rows n a i e x values → AreValues f r rows n b i e x values
values-same f r rows n a b i e x values same are v = (
  (λ h. let t = (are v).0 h in (t.0, Dependent-on f r (is_element rows) n (with_value a i e v) (with_value b i e v) (is_element x) (λ y j yl jl inside. written y j yl jl) t.1)),
  (λ h. (are v).1 (h.0, Dependent-on f r (is_element rows) n (with_value b i e v) (with_value a i e v) (is_element x) (λ y j yl jl inside. sym (written y j yl jl)) h.1)),
)
  where
    written : (y j : ℕ) → y < r → j < n → with_value a i e v y j ≡ with_value b i e v y j
    written y j yl jl = ap (λ (w : ℕ). if y == i && j == e then v else w) (same y j yl jl)
