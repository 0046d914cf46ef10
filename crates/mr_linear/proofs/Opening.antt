-- The elimination of a working copy with an open entry, column by column.
use Rattle.std.specs.List.Sorted.{IsStrictlySortedBy}
use Rattle.std.specs.Ordering.{nat_cmp}
use Rattle.std.proofs.Common.{Some, [], ◌∷◌, ℕ, ◌+◌, ◌<◌, ◌≤◌, ◌≡◌, ◌≢◌, ◌⊎◌, ◌↔◌, Bool, true, false, eqb, ◌&&◌, List, length, refl, sym, ap, subst, ◌∙◌, ⊎_elim, inl, inr, arith, eq-eqb, ne_eqb}
use Rattle.std.proofs.lemmas.List.Filters.{length-filter_both}
use Rattle.std.proofs.lemmas.List.Kept.{IsStrictlySortedBy-filter}
use Rattle.std.specs.Prelude.{Contains, Option, filter, not, slice_get, nat_eq, ◌||◌, ◌==◌, if◌then◌else◌}
use Rattle.std.proofs.lemmas.Bool.{cases_eq, both_ways, and_parts}
use Rattle.mr_field.specs.Gf.{Gf, add, mul, neg, inv, norm, order}
use Rattle.mr_field.proofs.Laws.{ring, norm-element}
use Rattle.mr_set.specs.Elements.{is_element, with_element, without_element, numbers_below, meet}
use Rattle.mr_set.proofs.Sorted.{sorted_parts}
use Rattle.mr_set.proofs.Members.{above_first, is_element-filter, is_element-with, is_element-without, Contains-from_element, is_element-from_Contains}
use Rattle.mr_set.proofs.Tests.{without, without-other, without-same}
use Rattle.mr_linear.specs.Columns.{Entries, Dependent}
use Rattle.mr_linear.specs.Elimination.{with_value}
use Rattle.mr_linear.specs.Private.Elimination.{factor, cleared, joined}
use Rattle.mr_linear.specs.Stored.{cell, InField}
use Rattle.mr_linear.proofs.Pivots.{AreZeros, SameVerdicts, keep-open, stop-open, end-open, joined-unit, Dependent-on, below_all}

-- a column whose entry in the pivot's row is zero is cleared as it is
cleared-passed : (f : Gf) (a : Entries) (n k i e : ℕ) → a k e ≡ 0 → a i e < order f → cleared f a n k i e ≡ a i e
unfolding cleared factor
cleared-passed f a n k i e z l =
    let s : add f (a i e) (mul f (factor f a n k e) (a i n)) ≡ norm f (a i e) = rw z (simp ring) in
    s ∙ norm-element f (a i e) l

-- the factor by its sign and the inverse first
turned : (f : Gf) (m a s b : ℕ) → mul f (mul f a (mul f m s)) b ≡ mul f (mul f m (mul f a s)) b
turned f m a s b = simp ring

-- the columns of a set are cleared but for some, and these and the pivot's are as they were
pub record ClearedBut (f : Gf) (r n k : ℕ) (columns w0 w left : List ℕ) : Type 0 where
  pub len : length w ≡ 1024
  pub done : (i j : ℕ) → i < r → is_element columns j ≡ true → is_element left j ≡ false → cell w i j ≡ cleared f (cell w0) n k i j
  pub kept : (i j : ℕ) → j < 32 → (is_element left j ≡ true) ⊎ (j ≡ n) → cell w i j ≡ cell w0 i j
  pub within : (j : ℕ) → is_element left j ≡ true → is_element columns j ≡ true
  pub elements : InField f w

-- at the start all are left
pub cleared-none : (f : Gf) (r n k : ℕ) (columns w : List ℕ) → length w ≡ 1024 → InField f w → ClearedBut f r n k columns w w columns
cleared-none f r n k columns w len elements = record {
  len = len;
  done = λ i j il inside out. absurd (both_ways (is_element columns j) out inside);
  kept = λ i j jl h. refl;
  within = λ j h. h;
  elements = elements;
}

module _ (f : Gf) (r n k : ℕ) (columns w0 w left left' : List ℕ) (e : ℕ) (to : ClearedBut f r n k columns w0 w left) (less : left' ≡ without_element e left) (inside : is_element left e ≡ true) (el : e < 32) where
  -- what is left is one of the others
  other : (j : ℕ) → is_element left' j ≡ true → (j ≢ e) × (is_element left j ≡ true)
  other j h =
      let t : (not (nat_eq j e) ≡ true) × (is_element left j ≡ true) = and_parts (not (nat_eq j e)) (is_element left j) (sym (ap (λ (ys : List ℕ). is_element ys j) less ∙ is_element-without e j left) ∙ h) in
      ((λ p. both_ways (nat_eq j e) (not-true (nat_eq j e) t.0) (rw p (eq-eqb e e refl))), t.1)
    where
      not-true : (b : Bool) → not b ≡ true → b ≡ false
      not-true true h = cc
      not-true false h = refl

  -- what isn't left is that column, or wasn't left before
  gone : (j : ℕ) → j ≢ e → is_element left' j ≡ false → is_element left j ≡ false
  gone j ne h = sym (ap (λ (ys : List ℕ). is_element ys j) less ∙ is_element-without e j left ∙ rw (ne_eqb j e ne) refl) ∙ h

  -- its entry in the pivot's row is zero
  pub clear-zero : cell w k e ≡ 0 → ClearedBut f r n k columns w0 w left'
  clear-zero z = record {
    len = to.len;
    done = λ i j il h out. ⊎_elim
        (λ (p : j ≡ e). rw p (
        let same : cell w i e ≡ cell w0 i e = to.kept i e el (inl inside) in
        let zero : cell w0 k e ≡ 0 = sym (to.kept k e el (inl inside)) ∙ z in
        same ∙ sym (cleared-passed f (cell w0) n k i e zero (subst (λ (v : ℕ). v < order f) same (to.elements _)))))
        (λ (o : j ≢ e). to.done i j il h (gone j o out))
        (cases_eq j e);
    kept = λ i j jl h. to.kept i j jl (⊎_elim (λ (l : is_element left' j ≡ true). inl (other j l).1) (λ (p : j ≡ n). inr p) h);
    within = λ j h. to.within j (other j h).1;
    elements = to.elements;
  }

  -- a multiple of the pivot's column is added
  pub clear-more : (w' : List ℕ) (g scale : ℕ) → n < 32 → e ≢ n → length w' ≡ length w →
      ((i : ℕ) → i < r → cell w' i e ≡ add f (cell w i e) (mul f g (cell w i n))) →
      ((i j : ℕ) → j < 32 → j ≢ e → cell w' i j ≡ cell w i j) → InField f w' →
      g ≡ mul f (cell w k e) scale → scale ≡ mul f (neg f 1) (inv f (cell w0 k n)) → ((j : ℕ) → is_element columns j ≡ true → j < 32) → ClearedBut f r n k columns w0 w' left'
  unfolding cleared factor
  clear-more w' g scale nl ne size column others elements is by small = record {
    len = size ∙ to.len;
    done = λ i j il h out. ⊎_elim
        (λ (p : j ≡ e). rw p (column i il ∙ rw (is, by, to.kept i e el (inl inside), to.kept k e el (inl inside), to.kept i n nl (inr refl)) (ap (λ (v : ℕ). add f (cell w0 i e) v) (turned f (neg f 1) (cell w0 k e) (inv f (cell w0 k n)) (cell w0 i n)))))
        (λ (o : j ≢ e). others i j (small j h) o ∙ to.done i j il h (gone j o out))
        (cases_eq j e);
    kept = λ i j jl h. ⊎_elim
        (λ (l : is_element left' j ≡ true). others i j jl (other j l).0 ∙ to.kept i j jl (inl (other j l).1))
        (λ (p : j ≡ n). others i j jl (λ q. ne (sym q ∙ p)) ∙ to.kept i j jl (inr p))
        h;
    within = λ j h. to.within j (other j h).1;
    elements = elements;
  }

-- the columns that are none of a set are eliminated, and e is left
pub record EliminatedBut (f : Gf) (r n : ℕ) (start x : List ℕ) (e u : ℕ) (w0 : List ℕ) (rows left w : List ℕ) : Type 0 where
  pub len : length w ≡ 1024
  pub elements : InField f w
  pub here : is_element left e ≡ true
  pub spare : is_element left u ≡ false
  pub sorted : IsStrictlySortedBy nat_cmp left
  pub same : SameVerdicts f r n e u (is_element rows) (cell w) (is_element left) (is_element start) (cell w0) (is_element x)

-- at the start
pub eliminated-none : (f : Gf) (r n : ℕ) (start x : List ℕ) (e u : ℕ) (w : List ℕ) → length w ≡ 1024 → InField f w → IsStrictlySortedBy nat_cmp x → Contains x e → (Contains x u → ⊥) → EliminatedBut f r n start x e u w start x w
eliminated-none f r n start x e u w len elements sorted here spare = record {
  len = len;
  elements = elements;
  here = is_element-from_Contains x e here;
  spare = out (is_element x u) (λ t. spare (Contains-from_element x u t));
  sorted = sorted;
  same = λ v. ((λ h. h), (λ h. h));
}
  where
    out : (b : Bool) → (b ≡ true → ⊥) → b ≡ false
    out true h = absurd (h refl)
    out false h = refl

module _ (f : Gf) (r n : ℕ) (start x : List ℕ) (e u : ℕ) (w0 rows left w : List ℕ) (to : EliminatedBut f r n start x e u w0 rows left w) where
  -- a column of the set has a pivot, in row k
  pub eliminated-pivot : (j k : ℕ) (rows' left' w' : List ℕ) → j < n → u < n → j ≢ e → is_element left j ≡ true → k < r → Contains rows k → cell w k j ≢ 0 →
      rows' ≡ without_element k rows → left' ≡ without_element j left → length w' ≡ length w → InField f w' →
      ((i c : ℕ) → i < r → Contains (with_element u left') c → cell w' i c ≡ cleared f (cell w) j k i c) →
      EliminatedBut f r n start x e u w0 rows' left' w'
  eliminated-pivot j k rows' left' w' jl ul ne inside kl kin pivot rs ls size elements clear = record {
    len = size ∙ to.len;
    elements = elements;
    here = less e ∙ without-other (is_element left) j e (λ q. ne (sym q)) ∙ to.here;
    spare = less u ∙ without-other (is_element left) j u (λ q. both_ways (is_element left u) to.spare (subst (λ (c : ℕ). is_element left c ≡ true) (sym q) inside)) ∙ to.spare;
    sorted = subst (λ (ys : List ℕ). IsStrictlySortedBy nat_cmp ys) (sym ls) (IsStrictlySortedBy-filter nat_cmp (λ k. not (nat_eq k j)) left to.sorted);
    same = keep-open f r n e u (is_element rows) (is_element rows') (is_element left) (is_element left') (cell w) (cell w') j k (is_element start) (cell w0) (is_element x)
        jl ul ne inside kl (is_element-from_Contains rows k kin) (λ z. pivot (sym (norm-element f (cell w k j) (to.elements _)) ∙ z))
        (λ i. ap (λ (ys : List ℕ). is_element ys i) rs ∙ is_element-without k i rows) less
        (λ i c il cl h. clear i c il (Contains-from_element (with_element u left') c (is_element-with u c left' ∙ ⊎_elim
        (λ (t : is_element left' c ≡ true). rw t (or_true (nat_eq c u)))
        (λ (p : c ≡ u). rw (p, eq-eqb u u refl))
        h)))
        to.same;
  }
    where
      less : (c : ℕ) → is_element left' c ≡ without (is_element left) j c
      less c = ap (λ (ys : List ℕ). is_element ys c) ls ∙ is_element-without j c left

      or_true : (b : Bool) → (b || true) ≡ true
      or_true true = refl
      or_true false = refl

  -- it has none
  pub eliminated-stop : (j : ℕ) → j < n → j ≢ e → is_element left j ≡ true → ((i : ℕ) → i < r → Contains rows i → cell w i j ≡ 0) →
      (v : ℕ) → Dependent f r (is_element start) n (joined f (cell w0) e u v) (is_element x)
  eliminated-stop j jl ne inside zero =
      stop-open f r n e u (is_element rows) (is_element left) (cell w) j (is_element start) (cell w0) (is_element x) jl ne inside
      (λ i il h. let z : cell w i j ≡ 0 = zero i il (Contains-from_element rows i h) in rw z (simp ring)) to.same

  -- no other column of the matrix is left
  pub eliminated-all : ((y : ℕ) → y < n → y ≢ e → is_element left y ≡ false) → e < n → (v : ℕ) →
      Dependent f r (is_element start) n (joined f (cell w0) e u v) (is_element x) ↔ ((i : ℕ) → i < r → Contains rows i → add f (cell w i e) (mul f v (cell w i u)) ≡ 0)
  eliminated-all all el v =
      let h : Dependent f r (is_element start) n (joined f (cell w0) e u v) (is_element x) ↔ ((i : ℕ) → i < r → is_element rows i ≡ true → add f (cell w i e) (mul f v (cell w i u)) ≡ 0) =
      end-open f r n e u (is_element rows) (is_element left) (cell w) (is_element start) (cell w0) (is_element x) el to.here all to.same v in (
        (λ d i il k. h.0 d i il (is_element-from_Contains rows i k)),
        (λ z. h.1 (λ i il t. z i il (Contains-from_element rows i t))),
      )

-- where the least of the others comes after the columns of the matrix, none is left
pub none_below : (left others : List ℕ) (e n j : ℕ) → others ≡ without_element e left → IsStrictlySortedBy nat_cmp left → Some j ≡ slice_get others 0 → n ≤ j → (y : ℕ) → y < n → y ≢ e → is_element left y ≡ false
none_below left others e n j is sorted first past y yl ne =
    sym (ap (λ (ys : List ℕ). is_element ys y) is ∙ is_element-without e y left ∙ rw (ne_eqb y e ne) refl) ∙ at others (subst (λ (ys : List ℕ). IsStrictlySortedBy nat_cmp ys) (sym is) (IsStrictlySortedBy-filter nat_cmp (λ k. not (nat_eq k e)) left sorted)) first
  where
    at : (xs : List ℕ) → IsStrictlySortedBy nat_cmp xs → Some j ≡ slice_get xs 0 → is_element xs y ≡ false
    at [] s h = refl
    at (z ∷ zs) s h = let same : z ≡ j = cc in above_first y z zs (omega arith) (sorted_parts z zs s).0

-- nor where there are no others
pub none_other : (left others : List ℕ) (e : ℕ) → others ≡ without_element e left → others ≡ [] → (y : ℕ) → y ≢ e → is_element left y ≡ false
none_other left others e is none y ne = sym (ap (λ (ys : List ℕ). is_element ys y) is ∙ is_element-without e y left ∙ rw (ne_eqb y e ne) refl) ∙ ap (λ (ys : List ℕ). is_element ys y) none

-- a set is longer than without one of its elements
pub without_shorter : (e : ℕ) (x : List ℕ) → is_element x e ≡ true → length (without_element e x) < length x
without_shorter e [] h = absurd (cc)
without_shorter e (y ∷ ys) h = elim (cases_eq y e) [
  | inl same ↦
      let gone : nat_eq y e ≡ true = rw same (eq-eqb e e refl) in
      let both : length (without_element e ys) + length (filter (λ k. not (not (nat_eq k e))) ys) ≡ length ys = length-filter_both (λ k. not (nat_eq k e)) (λ k. not (not (nat_eq k e))) (λ k. refl) ys in
      rw gone (omega arith)
  | inr other ↦
      let differs : nat_eq y e ≡ false = ne_eqb y e other in
      let rest : is_element ys e ≡ true = sym (ap (λ (b : Bool). b || is_element ys e) (ne_eqb e y (λ q. other (sym q)))) ∙ h in
      let shorter = without_shorter e ys rest in
      rw differs (omega arith)
]

-- a set of which no element is the first has none
pub none_left : (x : List ℕ) (found : Option ℕ) → found ≡ slice_get x 0 → ((e : ℕ) → found ≡ Some e → ⊥) → x ≡ []
none_left [] found is never = refl
none_left (y ∷ ys) found is never = absurd (never y is)

-- an element of a set without e is another one of the set
pub of_others : (left others : List ℕ) (e j : ℕ) → others ≡ without_element e left → Contains others j → (j ≢ e) × (is_element left j ≡ true)
of_others left others e j is h =
    let t : (not (nat_eq j e) ≡ true) × (is_element left j ≡ true) = and_parts (not (nat_eq j e)) (is_element left j) (sym (ap (λ (ys : List ℕ). is_element ys j) is ∙ is_element-without e j left) ∙ is_element-from_Contains others j h) in
    ((λ p. both_ways (nat_eq j e) (not-true (nat_eq j e) t.0) (rw p (eq-eqb e e refl))), t.1)
  where
    not-true : (b : Bool) → not b ≡ true → b ≡ false
    not-true true h = cc
    not-true false h = refl

-- the working copy with the open entry is the matrix with v there, once v times the spare column is joined
module _ (f : Gf) (r n : ℕ) (start x : List ℕ) (row e u : ℕ) (w0 w : List ℕ) (wide : n ≤ 32) (spare : Contains x u → ⊥) (elements : InField f w0)
    (unit : (i : ℕ) → i < r → cell w i u ≡ (if i == row then 1 else 0)) (zero : cell w row e ≡ 0)
    (others : (i j : ℕ) → i < r → j < 32 → j ≢ u → (i ≢ row) ⊎ (j ≢ e) → cell w i j ≡ cell w0 i j) where
  -- its entries
  opened : (v i j : ℕ) → v < order f → i < r → j < n → is_element x j ≡ true → joined f (cell w) e u v i j ≡ with_value (cell w0) row e v i j
  opened v i j vl il jl inside = joined-unit f (cell w0) (cell w) row e u v i j vl (elements _) (unit i il) (⊎_elim
      (λ (p : i ≡ row). ⊎_elim
      (λ (q : j ≡ e). rw (p, q, eq-eqb row row refl, eq-eqb e e refl) zero)
      (λ (q : j ≢ e). rw (ne_eqb j e q, and_false (eqb i row)) (others i j il (omega arith) apart (inr q)))
      (cases_eq j e))
      (λ (p : i ≢ row). rw (ne_eqb i row p) (others i j il (omega arith) apart (inl p)))
      (cases_eq i row))
    where
      apart : j ≢ u
      apart p = spare (Contains-from_element x u (subst (λ (c : ℕ). is_element x c ≡ true) p inside))

      and_false : (b : Bool) → (b && false) ≡ false
      and_false true = refl
      and_false false = refl

  -- so dependence is the same
  opened-there : (v : ℕ) → v < order f → Dependent f r (is_element start) n (joined f (cell w) e u v) (is_element x) → Dependent f r (is_element start) n (with_value (cell w0) row e v) (is_element x)
  opened-there v vl d = Dependent-on f r (is_element start) n (joined f (cell w) e u v) (with_value (cell w0) row e v) (is_element x) (λ i j il jl t. opened v i j vl il jl t) d

  -- both ways
  opened-back : (v : ℕ) → v < order f → Dependent f r (is_element start) n (with_value (cell w0) row e v) (is_element x) → Dependent f r (is_element start) n (joined f (cell w) e u v) (is_element x)
  opened-back v vl d = Dependent-on f r (is_element start) n (with_value (cell w0) row e v) (joined f (cell w) e u v) (is_element x) (λ i j il jl t. sym (opened v i j vl il jl t)) d

  -- the values for which the joined columns are dependent are those for which the columns are
  pub values-there : (values : List ℕ) (P : ℕ → Type 0) → ((v : ℕ) → Contains values v ↔ ((v < order f) × P v)) → ((v : ℕ) → Dependent f r (is_element start) n (joined f (cell w) e u v) (is_element x) ↔ P v) →
      (v : ℕ) → Contains values v ↔ ((v < order f) × Dependent f r (is_element start) n (with_value (cell w0) row e v) (is_element x))
  values-there values P are decide v = (
    (λ h. let k = (are v).0 h in (k.0, opened-there v k.0 ((decide v).1 k.1))),
    (λ h. (are v).1 (h.0, (decide v).0 (opened-back v h.0 h.1))),
  )

  -- all values where the others are dependent
  pub values-all : (values : List ℕ) (q : ℕ) → q ≡ order f → values ≡ numbers_below q → ((v : ℕ) → Dependent f r (is_element start) n (joined f (cell w) e u v) (is_element x)) →
      (v : ℕ) → Contains values v ↔ ((v < order f) × Dependent f r (is_element start) n (with_value (cell w0) row e v) (is_element x))
  values-all values q is all dep v =
      let below : Contains values v ↔ (v < order f) = subst (λ (k : ℕ). Contains values v ↔ (v < k)) is (subst (λ (ys : List ℕ). Contains ys v ↔ (v < q)) (sym all) (below_all q v)) in (
        (λ h. let l = below.0 h in (l, opened-there v l (dep v))),
        (λ h. below.1 h.0),
      )

-- a set without j, with u, doesn't have j, where u is another
pub not_in : (left left' columns : List ℕ) (u j : ℕ) → is_element left j ≡ true → is_element left u ≡ false → left' ≡ without_element j left → columns ≡ with_element u left' → Contains columns j → ⊥
not_in left left' columns u j inside spare ls cs h =
    let p : is_element columns j ≡ true = is_element-from_Contains columns j h in
    let q : is_element columns j ≡ (nat_eq j u || is_element left' j) = ap (λ (ys : List ℕ). is_element ys j) cs ∙ is_element-with u j left' in
    let a : is_element left' j ≡ false = ap (λ (ys : List ℕ). is_element ys j) ls ∙ is_element-without j j left ∙ without-same (is_element left) j in
    let b : nat_eq j u ≡ false = ne_eqb j u (λ e. both_ways (is_element left j) (subst (λ (k : ℕ). is_element left k ≡ false) (sym e) spare) inside) in
    both_ways (is_element columns j) (q ∙ rw (a, b)) p

-- the elements of both sets
in_both : (x y : List ℕ) (v : ℕ) → Contains (meet x y) v ↔ (Contains x v × Contains y v)
in_both x y v = (
  (λ h.
      let t : (is_element y v ≡ true) × (is_element x v ≡ true) = and_parts (is_element y v) (is_element x v) (sym (is_element-filter (is_element y) x v) ∙ is_element-from_Contains (meet x y) v h) in
      (Contains-from_element x v t.1, Contains-from_element y v t.0)),
  (λ h. Contains-from_element (meet x y) v (is_element-filter (is_element y) x v ∙ rw (is_element-from_Contains y v h.1, is_element-from_Contains x v h.0))),
)

-- the values for which the sum is zero in those of the first rows that are in the set
abbrev pub ZerosTo : Gf → List ℕ → List ℕ → ℕ → ℕ → List ℕ → ℕ → Type 0
ZerosTo f w rows e u values i = (v : ℕ) → Contains values v ↔ ((v < order f) × ((x : ℕ) → x < i → Contains rows x → add f (cell w x e) (mul f v (cell w x u)) ≡ 0))

-- before the first row each value
pub zeros-none : (f : Gf) (w rows : List ℕ) (e u : ℕ) (values : List ℕ) (q : ℕ) → q ≡ order f → values ≡ numbers_below q → ZerosTo f w rows e u values 0
zeros-none f w rows e u values q is all v =
    let below : Contains values v ↔ (v < order f) = subst (λ (k : ℕ). Contains values v ↔ (v < k)) is (subst (λ (ys : List ℕ). Contains ys v ↔ (v < q)) (sym all) (below_all q v)) in
    ((λ h. (below.0 h, λ x l. absurd (omega arith))), (λ h. below.1 h.0))

module _ (f : Gf) (w rows : List ℕ) (e u : ℕ) (values : List ℕ) (i : ℕ) (to : ZerosTo f w rows e u values i) where
  -- a row of the set
  pub zeros-more : (zeros values' : List ℕ) → Contains rows i → AreZeros f (cell w i e) (cell w i u) zeros → values' ≡ meet values zeros → ZerosTo f w rows e u values' (i + 1)
  zeros-more zeros values' inside are is v =
      let both : Contains values' v ↔ (Contains values v × Contains zeros v) = subst (λ (ys : List ℕ). Contains ys v ↔ (Contains values v × Contains zeros v)) (sym is) (in_both values zeros v) in (
        (λ h.
            let t = both.0 h in
            let k = (to v).0 t.0 in
            (k.0, λ x l r. ⊎_elim (λ (p : x ≡ i). subst (λ (y : ℕ). add f (cell w y e) (mul f v (cell w y u)) ≡ 0) (sym p) ((are v).0 t.1).1) (λ (o : x ≢ i). k.1 x (omega arith) r) (cases_eq x i))),
        (λ h. both.1 ((to v).1 (h.0, λ x l r. h.1 x (omega arith) r), (are v).1 (h.0, h.1 i (omega arith) inside))),
      )

  -- a row outside of it
  pub zeros-past : (Contains rows i → ⊥) → ZerosTo f w rows e u values (i + 1)
  zeros-past out v = (
    (λ h.
        let k = (to v).0 h in
        (k.0, λ x l r. ⊎_elim (λ (p : x ≡ i). absurd (out (subst (Contains rows) p r))) (λ (o : x ≢ i). k.1 x (omega arith) r) (cases_eq x i))),
    (λ h. (to v).1 (h.0, λ x l r. h.1 x (omega arith) r)),
  )
