-- The three unit vectors are points of a plane, so its rank is the number of its rows.
use Rattle.std.proofs.Common.{◌≡◌, ◌≢◌, ℕ, zero, suc, ◌<◌, Bool, true, false, not, ◌&&◌, eqb, cond, List, [], ◌∷◌, get_or, refl, sym, ap, ◌∙◌, ⊎_elim, arith, eq-eqb, ne_eqb}
use Rattle.std.specs.Prelude.{Contains, min}
use Rattle.std.proofs.lemmas.Bool.{cases_eq, both_ways}
use Rattle.std.proofs.lemmas.List.{get_or_default, length-map}
use Rattle.mr_field.specs.Gf.{Gf, gf2, gf3, gf4, gf5, gf7, gf8, gf9, order}
use Rattle.mr_set.specs.Elements.{is_element, numbers_below}
use Rattle.mr_set.proofs.Tests.{count, with, Within-with, with-same, with-other, count-with, set_of, is_element-set_of, length-set_of, IsSet-set_of, count-is_element}
use Rattle.mr_linear.specs.Columns.{every}
use Rattle.mr_linear.specs.Matrix.{Grid, height, entry, IsColumnRank}
use Rattle.mr_linear.proofs.Augment.{independent-count}
use Rattle.mr_linear.proofs.Dependence.{OnlyZero, OnlyZero-independent}
use Rattle.mr_linear.proofs.Leads.{only_zero-grid}
use Rattle.mr_linear.proofs.Square.{IsBasisOf, square-back}
use Rattle.mr_linear.proofs.Standard.{IsIdentityAt}
use Rattle.mr_matrix.specs.Plane.{column, columns, IsPoint, IsPlane}
use Rattle.mr_matrix.specs.Represented.{IsRankShort}
use Rattle.mr_matrix.proofs.ColumnBases.{only_zero-agree, rank_one}
use Rattle.mr_matrix.proofs.Single.{length-below, entry-from_columns}

-- the unit vector that has its 1 at place k
unit : ℕ → List ℕ
unit k = cond (eqb 0 k) 1 0 ∷ cond (eqb 1 k) 1 0 ∷ cond (eqb 2 k) 1 0 ∷ []

-- its coordinates
coordinate-unit : (i k : ℕ) → i < 3 → get_or (unit k) i 0 ≡ cond (eqb i k) 1 0
unfolding unit
coordinate-unit zero k lt = refl
coordinate-unit (suc zero) k lt = refl
coordinate-unit (suc (suc zero)) k lt = refl
coordinate-unit (suc (suc (suc i))) k lt = absurd (omega arith)

-- a field has more than one element
order_more : (f : Gf) → 1 < order f
order_more gf2 = omega arith
order_more gf3 = omega arith
order_more gf4 = omega arith
order_more gf5 = omega arith
order_more gf7 = omega arith
order_more gf8 = omega arith
order_more gf9 = omega arith

-- it is a point
unit_point : (f : Gf) (k : ℕ) → k < 3 → IsPoint f (unit k)
unfolding unit
unit_point f k lt = record {
  size = refl;
  elements = λ i d in_range. (
      let more = order_more f in
      let is = get_or_default (unit k) i d 0 in_range ∙ coordinate-unit i k in_range in
      ⊎_elim
      (λ (same : i ≡ k). (let one : get_or (unit k) i d ≡ 1 = is ∙ rw (eq-eqb i k same) in omega arith))
      (λ (other : i ≢ k). (let none : get_or (unit k) i d ≡ 0 = is ∙ rw (ne_eqb i k other) in omega arith))
      (cases_eq i k));
  leading = (
    k,
    coordinate-unit k k lt ∙ rw (eq-eqb k k refl),
    λ i less. coordinate-unit i k (omega arith) ∙ rw (ne_eqb i k (omega arith)),
  );
}

-- what is in a set is not outside of it
not_outside : (b : Bool) → (b && not b) ≡ false
not_outside true = refl
not_outside false = refl

-- nothing passes the empty test
count-none : (n : ℕ) → count n (λ _. false) ≡ 0
count-none zero = refl
count-none (suc n) = let rest = count-none n in omega arith

module _ (f : Gf) (a : Grid) (plane : IsPlane f a) where
  -- it is a column
  found : (k : ℕ) → Contains (columns a) (unit (min k 2))
  found k = (plane.exactly (unit (min k 2))).1 (unit_point f (min k 2) (omega arith))

  -- this one
  place : ℕ → ℕ
  place k = (found k).0

  -- there are as many columns
  place-lt : (k : ℕ) → place k < a.cols
  unfolding place
  place-lt k = let lt = (found k).1 in let size = length-map (numbers_below a.cols) (column a) in let all = length-below a.cols in omega arith

  -- the columns of the unit vectors are the identity
  identity : IsIdentityAt (height a) place (entry a)
  unfolding place
  identity i k row col =
      let rows = plane.rows in
      let low : k < 3 = omega arith in
      let same : min k 2 ≡ k = omega arith in
      sym (entry-from_columns a i (place k) row (place-lt k)) ∙ ap (λ (v : List ℕ). get_or v i 0) (get_or_default (columns a) (place k) [] (unit (min k 2)) (found k).1 ∙ (found k).2 ∙ ap unit same) ∙ coordinate-unit i k (omega arith)

  -- they differ
  apart : (i k : ℕ) → i < 3 → k < 3 → i ≢ k → place i ≢ place k
  apart i k row col other same =
      let rows = plane.rows in
      let low : i < height a = omega arith in
      let high : k < height a = omega arith in
      let one : entry a i (place i) ≡ 1 = identity i i low low ∙ rw (eq-eqb i i refl) in
      let none : entry a i (place k) ≡ 0 = identity i k low high ∙ rw (ne_eqb i k other) in
      let equal : entry a i (place i) ≡ entry a i (place k) = ap (entry a i) same in
      omega arith

  -- the test of the three columns
  two : ℕ → Bool
  two = with (with (λ _. false) (place 0)) (place 1)

  three : ℕ → Bool
  three = with two (place 2)

  -- it passes three of them
  count-three : count a.cols three ≡ 3
  unfolding two three
  count-three =
      let one = with (λ _. false) (place 0) in
      let second : one (place 1) ≡ false = with-other (λ _. false) (place 0) (place 1) (apart 1 0 (omega arith) (omega arith) (omega arith)) in
      let third : two (place 2) ≡ false = with-other one (place 1) (place 2) (apart 2 1 (omega arith) (omega arith) (omega arith)) ∙ with-other (λ _. false) (place 0) (place 2) (apart 2 0 (omega arith) (omega arith) (omega arith)) in
      let none = count-none a.cols in
      let sum = count-with a.cols (λ _. false) (place 0) (place-lt 0) refl in
      let sum2 = count-with a.cols one (place 1) (place-lt 1) second in
      let sum3 = count-with a.cols two (place 2) (place-lt 2) third in
      omega arith

  -- the three columns are those of the test
  chosen : IsBasisOf (height a) a.cols place three
  unfolding two three
  chosen = record {
    below = λ k row. place-lt k;
    member = λ k row. (let rows = plane.rows in member k (omega arith));
    place = λ e passes. (let rows = plane.rows in let is = which e passes in (is.0, (let lt = is.1 in omega arith), is.2));
  }
    where
      -- each passes
      member : (k : ℕ) → k < 3 → three (place k) ≡ true
      member zero lt = Within-with two (place 2) (place 0) (Within-with (with (λ _. false) (place 0)) (place 1) (place 0) (with-same (λ _. false) (place 0)))
      member (suc zero) lt = Within-with two (place 2) (place 1) (with-same (with (λ _. false) (place 0)) (place 1))
      member (suc (suc zero)) lt = with-same two (place 2)
      member (suc (suc (suc k))) lt = absurd (omega arith)

      -- and no other
      which : (e : ℕ) → three e ≡ true → (k : ℕ) × (k < 3) × (e ≡ place k)
      which e passes = ⊎_elim
          (λ (is : e ≡ place 2). (2, omega arith, is))
          (λ (not_third : e ≢ place 2). ⊎_elim
          (λ (is : e ≡ place 1). (1, omega arith, is))
          (λ (not_second : e ≢ place 1). ⊎_elim
          (λ (is : e ≡ place 0). (0, omega arith, is))
          (λ (not_first : e ≢ place 0). absurd (both_ways (three e) (with-other two (place 2) e not_third ∙ with-other (with (λ _. false) (place 0)) (place 1) e not_second ∙ with-other (λ _. false) (place 0) e not_first) passes))
          (cases_eq e (place 0)))
          (cases_eq e (place 1)))
          (cases_eq e (place 2))

  -- so only zero coefficients on them make their sum zero
  independent : OnlyZero a.field (height a) every a.cols (entry a) three
  independent = square-back a.field (height a) a.cols place three (entry a) three chosen identity (λ c on zero j lt. on j (not_outside (three j)))

  -- the rank of a plane is its number of rows
  pub plane_rank : IsColumnRank a (height a)
  plane_rank = record {
    reached = (
      set_of a.cols three,
      record { set = IsSet-set_of a.cols three; size = length-set_of a.cols three ∙ count-three ∙ sym plane.rows },
      OnlyZero-independent a.field (height a) every a.cols (entry a) (is_element (set_of a.cols three))
          (only_zero-agree a three (is_element (set_of a.cols three)) (λ j lt. sym (is_element-set_of a.cols three j lt)) independent),
    );
    greatest = λ x set free. (
        let few = independent-count a.field (height a) a.cols (entry a) (is_element x) (only_zero-grid a x free) in
        let size = count-is_element a.cols x set in
        omega arith);
  }

  -- so it is never short
  pub plane_not_short : (k : ℕ) → IsRankShort a k → ⊥
  plane_not_short k short = let same = rank_one a k (height a) short.rank plane_rank in let less = short.short in omega arith
