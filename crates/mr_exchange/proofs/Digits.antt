-- A cube that is filled position by position.
use Rattle.std.proofs.Common.{◌≡◌, ℕ, suc, ◌+◌, ◌-◌, ◌/◌, ◌%◌, ◌^◌, ◌<◌, ◌≤◌, List, length, length-set, get_or, set, sym, ap, ◌∙◌, ⊎_elim, subst, arith}
use Rattle.std.proofs.Math.Nat.{pow-le-pow_left, pow-le-pow_right}
use Rattle.std.proofs.lemmas.Bool.{cases_lt}
use Rattle.std.proofs.lemmas.Nat.{mod_below}
use Rattle.std.proofs.lemmas.List.{get_or-set_same, get_or-set_other, get_or-replicate, get_or_past, ext_get_or, length-replicate}
use Rattle.mr_field.specs.Gf.{order}
use Rattle.mr_assign.specs.Assign.{no_values}
use Rattle.mr_assign.specs.declared.TheConstants.{POSITIONS, VALUES}
use Rattle.mr_frame.specs.Frame.{Framed}
use Rattle.mr_exchange.specs.Cubes.{values_at, cube_at, cube_count}
use Rattle.mr_exchange.specs.declared.TheConstants.{SPLIT}
use Rattle.mr_exchange.proofs.CubesInOrder.{few_elements, pow_above, value_at, cube_value, cube_else, length-cube_at}

-- up to eight elements at up to four positions
few_powers : (k n : ℕ) → k ≤ 8 → n ≤ 4 → k ^ n ≤ 4096
few_powers k n low few =
    let a : k ^ n ≤ 8 ^ n = pow-le-pow_left low n in
    let b : 8 ^ n ≤ 8 ^ 4 = pow-le-pow_right {n = 8} (omega arith) few in
    omega arith

-- there are few cubes
pub few_cubes : (f : Framed) (depth : ℕ) → depth ≤ SPLIT → cube_count f depth ≤ 4096
few_cubes f depth few = let e = few_elements f.field in let most = e.1 in few_powers (order f.field - 1) depth (omega arith) few

-- the cube has its values before position p, and the others are those of the rest
pub record IsBegun (k depth c : ℕ) (cube : List ℕ) (rest p left : ℕ) : Type 0 where
  pub positions : length cube ≡ POSITIONS
  pub before : (q : ℕ) → q < p → get_or cube q 0 ≡ get_or (values_at k depth c) q 0
  pub from : (q : ℕ) → p ≤ q → get_or cube q 0 ≡ 0
  pub low : rest < k ^ left
  pub same : (j : ℕ) → j < left → get_or (values_at k depth c) (p + j) 0 ≡ get_or (values_at k left rest) j 0

-- no position has a value
none_at : (q : ℕ) → get_or no_values q 0 ≡ 0
none_at q = ⊎_elim (λ (lt : q < POSITIONS). get_or-replicate {A = ℕ} POSITIONS q 0 0 lt) (λ (le : POSITIONS ≤ q). get_or_past no_values q 0 (omega (arith, length-replicate {A = ℕ} POSITIONS 0))) (cases_lt q POSITIONS)

-- at first there are no values
pub begun_at_first : (k depth c : ℕ) → c < k ^ depth → IsBegun k depth c no_values c 0 (depth - 0)
begun_at_first k depth c lt = record {
  positions = length-replicate {A = ℕ} POSITIONS 0;
  before = λ q l. absurd (omega arith);
  from = λ q l. none_at q;
  low = subst (λ n. c < k ^ n) (let e : depth ≡ depth - 0 = omega arith in e) lt;
  same = λ j l. ap (λ i. get_or (values_at k depth c) i 0) (let e : 0 + j ≡ j = omega arith in e) ∙ ap (λ n. get_or (values_at k n c) j 0) (let e : depth ≡ depth - 0 = omega arith in e);
}

module _ (k depth c : ℕ) (cube : List ℕ) (rest p n : ℕ) (some : 0 < k) (h : IsBegun k depth c cube rest p (suc n)) where
  -- the next value
  pub next_value : get_or (values_at k depth c) p 0 ≡ rest / k ^ n + 1
  unfolding values_at
  next_value = ap (λ i. get_or (values_at k depth c) i 0) (omega arith) ∙ h.same 0 (omega arith)

  -- one more position has a value
  pub begun_further : p < POSITIONS → IsBegun k depth c (set cube p (rest / k ^ n + 1)) (rest % k ^ n) (p + 1) n
  unfolding values_at
  begun_further fits =
      let long : length cube ≡ POSITIONS = h.positions in record {
        positions = length-set cube p (rest / k ^ n + 1) ∙ h.positions;
        before = λ q l. ⊎_elim
            (λ (lt : q < p). get_or-set_other cube p q (rest / k ^ n + 1) 0 (λ e. omega arith) ∙ h.before q lt)
            (λ (le : p ≤ q). (let e : q ≡ p = omega arith in subst (λ i. get_or (set cube p (rest / k ^ n + 1)) i 0 ≡ get_or (values_at k depth c) i 0) (sym e) (get_or-set_same cube p (rest / k ^ n + 1) 0 (omega arith) ∙ sym next_value))) (cases_lt q p);
        from = λ q l. get_or-set_other cube p q (rest / k ^ n + 1) 0 (λ e. omega arith) ∙ h.from q (omega arith);
        low = mod_below rest (k ^ n) (pow_above k n some);
        same = λ j l. ap (λ i. get_or (values_at k depth c) i 0) (let e : p + 1 + j ≡ p + suc j = omega arith in e) ∙ h.same (suc j) (omega arith);
      }

-- at the end it is the cube
pub begun_to_end : (f : Framed) (depth c : ℕ) (cube : List ℕ) (rest p left : ℕ) → depth ≤ POSITIONS → p ≡ depth → IsBegun (order f.field - 1) depth c cube rest p left → cube ≡ cube_at f depth c
begun_to_end f depth c cube rest p left fits end h = ext_get_or 0 cube (cube_at f depth c) (h.positions ∙ sym (length-cube_at f depth c fits)) (λ q l. ⊎_elim
    (λ (lt : q < depth). h.before q (omega arith) ∙ sym (cube_value f depth c q lt))
    (λ (le : depth ≤ q). h.from q (omega arith) ∙ sym (cube_else f depth c q le)) (cases_lt q depth))

module _ (f : Framed) (depth c : ℕ) (cube : List ℕ) (rest p e power : ℕ) (below : p < depth) (lt : c < cube_count f depth) (h : IsBegun (order f.field - 1) depth c cube rest p (depth - p)) (elements : e ≡ order f.field - 1) (power_is : power ≡ e ^ (depth - 1 - p)) where
  -- the power is one of the nonzero elements
  is : power ≡ (order f.field - 1) ^ (depth - 1 - p)
  is = power_is ∙ ap (λ x. x ^ (depth - 1 - p)) elements

  -- the same, with one position taken apart
  one_left : IsBegun (order f.field - 1) depth c cube rest p (suc (depth - 1 - p))
  one_left = subst (IsBegun (order f.field - 1) depth c cube rest p) (let e : depth - p ≡ suc (depth - 1 - p) = omega arith in e) h

  -- the power is not 0
  pub power_above : 0 < power
  power_above = subst (λ x. 0 < x) (sym is) (pow_above (order f.field - 1) (depth - 1 - p) (few_elements f.field).0)

  -- the next value is one of the field
  pub next_fits : rest / power + 1 ≤ VALUES
  next_fits =
      let some = (few_elements f.field).0 in
      let most = (few_elements f.field).1 in
      let value = (value_at (order f.field - 1) depth c p some lt below).1 in
      let e : rest / power + 1 ≡ get_or (values_at (order f.field - 1) depth c) p 0 = ap (λ x. rest / x + 1) is ∙ sym (next_value (order f.field - 1) depth c cube rest p (depth - 1 - p) some one_left) in
      omega arith

  -- one more position has a value
  pub further : p < POSITIONS → IsBegun (order f.field - 1) depth c (set cube p (rest / power + 1)) (rest % power) (p + 1) (depth - (p + 1))
  further fits =
      let next = begun_further (order f.field - 1) depth c cube rest p (depth - 1 - p) (few_elements f.field).0 one_left fits in
      let left : depth - 1 - p ≡ depth - (p + 1) = omega arith in
      subst (λ x. IsBegun (order f.field - 1) depth c (set cube p (rest / x + 1)) (rest % x) (p + 1) (depth - (p + 1))) (sym is)
      (subst (IsBegun (order f.field - 1) depth c (set cube p (rest / (order f.field - 1) ^ (depth - 1 - p) + 1)) (rest % (order f.field - 1) ^ (depth - 1 - p)) (p + 1)) left next)

-- powers of the nonzero elements fit
pub power_fits : (f : Framed) (e n : ℕ) → e ≡ order f.field - 1 → n ≤ SPLIT → e ^ n < 2 ^ 32
power_fits f e n is few = subst (λ x. x ^ n < 2 ^ 32) (sym is) (let low = few_cubes f n few in omega arith)
