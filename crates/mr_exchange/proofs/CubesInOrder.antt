-- What the numbers below the count of cubes give are just the cubes, in lexicographic order.
use Rattle.std.proofs.Common.{◌≡◌, ℕ, zero, suc, ◌+◌, ◌-◌, ◌*◌, ◌/◌, ◌%◌, ◌^◌, ◌<◌, ◌≤◌, ◌⊎◌, List, [], ◌∷◌, ◌++◌, length, take, drop, replicate, get_or, Less, Equal, sym, refl, ap, ◌∙◌, inl, inr, ⊎_elim, subst, arith, lt_of_not-le, pow-suc, div-add-mod', eq-zero-or-pos, mul-pos, nat_cmp, length-append, length-take, length-drop, get_or-take, get_or-drop}
use native.Mathlib.Decide.{dec_le, ℕ_discrete}
use Rattle.std.specs.Ordering.{ordering_then}
use Rattle.std.proofs.lemmas.Nat.{div-mul-add, mod-mul-add, div_below, le-div, mod_below, mul-add-lt}
use Rattle.std.proofs.lemmas.List.{length-replicate, get_or-replicate, get_or_append_left, get_or-append_right, get_or_past, get_or_default, ext_get_or, take-append-drop}
use Rattle.std.proofs.Math.Nat.{pow-zero}
use Rattle.std.proofs.lemmas.Cmp.{nat_cmp_total, tied_itself}
use Rattle.mr_field.specs.Gf.{Gf, order, gf2, gf3, gf4, gf5, gf7, gf8, gf9}
use Rattle.mr_set.specs.Subsets.{list_cmp}
use Rattle.mr_set.proofs.Members.{cmp_from_less}
use Rattle.mr_assign.specs.declared.TheConstants.{POSITIONS, VALUES}
use Rattle.mr_frame.specs.Frame.{Framed, IsFrame}
use Rattle.mr_frame.proofs.Counted.{few_edges}
use Rattle.mr_frame.proofs.Uniqueness.{two_or_more}
use Rattle.mr_exchange.specs.Cubes.{IsCube, cube_count, values_at, cube_at}
use Rattle.mr_exchange.specs.Laws.{CubesAreInOrder}

-- no values
abbrev zeros : ℕ → List ℕ
zeros n = replicate n 0

-- there are as many
length-zeros : (n : ℕ) → length (zeros n) ≡ n
length-zeros n = length-replicate {A = ℕ} n 0

-- a power of a number above 0 is above 0
pub pow_above : (k n : ℕ) → 0 < k → 0 < k ^ n
pow_above k zero some = omega (arith, pow-zero k)
pow_above k (suc n) some = subst (λ x. 0 < x) (sym (pow-suc k n)) (mul-pos (pow_above k n some) some)

-- there are as many values as positions
pub length-values_at : (k n c : ℕ) → length (values_at k n c) ≡ n
unfolding values_at
length-values_at k zero c = refl
length-values_at k (suc n) c = ap suc (length-values_at k n (c % k ^ n))

-- the values are from 1 to k
pub value_at : (k n c p : ℕ) → 0 < k → c < k ^ n → p < n → (0 < get_or (values_at k n c) p 0) × (get_or (values_at k n c) p 0 ≤ k)
unfolding values_at
value_at k zero c p some lt in_range = absurd (omega arith)
value_at k (suc n) c zero some lt in_range =
    let high : c < k * k ^ n = subst (λ x. c < x) (let e = pow-suc k n in omega arith) lt in
    let digit = div_below c (k ^ n) k (pow_above k n some) high in
    (omega arith, omega arith)
value_at k (suc n) c (suc p) some lt in_range = value_at k n (c % k ^ n) p some (mod_below c (k ^ n) (pow_above k n some)) (omega arith)

-- a greater number gives greater values
pub values_rise : (k n b c : ℕ) (us vs : List ℕ) → 0 < k → b < c → c < k ^ n → list_cmp (values_at k n b ++ us) (values_at k n c ++ vs) ≡ Less
unfolding values_at
values_rise k zero b c us vs some less lt = absurd (omega (arith, pow-zero k))
values_rise k (suc n) b c us vs some less lt = by_first (ℕ_discrete (b / k ^ n) (c / k ^ n)) (λ b' c' less' lt'. values_rise k n b' c' us vs some less' lt')
  where
    by_first : Dec (b / k ^ n ≡ c / k ^ n) → ((b' c' : ℕ) → b' < c' → c' < k ^ n → list_cmp (values_at k n b' ++ us) (values_at k n c' ++ vs) ≡ Less)
        → ordering_then (nat_cmp (b / k ^ n + 1) (c / k ^ n + 1)) (list_cmp (values_at k n (b % k ^ n) ++ us) (values_at k n (c % k ^ n) ++ vs)) ≡ Less
    by_first (yes e) later =
        let whole_b = div-add-mod' b (k ^ n) in
        let whole_c = div-add-mod' c (k ^ n) in
        let same : b / k ^ n * k ^ n ≡ c / k ^ n * k ^ n = ap (λ x. x * k ^ n) e in
        let tied : nat_cmp (b / k ^ n + 1) (c / k ^ n + 1) ≡ Equal = ap (λ x. nat_cmp (b / k ^ n + 1) (x + 1)) (sym e) ∙ tied_itself nat_cmp_total (b / k ^ n + 1) in
        ap (λ o. ordering_then o (list_cmp (values_at k n (b % k ^ n) ++ us) (values_at k n (c % k ^ n) ++ vs))) tied
        ∙ later (b % k ^ n) (c % k ^ n) (omega arith) (mod_below c (k ^ n) (pow_above k n some))
    by_first (no d) later =
        let whole_b = div-add-mod' b (k ^ n) in
        let le : b / k ^ n ≤ c / k ^ n = le-div (b / k ^ n) c (k ^ n) (pow_above k n some) (omega arith) in
        ap (λ o. ordering_then o (list_cmp (values_at k n (b % k ^ n) ++ us) (values_at k n (c % k ^ n) ++ vs))) (cmp_from_less (b / k ^ n + 1) (c / k ^ n + 1) (omega arith))

-- values from 1 to k are those of a number
pub values_of : (k n : ℕ) (xs : List ℕ) → 0 < k → length xs ≡ n → ((p : ℕ) → p < n → (0 < get_or xs p 0) × (get_or xs p 0 ≤ k)) → (c : ℕ) × (c < k ^ n) × (xs ≡ values_at k n c)
unfolding values_at
values_of k zero [] some long h = (0, omega (arith, pow-zero k), refl)
values_of k zero (x ∷ xs) some long h = absurd (omega arith)
values_of k (suc n) [] some long h = absurd (omega arith)
values_of k (suc n) (x ∷ xs) some long h =
    let rest = values_of k n xs some (omega arith) (λ p lt. h (suc p) (omega arith)) in
    let first = h 0 (omega arith) in
    let low = rest.1 in
    let c = (x - 1) * k ^ n + rest.0 in
    let high : c < k ^ n * k = mul-add-lt (x - 1) (k ^ n) rest.0 k (omega arith) low in
    let head : c / k ^ n ≡ x - 1 = div-mul-add (x - 1) (k ^ n) rest.0 low in
    let tail : c % k ^ n ≡ rest.0 = mod-mul-add (x - 1) (k ^ n) rest.0 low in
    let is : x ≡ c / k ^ n + 1 = omega arith in
    (c, subst (λ y. c < y) (sym (pow-suc k n)) high, ap (λ y. y ∷ xs) is ∙ ap (λ ys. (c / k ^ n + 1) ∷ ys) (rest.2 ∙ ap (values_at k n) (sym tail)))

-- a field has from 1 to 8 nonzero elements
pub few_elements : (f : Gf) → (0 < order f - 1) × (order f - 1 ≤ VALUES)
few_elements gf2 = (omega arith, omega arith)
few_elements gf3 = (omega arith, omega arith)
few_elements gf4 = (omega arith, omega arith)
few_elements gf5 = (omega arith, omega arith)
few_elements gf7 = (omega arith, omega arith)
few_elements gf8 = (omega arith, omega arith)
few_elements gf9 = (omega arith, omega arith)

-- a frame has no more free positions than a map
pub few_places : (f : Framed) → IsFrame f → length f.places ≤ POSITIONS
few_places f frame = ⊎_elim (λ two. (let none = ap length (frame.none two) in omega arith)) (λ more. few_edges f.matroid f.basis f.places f.forest frame.matroid frame.limits frame.basis.basis (frame.places more)) (two_or_more f.field)

-- a cube's values at its positions
pub cube_value : (f : Framed) (depth c p : ℕ) → p < depth → get_or (cube_at f depth c) p 0 ≡ get_or (values_at (order f.field - 1) depth c) p 0
unfolding cube_at
cube_value f depth c p lt = let k = order f.field - 1 in let long = length-values_at k depth c in get_or_append_left (values_at k depth c) (zeros (POSITIONS - depth)) 0 p (omega arith)

-- and none at the others
pub cube_else : (f : Framed) (depth c p : ℕ) → depth ≤ p → get_or (cube_at f depth c) p 0 ≡ 0
unfolding cube_at
cube_else f depth c p le = get_or-append_right (values_at (order f.field - 1) depth c) (zeros (POSITIONS - depth)) depth p 0 (length-values_at (order f.field - 1) depth c) le ∙ nothing (p - depth)
  where
    nothing : (i : ℕ) → get_or (zeros (POSITIONS - depth)) i 0 ≡ 0
    nothing i = by_length (dec_le (POSITIONS - depth) i)
      where
        by_length : Dec (POSITIONS - depth ≤ i) → get_or (zeros (POSITIONS - depth)) i 0 ≡ 0
        by_length (yes past) = get_or_past (zeros (POSITIONS - depth)) i 0 (let long = length-zeros (POSITIONS - depth) in omega arith)
        by_length (no n) = get_or-replicate {A = ℕ} (POSITIONS - depth) i 0 0 (lt_of_not-le n)

-- a cube is a map of all positions
pub length-cube_at : (f : Framed) (depth c : ℕ) → depth ≤ POSITIONS → length (cube_at f depth c) ≡ POSITIONS
unfolding cube_at
length-cube_at f depth c le = let k = order f.field - 1 in omega (arith, length-append (values_at k depth c) (zeros (POSITIONS - depth)), length-values_at k depth c, length-zeros (POSITIONS - depth))

-- a position has one of the values of the field, or is past the depth and has none
cube_cases : (f : Framed) (depth c p : ℕ) → c < cube_count f depth → ((p < depth) × (0 < get_or (cube_at f depth c) p 0) × (get_or (cube_at f depth c) p 0 ≤ order f.field - 1)) ⊎ ((depth ≤ p) × (get_or (cube_at f depth c) p 0 ≡ 0))
cube_cases f depth c p lt = by_place (dec_le depth p)
  where
    by_place : Dec (depth ≤ p) → ((p < depth) × (0 < get_or (cube_at f depth c) p 0) × (get_or (cube_at f depth c) p 0 ≤ order f.field - 1)) ⊎ ((depth ≤ p) × (get_or (cube_at f depth c) p 0 ≡ 0))
    by_place (yes le) = inr (le, cube_else f depth c p le)
    by_place (no n) =
        let below = lt_of_not-le n in
        let e = cube_value f depth c p below in
        let v = value_at (order f.field - 1) depth c p (few_elements f.field).0 lt below in
        let low = v.0 in
        let high = v.1 in
        inl (below, omega arith, omega arith)

-- each number below the count gives a cube
each_is_cube : (f : Framed) (depth : ℕ) → depth ≤ length f.places → depth ≤ POSITIONS → (c : ℕ) → c < cube_count f depth → IsCube f depth (cube_at f depth c)
each_is_cube f depth few fits c lt = record {
  map = record {
    positions = length-cube_at f depth c fits;
    values = λ p d within. (let same = get_or_default (cube_at f depth c) p d 0 within in let most = few_elements f.field in let top = most.1 in
        ⊎_elim (λ (x : (p < depth) × (0 < get_or (cube_at f depth c) p 0) × (get_or (cube_at f depth c) p 0 ≤ order f.field - 1)). (let v = x.2 in omega arith)) (λ (x : (depth ≤ p) × (get_or (cube_at f depth c) p 0 ≡ 0)). (let v = x.1 in omega arith)) (cube_cases f depth c p lt));
  };
  assignment = λ p some. ⊎_elim (λ (x : (p < depth) × (0 < get_or (cube_at f depth c) p 0) × (get_or (cube_at f depth c) p 0 ≤ order f.field - 1)). (let a = x.0 in let b = x.1 in let v = x.2 in (omega arith, omega arith))) (λ (x : (depth ≤ p) × (get_or (cube_at f depth c) p 0 ≡ 0)). absurd (some x.1)) (cube_cases f depth c p lt);
  just = λ p. (
    (λ some. ⊎_elim (λ (x : (p < depth) × (0 < get_or (cube_at f depth c) p 0) × (get_or (cube_at f depth c) p 0 ≤ order f.field - 1)). x.0) (λ (x : (depth ≤ p) × (get_or (cube_at f depth c) p 0 ≡ 0)). absurd (some x.1)) (cube_cases f depth c p lt)),
    λ below. ⊎_elim (λ (x : (p < depth) × (0 < get_or (cube_at f depth c) p 0) × (get_or (cube_at f depth c) p 0 ≤ order f.field - 1)). (let b = x.1 in λ e. omega arith)) (λ (x : (depth ≤ p) × (get_or (cube_at f depth c) p 0 ≡ 0)). (let a = x.0 in absurd (omega arith))) (cube_cases f depth c p lt),
  );
}

-- each cube is given by a number
cube_is_given : (f : Framed) (depth : ℕ) → depth ≤ POSITIONS → (a : List ℕ) → IsCube f depth a → (c : ℕ) × (c < cube_count f depth) × (a ≡ cube_at f depth c)
unfolding cube_at
cube_is_given f depth fits a cube =
    let k = order f.field - 1 in
    let long = cube.map.positions in
    let front : length (take depth a) ≡ depth = omega (arith, length-take depth a) in
    let given = values_of k depth (take depth a) (few_elements f.field).0 front (λ p lt. (let same = get_or-take depth a p 0 lt in let some = (cube.just p).1 lt in let v = (cube.assignment p some).1 in (omega arith, omega arith))) in
    let back : drop depth a ≡ zeros (POSITIONS - depth) = ext_get_or 0 (drop depth a) (zeros (POSITIONS - depth)) (omega (arith, length-drop depth a, length-zeros (POSITIONS - depth)))
    (λ i lt. get_or-drop depth a i 0 ∙ none (depth + i) (omega arith) ∙ sym (get_or-replicate {A = ℕ} (POSITIONS - depth) i 0 0 (omega (arith, length-drop depth a)))) in
    (given.0, given.1, sym (take-append-drop depth a) ∙ ap (λ xs. xs ++ drop depth a) given.2 ∙ ap (λ ys. values_at k depth given.0 ++ ys) back)
  where
    none : (p : ℕ) → depth ≤ p → get_or a p 0 ≡ 0
    none p le = ⊎_elim (λ (e : get_or a p 0 ≡ 0). e) (λ (some : 0 < get_or a p 0). absurd (let lt = (cube.just p).0 (λ e. omega arith) in omega arith)) (eq-zero-or-pos (get_or a p 0))

-- so the numbers give the cubes in order
pub cubes_are_in_order : CubesAreInOrder
unfolding cube_at
cubes_are_in_order f depth frame few =
    let fits : depth ≤ POSITIONS = omega (arith, few_places f frame) in record {
      each = each_is_cube f depth few fits;
      all = cube_is_given f depth fits;
      order = λ b c less lt. values_rise (order f.field - 1) depth b c (zeros (POSITIONS - depth)) (zeros (POSITIONS - depth)) (few_elements f.field).0 less lt;
    }
