-- How long lists are whose members are known, each by how often it stands there.
use Rattle.std.proofs.Common.{◌≡◌, ℕ, zero, suc, ◌+◌, ◌<◌, ◌≤◌, cond, nat_eq, ◌==◌, List, [], ◌∷◌, length, get_or, sum_by, count_by, sym, refl, ap, ◌∙◌, arith}
use Rattle.std.proofs.lemmas.List.Recursion.{is_sum_by}
use Rattle.mr_exchange.proofs.Balance.{total, times, one_if, once_below}
use Rattle.mr_exchange.proofs.Totals.{eq_cases, once_is}

-- the sum of f over the numbers below n
abbrev pub sum_to : ℕ → (ℕ → ℕ) → ℕ
sum_to zero f = 0
sum_to (suc n) f = sum_to n f + f n

-- the sum is told by the values below n
pub sum_to_same : (n : ℕ) (f g : ℕ → ℕ) → ((k : ℕ) → k < n → f k ≡ g k) → sum_to n f ≡ sum_to n g
sum_to_same zero f g h = refl
sum_to_same (suc n) f g h = let a = sum_to_same n f g (λ k lt. h k (omega arith)) in let b = h n (omega arith) in omega arith

-- the sum of two
pub sum_to-add : (n : ℕ) (f g : ℕ → ℕ) → sum_to n (λ k. f k + g k) ≡ sum_to n f + sum_to n g
sum_to-add zero f g = refl
sum_to-add (suc n) f g = omega (arith, sum_to-add n f g)

-- the first number taken apart
pub sum_to-front : (n : ℕ) (f : ℕ → ℕ) → sum_to (suc n) f ≡ f 0 + sum_to n (λ k. f (k + 1))
sum_to-front zero f = omega arith
sum_to-front (suc n) f = let a = sum_to-front n f in let b : f (suc n) ≡ f (n + 1) = ap f (omega arith) in omega arith

-- of nothing
sum_to_zero : (n : ℕ) → sum_to n (λ k. 0) ≡ 0
sum_to_zero zero = refl
sum_to_zero (suc n) = omega (arith, sum_to_zero n)

-- of ones
pub sum_to_ones : (n : ℕ) → sum_to n (λ k. 1) ≡ n
sum_to_ones zero = refl
sum_to_ones (suc n) = omega (arith, sum_to_ones n)

-- one number is counted once, at its place
sum_to_past : (n y : ℕ) → n ≤ y → sum_to n (λ k. one_if (nat_eq y k)) ≡ 0
sum_to_past zero y le = refl
sum_to_past (suc n) y le = let a = sum_to_past n y (omega arith) in let b : one_if (nat_eq y n) ≡ 0 = eq_cases y n (λ b. one_if b ≡ 0) (λ e. absurd (omega arith)) (λ e. refl) in omega arith

-- and once where it is below n
sum_to_one : (n y : ℕ) → y < n → sum_to n (λ k. one_if (nat_eq y k)) ≡ 1
sum_to_one zero y lt = absurd (omega arith)
sum_to_one (suc n) y lt = eq_cases y n (λ b. sum_to n (λ k. one_if (nat_eq y k)) + one_if b ≡ 1)
    (λ e. (let a = sum_to_past n y (omega arith) in omega arith)) (λ d. (let a = sum_to_one n y (omega arith) in omega arith))

-- a list of numbers below n is as long as the numbers below n stand in it
pub length-times : (n : ℕ) (ys : List ℕ) → ((y : ℕ) → 0 < times y ys → y < n) → length ys ≡ sum_to n (λ k. times k ys)
length-times n [] h = sym (sum_to_zero n)
length-times n (y ∷ ys) h =
    let here : y < n = h y (eq_cases y y (λ b. 0 < one_if b + times y ys) (λ e. omega arith) (λ d. absurd (d refl))) in
    let rest = length-times n ys (λ z some. h z (omega arith)) in
    let both = sum_to-add n (λ k. one_if (nat_eq y k)) (λ k. times k ys) in
    let one = sum_to_one n y here in
    omega arith

module _ {A : Type 0} where
  -- the sum of two
  pub total-add : (f g : A → ℕ) (xs : List A) → total (λ x. f x + g x) xs ≡ total f xs + total g xs
  total-add f g [] = refl
  total-add f g (x ∷ xs) = omega (arith, total-add f g xs)

  -- the sum is told by the values at the places
  pub total_same : (f g : A → ℕ) (xs : List A) (d : A) → ((j : ℕ) → j < length xs → f (get_or xs j d) ≡ g (get_or xs j d)) → total f xs ≡ total g xs
  total_same f g [] d h = refl
  total_same f g (x ∷ xs) d h = let a : f x ≡ g x = h 0 (omega arith) in let b = total_same f g xs d (λ j lt. h (suc j) (omega arith)) in omega arith

  -- of nothing
  total_nothing : (xs : List A) → total (λ x. 0) xs ≡ 0
  total_nothing [] = refl
  total_nothing (x ∷ xs) = omega (arith, total_nothing xs)

  -- of ones
  pub total_ones : (xs : List A) → total (λ x. 1) xs ≡ length xs
  total_ones [] = refl
  total_ones (x ∷ xs) = omega (arith, total_ones xs)

  -- sums in either order
  pub total-sum_to : (n : ℕ) (f : ℕ → A → ℕ) (xs : List A) → total (λ x. sum_to n (λ k. f k x)) xs ≡ sum_to n (λ k. total (f k) xs)
  total-sum_to zero f xs = total_nothing xs
  total-sum_to (suc n) f xs = let a = total-add (λ x. sum_to n (λ k. f k x)) (f n) xs in let b = total-sum_to n f xs in omega arith

  -- a sum over a list by its places
  pub total_by_place : (f : A → ℕ) (xs : List A) (d : A) → total f xs ≡ sum_to (length xs) (λ k. f (get_or xs k d))
  total_by_place f [] d = refl
  total_by_place f (x ∷ xs) d =
      let a = sum_to-front (length xs) (λ k. f (get_or (x ∷ xs) k d)) in
      let b = total_by_place f xs d in
      let c = sum_to_same (length xs) (λ k. f (get_or (x ∷ xs) (k + 1) d)) (λ k. f (get_or xs k d)) (λ k lt. ap (λ i. f (get_or (x ∷ xs) i d)) (let e : k + 1 ≡ suc k = omega arith in e)) in
      omega arith

  -- lists in which the numbers below n stand once, all taken together, have n members
  pub count_all : (have : A → List ℕ) (xs : List A) (d : A) (n : ℕ) → ((c : ℕ) → total (λ x. times c (have x)) xs ≡ once_below c n) → ((j c : ℕ) → j < length xs → 0 < times c (have (get_or xs j d)) → c < n) → total (λ x. length (have x)) xs ≡ n
  count_all have xs d n once below =
      let a = total_same (λ x. length (have x)) (λ x. sum_to n (λ c. times c (have x))) xs d (λ j lt. length-times n (have (get_or xs j d)) (λ c some. below j c lt some)) in
      let b = total-sum_to n (λ c x. times c (have x)) xs in
      let e = sum_to_same n (λ c. total (λ x. times c (have x)) xs) (λ c. 1) (λ c lt. once c ∙ once_is c n lt) in
      let f = sum_to_ones n in
      a ∙ b ∙ e ∙ f

  -- the sum as std has it
  pub total-sum_by : (f : A → ℕ) (xs : List A) → total f xs ≡ sum_by f xs
  total-sum_by f xs = is_sum_by (total f) f refl (λ x ys. refl) xs

-- and how often a number stands in a list
pub times-count : (c : ℕ) (xs : List ℕ) → times c xs ≡ count_by (λ x. x == c) xs
times-count c xs = is_sum_by (times c) (λ x. cond (x == c) 1 0) refl (λ x ys. refl) xs
