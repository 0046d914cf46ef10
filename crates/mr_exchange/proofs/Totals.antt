-- Sums over a list of which one member changes, and how often a number stands in a list.
use Rattle.std.proofs.Common.{◌≡◌, ◌≢◌, ℕ, zero, suc, ◌+◌, ◌<◌, ◌≤◌, min, ◌⊎◌, Bool, true, false, List, [], ◌∷◌, ◌++◌, length, get_or, set, sym, refl, ap, ◌∙◌, inl, inr, ⊎_elim, subst, zero-add, arith, eq-eqb, ne_eqb, lt_of_not-le}
use native.Mathlib.Decide.{dec_le, ℕ_discrete}
use Rattle.std.specs.Prelude.{nat_lt, nat_eq, Contains}
use Rattle.std.proofs.lemmas.Bool.{lt-ltb, le-ltb}
use Rattle.mr_exchange.proofs.Balance.{total, times, one_if, once_below}

-- by whether a is below b
lt_by : (a b : ℕ) (F : Bool → Type 0) → (a < b → F true) → (b ≤ a → F false) → Dec (b ≤ a) → F (nat_lt a b)
lt_by a b F below above (yes h) = subst F (sym (le-ltb a b h)) (above h)
lt_by a b F below above (no h) = subst F (sym (lt-ltb a b (lt_of_not-le h))) (below (lt_of_not-le h))

-- the same, with nothing to decide
pub lt_cases : (a b : ℕ) (F : Bool → Type 0) → (a < b → F true) → (b ≤ a → F false) → F (nat_lt a b)
lt_cases a b F below above = lt_by a b F below above (dec_le b a)

-- by whether two numbers are equal
eq_by : (a b : ℕ) (F : Bool → Type 0) → (a ≡ b → F true) → (a ≢ b → F false) → Dec (a ≡ b) → F (nat_eq a b)
eq_by a b F same apart (yes h) = subst F (sym (eq-eqb a b h)) (same h)
eq_by a b F same apart (no h) = subst F (sym (ne_eqb a b h)) (apart h)

-- the same, with nothing to decide
pub eq_cases : (a b : ℕ) (F : Bool → Type 0) → (a ≡ b → F true) → (a ≢ b → F false) → F (nat_eq a b)
eq_cases a b F same apart = eq_by a b F same apart (ℕ_discrete a b)

-- by whether a flag is set
pub bool_cases : (b : Bool) (F : Bool → Type 0) → (b ≡ true → F true) → (b ≡ false → F false) → F b
bool_cases true F t f = t refl
bool_cases false F t f = f refl

module _ {A : Type 0} where
  -- the sum over two lists
  pub total-append : (f : A → ℕ) (xs ys : List A) → total f (xs ++ ys) ≡ total f xs + total f ys
  total-append f [] ys = sym (zero-add (total f ys))
  total-append f (x ∷ xs) ys = omega (arith, total-append f xs ys)

  -- the sum after a change
  pub total_set : (f : A → ℕ) (xs : List A) (k : ℕ) (w d : A) → k < length xs → total f (set xs k w) + f (get_or xs k d) ≡ total f xs + f w
  total_set f [] k w d lt = absurd (omega arith)
  total_set f (x ∷ xs) zero w d lt = omega arith
  total_set f (x ∷ xs) (suc k) w d lt = omega (arith, total_set f xs k w d (omega arith))

  -- no part is more than the sum
  pub total_at : (f : A → ℕ) (xs : List A) (k : ℕ) (d : A) → k < length xs → f (get_or xs k d) ≤ total f xs
  total_at f [] k d lt = absurd (omega arith)
  total_at f (x ∷ xs) zero d lt = omega arith
  total_at f (x ∷ xs) (suc k) d lt = omega (arith, total_at f xs k d (omega arith))

  -- two different places
  pub total_two : (f : A → ℕ) (xs : List A) (j k : ℕ) (d : A) → j ≢ k → j < length xs → k < length xs → f (get_or xs j d) + f (get_or xs k d) ≤ total f xs
  total_two f [] j k d n a b = absurd (omega arith)
  total_two f (x ∷ xs) zero zero d n a b = absurd (n refl)
  total_two f (x ∷ xs) zero (suc k) d n a b = omega (arith, total_at f xs k d (omega arith))
  total_two f (x ∷ xs) (suc j) zero d n a b = omega (arith, total_at f xs j d (omega arith))
  total_two f (x ∷ xs) (suc j) (suc k) d n a b = omega (arith, total_two f xs j k d (λ h. n (ap suc h)) (omega arith) (omega arith))

  -- a sum of nothing
  pub total_zero : (f : A → ℕ) (xs : List A) (d : A) → ((j : ℕ) → j < length xs → f (get_or xs j d) ≡ 0) → total f xs ≡ 0
  total_zero f [] d h = refl
  total_zero f (x ∷ xs) d h = let a : f x ≡ 0 = h 0 (omega arith) in omega (arith, total_zero f xs d (λ j lt. h (suc j) (omega arith)))

  -- f of all is f of one, where it is 0 of all others
  pub total_only : (f : A → ℕ) (xs : List A) (k : ℕ) (d : A) → k < length xs → ((j : ℕ) → j < length xs → j ≢ k → f (get_or xs j d) ≡ 0) → total f xs ≡ f (get_or xs k d)
  total_only f [] k d lt h = absurd (omega arith)
  total_only f (x ∷ xs) zero d lt h = omega (arith, total_zero f xs d (λ j l. h (suc j) (omega arith) (λ e. omega arith)))
  total_only f (x ∷ xs) (suc k) d lt h =
      let a : f x ≡ 0 = h 0 (omega arith) (λ e. omega arith) in
      omega (arith, total_only f xs k d (omega arith) (λ j l n. h (suc j) (omega arith) (λ e. n (omega arith))))

  -- somewhere f is not 0
  pub total_some : (f : A → ℕ) (xs : List A) (d : A) → 0 < total f xs → (j : ℕ) × (j < length xs) × (0 < f (get_or xs j d))
  total_some f [] d h = absurd (omega arith)
  total_some f (x ∷ xs) d h = here_or_later (f x) refl (λ more. total_some f xs d more)
    where
      here_or_later : (n : ℕ) → f x ≡ n → (0 < total f xs → (j : ℕ) × (j < length xs) × (0 < f (get_or xs j d))) → (j : ℕ) × (j < length (x ∷ xs)) × (0 < f (get_or (x ∷ xs) j d))
      here_or_later zero e later = let r = later (omega arith) in let lt = r.1 in (suc r.0, omega arith, r.2)
      here_or_later (suc n) e later = (0, omega arith, omega arith)

  -- where g of one is g of all, and f is 0 wherever g is, f of that one is f of all
  pub total_alone : (f g : A → ℕ) (xs : List A) (k : ℕ) (d : A) → k < length xs → total g xs ≡ g (get_or xs k d) → ((j : ℕ) → j < length xs → g (get_or xs j d) ≡ 0 → f (get_or xs j d) ≡ 0) → total f xs ≡ f (get_or xs k d)
  total_alone f g xs k d lt all h = total_only f xs k d lt (λ j l n. h j l (let two = total_two g xs j k d n l lt in omega arith))

-- how often a number stands in two lists
pub times-append : (x : ℕ) (ys zs : List ℕ) → times x (ys ++ zs) ≡ times x ys + times x zs
times-append x ys zs = total-append (λ y. one_if (nat_eq y x)) ys zs

-- and in a list with one more
pub times_push : (x : ℕ) (ys : List ℕ) (y : ℕ) → times x (ys ++ y ∷ []) ≡ times x ys + one_if (nat_eq y x)
times_push x ys y = omega (arith, times-append x ys (y ∷ []))

-- what stands in a list does so at least once
contains_at : (ys : List ℕ) (x k : ℕ) → k < length ys → get_or ys k x ≡ x → 0 < times x ys
contains_at [] x k lt e = absurd (omega arith)
contains_at (y ∷ ys) x zero lt e = eq_cases y x (λ b. 0 < one_if b + times x ys) (λ _. omega arith) (λ n. absurd (n e))
contains_at (y ∷ ys) x (suc k) lt e = omega (arith, contains_at ys x k (omega arith) e)

-- what stands in a list is counted there
pub times_of : (ys : List ℕ) (x : ℕ) → Contains ys x → 0 < times x ys
times_of ys x h = contains_at ys x h.0 h.1 h.2

-- x is y, or stands further on
times_uncons : (x y : ℕ) (ys : List ℕ) → 0 < times x (y ∷ ys) → (y ≡ x) ⊎ (0 < times x ys)
times_uncons x y ys = eq_cases y x (λ b. 0 < one_if b + times x ys → (y ≡ x) ⊎ (0 < times x ys)) (λ e h. inl e) (λ n h. inr (omega arith))

-- what is counted stands in the list
pub of_times : (ys : List ℕ) (x : ℕ) → 0 < times x ys → Contains ys x
of_times [] x h = absurd (omega arith)
of_times (y ∷ ys) x h = ⊎_elim (λ (e : y ≡ x). (0, omega arith, e)) (λ (l : 0 < times x ys). let r = of_times ys x l in let lt = r.1 in (suc r.0, omega arith, r.2)) (times_uncons x y ys h)

-- one number more
pub once_more : (x n : ℕ) → once_below x (n + 1) ≡ once_below x n + one_if (nat_eq n x)
once_more x n = lt_cases x n (λ b. once_below x (n + 1) ≡ one_if b + one_if (nat_eq n x))
    (λ h. lt_cases x (n + 1) (λ b. one_if b ≡ 1 + one_if (nat_eq n x)) (λ l. eq_cases n x (λ b. 1 ≡ 1 + one_if b) (λ e. absurd (omega arith)) (λ e. refl)) (λ l. absurd (omega arith)))
    (λ h. eq_cases n x (λ b. once_below x (n + 1) ≡ 0 + one_if b) (λ e. lt_cases x (n + 1) (λ b. one_if b ≡ 0 + 1) (λ l. refl) (λ l. absurd (omega arith))) (λ e. lt_cases x (n + 1) (λ b. one_if b ≡ 0 + 0) (λ l. absurd (e (omega arith))) (λ l. refl)))

-- a number is counted once at most
pub once_at : (x n : ℕ) → once_below x n ≤ 1
once_at x n = lt_cases x n (λ b. one_if b ≤ 1) (λ l. omega arith) (λ l. omega arith)

-- it is not counted where it is not below n
pub once_not : (x n : ℕ) → n ≤ x → once_below x n ≡ 0
once_not x n h = lt_cases x n (λ b. one_if b ≡ 0) (λ l. absurd (omega arith)) (λ l. refl)

-- it is counted where it is
pub once_is : (x n : ℕ) → x < n → once_below x n ≡ 1
once_is x n h = lt_cases x n (λ b. one_if b ≡ 1) (λ l. refl) (λ l. absurd (omega arith))

-- what is counted is below n
pub once_yes : (x n : ℕ) → 0 < once_below x n → x < n
once_yes x n = lt_cases x n (λ b. 0 < one_if b → x < n) (λ l h. l) (λ l h. absurd (omega arith))

-- the next number, where some are left
pub next_one : (word n c : ℕ) (xs : List ℕ) → word < n → times c (xs ++ word ∷ []) + once_below c (min word n) ≡ times c xs + once_below c (min (word + 1) n)
next_one word n c xs lt =
    let b = times_push c xs word in
    let d = once_more c word in
    let m : min word n ≡ word = omega arith in
    let m' : min (word + 1) n ≡ word + 1 = omega arith in
    let r : times c (xs ++ word ∷ []) + once_below c word ≡ times c xs + once_below c (word + 1) = omega arith in
    ap (λ x. times c (xs ++ word ∷ []) + once_below c x) m ∙ r ∙ ap (λ x. times c xs + once_below c x) (sym m')

-- none is left
pub no_more : (word n c : ℕ) (xs : List ℕ) → n ≤ word → times c xs + once_below c (min word n) ≡ times c xs + once_below c (min (word + 1) n)
no_more word n c xs le = let m : min word n ≡ min (word + 1) n = omega arith in ap (λ x. times c xs + once_below c x) m
