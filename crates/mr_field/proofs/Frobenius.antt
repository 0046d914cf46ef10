-- The map of a to the power of a by the characteristic: it keeps sums and products, and comes round after as many times as the degree says.
use Rattle.std.proofs.Common.{ℕ, zero, suc, ◌+◌, ◌<◌, ◌≡◌, true, refl, sym, ap, ◌∙◌, zero-add, suc-add}
use Rattle.mr_field.specs.Gf.{Gf, gf2, gf3, gf4, gf5, gf7, gf8, gf9, order, characteristic, degree, add, mul, norm, power, frobenius, frobenius_times}
use Rattle.mr_field.proofs.Tables.{same_one, same_two, same_one_at, same_two_at}
use Rattle.mr_field.proofs.Laws.{norm-lt, add-norm_left, add-norm_right, mul-norm_left, mul-norm_right, mul-lt}

-- powers go by remainders
power-norm : (f : Gf) (a k : ℕ) → power f (norm f a) k ≡ power f a k
unfolding power
power-norm f a zero = refl
power-norm f a (suc k) = ap (mul f (norm f a)) (power-norm f a k) ∙ mul-norm_left f a (power f a k)

-- so does the map
pub frobenius-norm : (f : Gf) (a : ℕ) → frobenius f (norm f a) ≡ frobenius f a
frobenius-norm f a = power-norm f a (characteristic f)

-- a power that is not by 0 is an element
power-lt : (f : Gf) (a k : ℕ) → power f a (suc k) < order f
unfolding power
power-lt f a k = mul-lt f a (power f a k)

-- so what the map gives is an element
pub frobenius-lt : (f : Gf) (a : ℕ) → frobenius f a < order f
frobenius-lt gf2 a = power-lt gf2 a 1
frobenius-lt gf3 a = power-lt gf3 a 2
frobenius-lt gf4 a = power-lt gf4 a 1
frobenius-lt gf5 a = power-lt gf5 a 4
frobenius-lt gf7 a = power-lt gf7 a 6
frobenius-lt gf8 a = power-lt gf8 a 1
frobenius-lt gf9 a = power-lt gf9 a 2

-- sums, products, 0 and 1 are kept, and the map comes round, at all elements
map_table : (f : Gf) → (same_two (order f) (λ a b. frobenius f (add f a b)) (λ a b. add f (frobenius f a) (frobenius f b)) ≡ true)
    × (same_two (order f) (λ a b. frobenius f (mul f a b)) (λ a b. mul f (frobenius f a) (frobenius f b)) ≡ true)
    × (same_one (order f) (λ a. frobenius_times f (degree f) a) (λ a. a) ≡ true)
    × (frobenius f 0 ≡ 0)
    × (frobenius f 1 ≡ 1)
unfolding add mul power
map_table gf2 = (refl, refl, refl, refl, refl)
map_table gf3 = (refl, refl, refl, refl, refl)
map_table gf4 = (refl, refl, refl, refl, refl)
map_table gf5 = (refl, refl, refl, refl, refl)
map_table gf7 = (refl, refl, refl, refl, refl)
map_table gf8 = (refl, refl, refl, refl, refl)
map_table gf9 = (refl, refl, refl, refl, refl)

-- the map keeps 0
pub frobenius-zero : (f : Gf) → frobenius f 0 ≡ 0
frobenius-zero f = (map_table f).3

-- and 1
pub frobenius-one : (f : Gf) → frobenius f 1 ≡ 1
frobenius-one f = (map_table f).4

-- sums are kept
pub frobenius-add : (f : Gf) (a b : ℕ) → frobenius f (add f a b) ≡ add f (frobenius f a) (frobenius f b)
frobenius-add f a b =
    let e : frobenius f (add f (norm f a) (norm f b)) ≡ add f (frobenius f (norm f a)) (frobenius f (norm f b)) =
    same_two_at (order f) (λ x y. frobenius f (add f x y)) (λ x y. add f (frobenius f x) (frobenius f y)) (map_table f).0 (norm f a) (norm f b) (norm-lt f a) (norm-lt f b) in
    let left : add f (norm f a) (norm f b) ≡ add f a b = add-norm_left f a (norm f b) ∙ add-norm_right f a b in
    ap (frobenius f) (sym left) ∙ e ∙ ap (λ x. add f x (frobenius f (norm f b))) (frobenius-norm f a) ∙ ap (add f (frobenius f a)) (frobenius-norm f b)

-- products are kept
pub frobenius-mul : (f : Gf) (a b : ℕ) → frobenius f (mul f a b) ≡ mul f (frobenius f a) (frobenius f b)
frobenius-mul f a b =
    let e : frobenius f (mul f (norm f a) (norm f b)) ≡ mul f (frobenius f (norm f a)) (frobenius f (norm f b)) =
    same_two_at (order f) (λ x y. frobenius f (mul f x y)) (λ x y. mul f (frobenius f x) (frobenius f y)) (map_table f).1 (norm f a) (norm f b) (norm-lt f a) (norm-lt f b) in
    let left : mul f (norm f a) (norm f b) ≡ mul f a b = mul-norm_left f a (norm f b) ∙ mul-norm_right f a b in
    ap (frobenius f) (sym left) ∙ e ∙ ap (λ x. mul f x (frobenius f (norm f b))) (frobenius-norm f a) ∙ ap (mul f (frobenius f a)) (frobenius-norm f b)

-- as many times as the degree says the map is the identity
pub frobenius_times-degree : (f : Gf) (a : ℕ) → a < order f → frobenius_times f (degree f) a ≡ a
frobenius_times-degree f a lt = same_one_at (order f) (λ x. frobenius_times f (degree f) x) (λ x. x) (map_table f).2 a lt

-- elements stay elements
pub frobenius_times-lt : (f : Gf) (k a : ℕ) → a < order f → frobenius_times f k a < order f
frobenius_times-lt f zero a lt = lt
frobenius_times-lt f (suc k) a lt = frobenius-lt f (frobenius_times f k a)

-- the map, k times and then j times
pub frobenius_times-add : (f : Gf) (j k a : ℕ) → frobenius_times f j (frobenius_times f k a) ≡ frobenius_times f (j + k) a
frobenius_times-add f zero k a = ap (λ n. frobenius_times f n a) (sym (zero-add k))
frobenius_times-add f (suc j) k a = ap (frobenius f) (frobenius_times-add f j k a) ∙ ap (λ n. frobenius_times f n a) (sym (suc-add j k))

-- what is left of the degree after one time
abbrev pub rest : Gf → ℕ
rest gf2 = 0
rest gf3 = 0
rest gf4 = 1
rest gf5 = 0
rest gf7 = 0
rest gf8 = 2
rest gf9 = 1

-- the map is undone by the times that are left
pub frobenius_times-frobenius : (f : Gf) (a : ℕ) → a < order f → frobenius_times f (rest f) (frobenius f a) ≡ a
frobenius_times-frobenius f a lt = frobenius_times-add f (rest f) 1 a ∙ ap (λ n. frobenius_times f n a) (whole f) ∙ frobenius_times-degree f a lt
  where
    whole : (g : Gf) → rest g + 1 ≡ degree g
    whole gf2 = refl
    whole gf3 = refl
    whole gf4 = refl
    whole gf5 = refl
    whole gf7 = refl
    whole gf8 = refl
    whole gf9 = refl

-- so no two elements have one image
pub frobenius-injective : (f : Gf) (a b : ℕ) → a < order f → b < order f → frobenius f a ≡ frobenius f b → a ≡ b
frobenius-injective f a b l m same = sym (frobenius_times-frobenius f a l) ∙ ap (frobenius_times f (rest f)) same ∙ frobenius_times-frobenius f b m

-- 0 stays 0, however often the map is made
pub frobenius_times-zero : (f : Gf) (k : ℕ) → frobenius_times f k 0 ≡ 0
frobenius_times-zero f zero = refl
frobenius_times-zero f (suc k) = ap (frobenius f) (frobenius_times-zero f k) ∙ frobenius-zero f

-- so does 1
pub frobenius_times-one : (f : Gf) (k : ℕ) → frobenius_times f k 1 ≡ 1
frobenius_times-one f zero = refl
frobenius_times-one f (suc k) = ap (frobenius f) (frobenius_times-one f k) ∙ frobenius-one f

-- two elements with one such image are equal
pub frobenius_times-injective : (f : Gf) (k a b : ℕ) → a < order f → b < order f → frobenius_times f k a ≡ frobenius_times f k b → a ≡ b
frobenius_times-injective f zero a b l m same = same
frobenius_times-injective f (suc k) a b l m same =
    frobenius_times-injective f k a b l m
    (frobenius-injective f (frobenius_times f k a) (frobenius_times f k b) (frobenius_times-lt f k a l) (frobenius_times-lt f k b m) same)
