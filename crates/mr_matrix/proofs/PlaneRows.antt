-- The rows of a plane, as they are made.
use Rattle.std.proofs.Common.{◌≡◌, ℕ, zero, suc, ◌+◌, ◌*◌, ◌<◌, ◌≤◌, Bool, true, List, [], ◌∷◌, ◌++◌, length, set, refl, sym, ap, subst, ◌∙◌, arith}
use Rattle.std.specs.Prelude.{All, nat_lt}
use Rattle.std.proofs.lemmas.Bool.Decides.{Decides-ltb}
use Rattle.std.proofs.lemmas.List.{length-set}
use Rattle.mr_field.specs.Gf.{Gf, gf2, gf3, gf4, gf5, gf7, gf8, gf9, order}
use Rattle.mr_linear.specs.Matrix.{Grid, IsGrid, height, listed, grid_of}
use Rattle.mr_linear.proofs.Grids.{height-grid_of, length-listed, get_or-listed}
use Rattle.mr_matrix.specs.Block.{grid_with}
use Rattle.mr_matrix.specs.Plane.{IsPlane}
use Rattle.mr_matrix.specs.Private.Points.{coordinate, point_count}
use Rattle.mr_matrix.proofs.PlanePoints.{all_below, at_below, plane, plane_is}

-- one value more
pub listed-push : (i n : ℕ) (t : ℕ → ℕ) → listed i (n + 1) t ≡ listed i n t ++ t (i + n) ∷ []
unfolding listed
listed-push i zero t = ap (λ k. t k ∷ []) (let e : i ≡ i + 0 = omega arith in e)
listed-push i (suc n) t =
    ap (λ k. listed i k t) (let e : suc n + 1 ≡ suc (n + 1) = omega arith in e)
    ∙ ap (λ w. t i ∷ w) (listed-push (i + 1) n t ∙ ap (λ k. listed (i + 1) n t ++ t k ∷ []) (let e : i + 1 + n ≡ i + suc n = omega arith in e))

-- a plane has at most 31 points
pub few_points : (q : ℕ) → q ≤ 5 → (q * q ≤ 25) × (q * q + q + 1 ≤ 31)
few_points zero le = (omega arith, omega arith)
few_points (suc zero) le = (omega arith, omega arith)
few_points (suc (suc zero)) le = (omega arith, omega arith)
few_points (suc (suc (suc zero))) le = (omega arith, omega arith)
few_points (suc (suc (suc (suc zero)))) le = (omega arith, omega arith)
few_points (suc (suc (suc (suc (suc zero))))) le = (omega arith, omega arith)
few_points (suc (suc (suc (suc (suc (suc q)))))) le = absurd (omega arith)

-- the test whether all coordinates are elements
are_small : ℕ → Bool
are_small q = all_below 3 (λ i. all_below (point_count q) (λ j. nat_lt (coordinate q i j) q))

-- they are
small_test : (f : Gf) → order f ≤ 5 → are_small (order f) ≡ true
unfolding are_small all_below
small_test gf2 le = refl
small_test gf3 le = refl
small_test gf4 le = refl
small_test gf5 le = refl
small_test gf7 le = absurd (omega arith)
small_test gf8 le = absurd (omega arith)
small_test gf9 le = absurd (omega arith)

-- each coordinate is an element
pub coordinate_small : (f : Gf) (i j : ℕ) → order f ≤ 5 → i < 3 → j < point_count (order f) → coordinate (order f) i j < order f
unfolding are_small
coordinate_small f i j le li lj =
    let at_i = at_below 3 (λ k. all_below (point_count (order f)) (λ l. nat_lt (coordinate (order f) k l) (order f))) (small_test f le) i li in
    (Decides-ltb (coordinate (order f) i j) (order f)).0 (at_below (point_count (order f)) (λ l. nat_lt (coordinate (order f) i l) (order f)) at_i j lj)

-- so are those of a row
pub row_small : (f : Gf) (i : ℕ) (row : List ℕ) → order f ≤ 5 → i < 3 → row ≡ listed 0 (point_count (order f)) (coordinate (order f) i) → All (λ v. v < order f) row
row_small f i row le li is = subst (All (λ v. v < order f)) (sym is) (λ k d l.
    let long = length-listed 0 (point_count (order f)) (coordinate (order f) i) in
    subst (λ v. v < order f) (sym (get_or-listed 0 (point_count (order f)) (coordinate (order f) i) k d (omega arith))) (subst (λ j. coordinate (order f) i j < order f) (let e : k ≡ 0 + k = omega arith in e) (coordinate_small f i k le li (omega arith))))

-- a row's length
pub row_long : (q i : ℕ) (row : List ℕ) → row ≡ listed 0 (point_count q) (coordinate q i) → length row ≡ point_count q
row_long q i row is = ap length is ∙ length-listed 0 (point_count q) (coordinate q i)

-- three rows in the place of three others
three_rows : (rows : List (List ℕ)) (x y z : List ℕ) → length rows ≡ 3 → set (set (set rows 0 x) 1 y) 2 z ≡ x ∷ y ∷ z ∷ []
three_rows [] x y z size = absurd (omega arith)
three_rows (a ∷ []) x y z size = absurd (omega arith)
three_rows (a ∷ b ∷ []) x y z size = absurd (omega arith)
three_rows (a ∷ b ∷ c ∷ []) x y z size = refl
three_rows (a ∷ b ∷ c ∷ d ∷ rows) x y z size = absurd (omega arith)

-- the matrix after three rows were written
pub plane_made : (f : Gf) (q n : ℕ) (a0 a1 a2 a3 : Grid) (x y z : List ℕ) → q ≡ order f → n ≡ point_count q → a0 ≡ grid_of f 3 n (λ _ _. 0) → a1 ≡ grid_with a0.field a0.cols (set a0.rows 0 x) → a2 ≡ grid_with a1.field a1.cols (set a1.rows 1 y) → a3 ≡ grid_with a2.field a2.cols (set a2.rows 2 z)
    → x ≡ listed 0 (point_count q) (coordinate q 0) → y ≡ listed 0 (point_count q) (coordinate q 1) → z ≡ listed 0 (point_count q) (coordinate q 2) → a3 ≡ plane f
plane_made f q n a0 a1 a2 a3 x y z order_is count zeros first second third is_x is_y is_z =
    third ∙ ap (λ (a : Grid). grid_with a.field a.cols (set a.rows 2 z)) second ∙ ap (λ (a : Grid). grid_with a.field a.cols (set (set a.rows 1 y) 2 z)) first
    ∙ ap (grid_with a0.field a0.cols) (three_rows a0.rows x y z (ap (λ (a : Grid). length a.rows) zeros ∙ height-grid_of f 3 n (λ _ _. 0)))
    ∙ ap (λ (a : Grid). grid_with a.field a.cols (x ∷ y ∷ z ∷ [])) zeros
    ∙ ap (λ k. grid_with f k (x ∷ y ∷ z ∷ [])) (count ∙ ap point_count order_is)
    ∙ ap (λ w. grid_with f (point_count (order f)) (w ∷ y ∷ z ∷ [])) (is_x ∙ ap (λ k. listed 0 (point_count k) (coordinate k 0)) order_is)
    ∙ ap (λ w. grid_with f (point_count (order f)) (listed 0 (point_count (order f)) (coordinate (order f) 0) ∷ w ∷ z ∷ [])) (is_y ∙ ap (λ k. listed 0 (point_count k) (coordinate k 1)) order_is)
    ∙ ap (λ w. grid_with f (point_count (order f)) (listed 0 (point_count (order f)) (coordinate (order f) 0) ∷ listed 0 (point_count (order f)) (coordinate (order f) 1) ∷ w ∷ [])) (is_z ∙ ap (λ k. listed 0 (point_count k) (coordinate k 2)) order_is)

-- is the plane
pub is_plane : (f : Gf) (a : Grid) → order f ≤ 5 → IsGrid a → a ≡ plane f → IsPlane f a
is_plane f a le grid is = subst (IsPlane f) (sym is) (plane_is f le (subst IsGrid is grid))

-- the shape of the matrix while its rows are written
pub written_shape : (f : Gf) (n i : ℕ) (a b : Grid) (row : List ℕ) → (a.field ≡ f) × (a.cols ≡ n) × (height a ≡ 3) → b ≡ grid_with a.field a.cols (set a.rows i row) → (b.field ≡ f) × (b.cols ≡ n) × (height b ≡ 3)
written_shape f n i a b row shape is = subst (λ (g : Grid). (g.field ≡ f) × (g.cols ≡ n) × (height g ≡ 3)) (sym is) (shape.0, shape.1, length-set a.rows i row ∙ shape.2)

-- and of the matrix of zeros
pub zeros_shape : (f : Gf) (n : ℕ) (a : Grid) → a ≡ grid_of f 3 n (λ _ _. 0) → (a.field ≡ f) × (a.cols ≡ n) × (height a ≡ 3)
zeros_shape f n a is = subst (λ (g : Grid). (g.field ≡ f) × (g.cols ≡ n) × (height g ≡ 3)) (sym is) (refl, refl, height-grid_of f 3 n (λ _ _. 0))

-- none
pub listed-none : (i : ℕ) (t : ℕ → ℕ) → listed i 0 t ≡ []
unfolding listed
listed-none i t = refl

-- a row fits the matrix
pub row_on_grid : (f : Gf) (q i : ℕ) (row : List ℕ) (a : Grid) → q ≡ order f → order f ≤ 5 → i < 3 → row ≡ listed 0 (point_count q) (coordinate q i) → (a.field ≡ f) × (a.cols ≡ point_count q) × (height a ≡ 3) → (length row ≡ a.cols) × All (λ v. v < order a.field) row
row_on_grid f q i row a same le li is shape = (
  row_long q i row is ∙ sym shape.1,
  subst (λ g. All (λ v. v < order g) row) (sym shape.0) (row_small f i row le li (is ∙ ap (λ k. listed 0 (point_count k) (coordinate k i)) same)),
)

-- the next coordinate
pub coordinates_on : (q i j v : ℕ) (list longer : List ℕ) → list ≡ listed 0 j (coordinate q i) → length list ≡ j → v ≡ coordinate q i j → longer ≡ list ++ v ∷ [] → (longer ≡ listed 0 (j + 1) (coordinate q i)) × (length longer ≡ j + 1)
coordinates_on q i j v list longer are long is pushed =
    let all = pushed ∙ ap (λ w. w ++ v ∷ []) are ∙ ap (λ u. listed 0 j (coordinate q i) ++ u ∷ []) (is ∙ ap (coordinate q i) (let e : j ≡ 0 + j = omega arith in e)) ∙ sym (listed-push 0 j (coordinate q i)) in
    (all, ap length all ∙ length-listed 0 (j + 1) (coordinate q i))
