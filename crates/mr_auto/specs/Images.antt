-- Images under the automorphism of a to the power of a by the characteristic, entry by entry.
use Rattle.std.specs.Prelude.{◌≡◌, ◌≢◌, ◌↔◌, ℕ, ◌<◌, List, length, map, AllPairs, Contains}
use Rattle.std.specs.declared.cmp.Ordering.{Ordering}
use Rattle.std.specs.declared.cmp.Ordering.TheVariants.{Less}
use Rattle.mr_field.specs.Gf.{Gf, degree, frobenius_times}
use Rattle.mr_set.specs.Subsets.{list_cmp}
use Rattle.mr_linear.specs.Matrix.{Grid, height, entry, grid_of, grid_cmp}

-- the image of an assignment, the automorphism applied k times to every value; 0, which is no value, stays
abbrev pub image : Gf → ℕ → List ℕ → List ℕ
image f k c = map (frobenius_times f k) c

-- the image of a matrix, the automorphism applied k times to every entry
abbrev pub image_of_matrix : ℕ → Grid → Grid
image_of_matrix k g = grid_of g.field (height g) g.cols (λ i j. frobenius_times g.field k (entry g i j))

-- y is one of the images of x for numbers of times below n
abbrev pub IsImageOf : {X : Type 0} → ℕ → (ℕ → X → X) → X → X → Type 0
IsImageOf n image_of x y = (k : ℕ) × (k < n) × (y ≡ image_of k x)

-- an orbit has n members: a list of length n has them all, and none of them twice
pub record HasMembers {X : Type 0} (IsInside : X → Type 0) (n : ℕ) : Type 0 where
  pub members : List X
  pub distinct : AllPairs (λ x y. x ≢ y) members
  pub exactly : (x : X) → Contains members x ↔ IsInside x
  pub size : length members ≡ n

-- no member of an orbit is smaller than x
abbrev pub IsLeastOf : {X : Type 0} → (X → X → Ordering) → (X → Type 0) → X → Type 0
IsLeastOf {X} cmp IsInside x = (y : X) → IsInside y → cmp y x ≢ Less

-- d is in the orbit of c: it is an image of c, for some number of times below the field's degree
abbrev pub IsInOrbit : Gf → List ℕ → List ℕ → Type 0
IsInOrbit f = IsImageOf (degree f) (image f)

-- the orbit of c has n members
abbrev pub HasSize : Gf → List ℕ → ℕ → Type 0
HasSize f c n = HasMembers (IsInOrbit f c) n

-- no member of its orbit is smaller than c
abbrev pub IsLeast : Gf → List ℕ → Type 0
IsLeast f c = IsLeastOf list_cmp (IsInOrbit f c) c

-- h is in the orbit of the matrix g
abbrev pub IsInMatrixOrbit : Grid → Grid → Type 0
IsInMatrixOrbit g = IsImageOf (degree g.field) image_of_matrix g

-- the orbit of the matrix g has n members
abbrev pub HasMatrixSize : Grid → ℕ → Type 0
HasMatrixSize g n = HasMembers (IsInMatrixOrbit g) n

-- no member of its orbit is smaller than the matrix g
abbrev pub IsLeastMatrix : Grid → Type 0
IsLeastMatrix g = IsLeastOf grid_cmp (IsInMatrixOrbit g) g
