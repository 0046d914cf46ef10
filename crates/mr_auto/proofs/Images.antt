-- Images of lists of elements, and how many different ones there are.
use Rattle.std.proofs.Common.{ℕ, zero, suc, ◌+◌, ◌-◌, ◌<◌, ◌≤◌, ◌≡◌, ◌≢◌, ◌↔◌, List, [], ◌∷◌, length, get_or, map, refl, sym, ap, ap₂, subst, ◌∙◌, ⊎_elim, arith}
use Rattle.std.specs.Prelude.{AllPairs, Contains}
use Rattle.std.specs.List.{range_with_len}
use Rattle.std.specs.declared.cmp.Ordering.TheVariants.{Less}
use Rattle.std.proofs.lemmas.Bool.{cases_lt, cases_eq}
use Rattle.std.proofs.lemmas.Cmp.{nat_list_cmp_total}
use Rattle.std.proofs.lemmas.List.{ext_get_or, length-map}
use Rattle.std.proofs.lemmas.List.FromFn.{length-map-range_with_len, get_or-map-range_with_len}
use Rattle.std.proofs.Math.ListN.{get_or-map}
use Rattle.mr_field.specs.Gf.{Gf, gf2, gf3, gf4, gf5, gf7, gf8, gf9, order, degree, frobenius_times}
use Rattle.mr_field.proofs.Frobenius.{frobenius_times-lt, frobenius_times-degree, frobenius_times-add, frobenius_times-zero, frobenius_times-injective}
use Rattle.mr_set.specs.Subsets.{list_cmp}
use Rattle.mr_set.proofs.Ordered.{not_before_itself}
use Rattle.mr_auto.specs.Images.{image, IsInOrbit, HasSize, IsLeast}

-- each value is an element
abbrev pub HasElements : Gf → List ℕ → Type 0
HasElements f c = (p : ℕ) → get_or c p 0 < order f

-- the value of an image
pub get_or-image : (f : Gf) (k : ℕ) (c : List ℕ) (p : ℕ) → get_or (image f k c) p 0 ≡ frobenius_times f k (get_or c p 0)
get_or-image f k c p = subst (λ (z : ℕ). get_or (map (frobenius_times f k) c) p z ≡ frobenius_times f k (get_or c p 0)) (frobenius_times-zero f k) (get_or-map (frobenius_times f k) c p 0)

-- an image has elements
pub HasElements-image : (f : Gf) (k : ℕ) (c : List ℕ) → HasElements f c → HasElements f (image f k c)
HasElements-image f k c elements p = subst (λ (v : ℕ). v < order f) (sym (get_or-image f k c p)) (frobenius_times-lt f k (get_or c p 0) (elements p))

-- applied no times
pub image-none : (f : Gf) (c : List ℕ) → image f 0 c ≡ c
image-none f [] = refl
image-none f (x ∷ xs) = ap (λ ys. x ∷ ys) (image-none f xs)

-- the image of an image
pub image-image : (f : Gf) (j k : ℕ) (c : List ℕ) → image f j (image f k c) ≡ image f (j + k) c
image-image f j k [] = refl
image-image f j k (x ∷ xs) = ap₂ (λ y ys. y ∷ ys) (frobenius_times-add f j k x) (image-image f j k xs)

-- as many times as the degree says
pub image-degree : (f : Gf) (c : List ℕ) → HasElements f c → image f (degree f) c ≡ c
image-degree f c elements = ext_get_or 0 (image f (degree f) c) c (length-map c (frobenius_times f (degree f)))
    (λ p lt. get_or-image f (degree f) c p ∙ frobenius_times-degree f (get_or c p 0) (elements p))

-- two lists with one image are equal
pub image-injective : (f : Gf) (k : ℕ) (c d : List ℕ) → HasElements f c → HasElements f d → image f k c ≡ image f k d → c ≡ d
image-injective f k c d here there same = ext_get_or 0 c d (sym (length-map c (frobenius_times f k)) ∙ ap length same ∙ length-map d (frobenius_times f k))
    (λ p lt. frobenius_times-injective f k (get_or c p 0) (get_or d p 0) (here p) (there p)
    (sym (get_or-image f k c p) ∙ ap (λ (xs : List ℕ). get_or xs p 0) same ∙ get_or-image f k d p))

-- fields have a positive degree
pub degree_pos : (f : Gf) → 0 < degree f
degree_pos f = degrees f
  where
    degrees : (g : Gf) → 0 < degree g
    degrees gf2 = omega arith
    degrees gf3 = omega arith
    degrees gf4 = omega arith
    degrees gf5 = omega arith
    degrees gf7 = omega arith
    degrees gf8 = omega arith
    degrees gf9 = omega arith

-- a list that comes round after n times
module _ (f : Gf) (c : List ℕ) (n : ℕ) (some : 0 < n) (round : image f n c ≡ c) where
  -- each image is one of the first n
  pub one_of_first : (most k : ℕ) → k ≤ most → (j : ℕ) × (j < n) × (image f k c ≡ image f j c)
  one_of_first zero k le = (k, (omega arith), refl)
  one_of_first (suc most) k le = ⊎_elim
      (λ (lt : k < n). (k, lt, refl))
      (λ (ge : n ≤ k).
      let rest = one_of_first most (k - n) (omega arith) in
      let whole : k ≡ k - n + n = omega arith in
      (rest.0, rest.1, ap (λ i. image f i c) whole ∙ sym (image-image f (k - n) n c) ∙ ap (image f (k - n)) round ∙ rest.2))
      (cases_lt k n)

-- the first n images
abbrev pub first_images : Gf → ℕ → List ℕ → List (List ℕ)
first_images f n c = map (λ k. image f k c) (range_with_len 0 n)

-- their number
pub length-first_images : (f : Gf) (n : ℕ) (c : List ℕ) → length (first_images f n c) ≡ n
length-first_images f n c = length-map-range_with_len (λ k. image f k c) 0 n

-- what stands at a place
pub get_or-first_images : (f : Gf) (n : ℕ) (c : List ℕ) (k : ℕ) (d : List ℕ) → k < n → get_or (first_images f n c) k d ≡ image f k c
get_or-first_images f n c k d lt = get_or-map-range_with_len (λ i. image f i c) 0 n k k d lt (omega arith)

-- a list that comes round after n times, and not before
module _ (f : Gf) (c : List ℕ) (n : ℕ) (elements : HasElements f c) (some : 0 < n) (few : n ≤ degree f) (round : image f n c ≡ c) (first : (j : ℕ) → 0 < j → j < n → image f j c ≢ c) where
  -- the first n images differ
  differ : (i j : ℕ) → i < j → j < n → image f i c ≢ image f j c
  differ i j lt inside same =
      let whole : i + (j - i) ≡ j = omega arith in
      let shifted : image f i (image f (j - i) c) ≡ image f i c = image-image f i (j - i) c ∙ ap (λ k. image f k c) whole ∙ sym same in
      first (j - i) (omega arith) (omega arith) (image-injective f i (image f (j - i) c) c (HasElements-image f (j - i) c elements) elements shifted)

  -- and are the orbit
  pub orbit-first : (d : List ℕ) → Contains (first_images f n c) d ↔ IsInOrbit f c d
  orbit-first d = (
    λ inside.
        let lt : inside.0 < n = let e = length-first_images f n c in let l = inside.1 in omega arith in
        (inside.0, (omega arith), sym inside.2 ∙ get_or-first_images f n c inside.0 d lt),
    λ image_of.
        let j = one_of_first f c n some round image_of.0 image_of.0 (omega arith) in
        (j.0, (let e = length-first_images f n c in let l = j.1 in omega arith), get_or-first_images f n c j.0 d j.1 ∙ sym j.2 ∙ sym image_of.2),
  )

  -- so there are n different images
  pub distinct-first : AllPairs (λ x y. x ≢ y) (first_images f n c)
  distinct-first i j d lt inside same =
      let size = length-first_images f n c in
      differ i j lt (omega arith) (sym (get_or-first_images f n c i d (omega arith)) ∙ same ∙ get_or-first_images f n c j d (omega arith))

  -- the orbit's size
  pub has_size : HasSize f c n
  has_size = record { members = first_images f n c; distinct = distinct-first; exactly = orbit-first; size = length-first_images f n c }

  -- it is least where none of them is smaller
  pub is_least : ((j : ℕ) → 0 < j → j < n → list_cmp (image f j c) c ≢ Less) → IsLeast f c
  is_least none d inside less =
      let j = one_of_first f c n some round inside.0 inside.0 (omega arith) in
      let is : d ≡ image f j.0 c = inside.2 ∙ j.2 in
      let below : list_cmp (image f j.0 c) c ≡ Less = subst (λ (x : List ℕ). list_cmp x c ≡ Less) is less in
      ⊎_elim
      (λ (start : j.0 ≡ 0). not_before_itself nat_list_cmp_total c (subst (λ (x : List ℕ). list_cmp x c ≡ Less) (ap (λ i. image f i c) start ∙ image-none f c) below))
      (λ (later : j.0 ≢ 0). none j.0 (omega arith) j.1 below)
      (cases_eq j.0 0)
