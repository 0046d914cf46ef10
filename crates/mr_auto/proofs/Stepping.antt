-- An image is made value by value, two lists are compared number by number, and images are made one after another.
use Rattle.std.proofs.Common.{ℕ, ◌+◌, ◌-◌, ◌<◌, ◌≤◌, ◌≡◌, ◌≢◌, ◌⊎◌, List, [], ◌++◌, length, get_or, set, refl, sym, ap, subst, ◌∙◌, ⊎_elim, arith, get_or-set_other, get_or-set_same}
use Rattle.std.specs.Ordering.{ordering_reverse}
use Rattle.std.specs.declared.cmp.Ordering.TheVariants.{Less, Equal, Greater}
use Rattle.std.proofs.Math.ListN.{length-set}
use Rattle.std.proofs.lemmas.Bool.{cases_eq, cases_lt}
use Rattle.std.proofs.lemmas.Cmp.{nat_list_cmp_total, tied_itself}
use Rattle.std.proofs.lemmas.List.{ext_get_or, length-map}
use Rattle.mr_field.specs.Gf.{Gf, order, degree, frobenius}
use Rattle.mr_field.proofs.Laws.{order_pos}
use Rattle.mr_field.proofs.Frobenius.{frobenius-zero, frobenius-injective, frobenius_times-zero}
use Rattle.mr_set.specs.Subsets.{list_cmp}
use Rattle.mr_matroid.proofs.Walk.{compare}
use Rattle.mr_class.proofs.InOrder.{less_at}
use Rattle.mr_auto.specs.Images.{image, HasSize, IsLeast}
use Rattle.mr_auto.proofs.Images.{HasElements, get_or-image, HasElements-image, image-none, image-image, has_size, is_least}

-- the values before place p are images, and the others those of a
pub record IsImagedTo (f : Gf) (a b : List ℕ) (p : ℕ) : Type 0 where
  pub size : length b ≡ length a
  pub below : (k : ℕ) → k < p → get_or b k 0 ≡ frobenius f (get_or a k 0)
  pub above : (k : ℕ) → p ≤ k → get_or b k 0 ≡ get_or a k 0

-- the image of an element that is not 0 is not 0
pub image_nonzero : (f : Gf) (a : ℕ) → a < order f → (v : ℕ) → v ≡ frobenius f a → a ≢ 0 → v ≢ 0
image_nonzero f a lt v is some none = some (frobenius-injective f a 0 lt (order_pos f) (sym is ∙ none ∙ sym (frobenius-zero f)))

-- at the start none is
pub imaged_none : (f : Gf) (a : List ℕ) → IsImagedTo f a a 0
imaged_none f a = record { size = refl; below = λ k lt. absurd (omega arith); above = λ k le. refl }

-- the value at the place is replaced
pub imaged_with : (f : Gf) (a b : List ℕ) (p v : ℕ) → IsImagedTo f a b p → p < length a → v ≡ frobenius f (get_or a p 0) → IsImagedTo f a (set b p v) (p + 1)
imaged_with f a b p v h lt is = record {
  size = length-set b p v ∙ h.size;
  below = λ k less. ⊎_elim
      (λ (same : k ≡ p).
      let inside : p < length b = let e = h.size in omega arith in
      ap (λ i. get_or (set b p v) i 0) same ∙ get_or-set_same b p v 0 inside ∙ is ∙ ap (λ i. frobenius f (get_or a i 0)) (sym same))
      (λ (other : k ≢ p). get_or-set_other b p k v 0 other ∙ h.below k (omega arith))
      (cases_eq k p);
  above = λ k le. get_or-set_other b p k v 0 (λ (same : k ≡ p). absurd (omega arith)) ∙ h.above k (omega arith);
}

-- where there is no value, it stays
pub imaged_without : (f : Gf) (a b : List ℕ) (p : ℕ) → IsImagedTo f a b p → get_or a p 0 ≡ 0 → IsImagedTo f a b (p + 1)
imaged_without f a b p h none = record {
  size = h.size;
  below = λ k less. ⊎_elim
      (λ (same : k ≡ p). ap (λ i. get_or b i 0) same ∙ h.above p (omega arith) ∙ none ∙ sym (frobenius_times-zero f 1) ∙ ap (frobenius f) (sym none) ∙ ap (λ i. frobenius f (get_or a i 0)) (sym same))
      (λ (other : k ≢ p). h.below k (omega arith))
      (cases_eq k p);
  above = λ k le. h.above k (omega arith);
}

-- at the end all are
pub imaged_all : (f : Gf) (a b : List ℕ) (p : ℕ) → IsImagedTo f a b p → length a ≤ p → b ≡ image f 1 a
imaged_all f a b p h le = ext_get_or 0 b (image f 1 a) (h.size ∙ sym (length-map a (frobenius f)))
    (λ k lt. h.below k (let e = h.size in omega arith) ∙ sym (get_or-image f 1 a k))

-- two lists of which the second has the smaller number
pub greater_at : (c d : List ℕ) (p : ℕ) → p < length c → p < length d → ((k : ℕ) → k < p → get_or c k 0 ≡ get_or d k 0) → get_or d p 0 < get_or c p 0 → list_cmp c d ≡ Greater
greater_at c d p l m same lt =
    let less : list_cmp d c ≡ Less = less_at d c p m l (λ k h. sym (same k h)) lt in
    nat_list_cmp_total.antisymm c d ∙ ap ordering_reverse less

-- lists with the same numbers are equal in the order
pub equal_all : (c d : List ℕ) (p : ℕ) → length c ≡ length d → length c ≤ p → ((k : ℕ) → k < p → get_or c k 0 ≡ get_or d k 0) → list_cmp c d ≡ Equal
equal_all c d p size le same =
    let is : c ≡ d = ext_get_or 0 c d size (λ k lt. same k (omega arith)) in
    subst (λ (x : List ℕ). list_cmp x d ≡ Equal) (sym is) (tied_itself nat_list_cmp_total d)

-- and equal in the order are equal lists alone
pub same_from_equal : (c d : List ℕ) → list_cmp c d ≡ Equal → c ≡ d
same_from_equal c d is = ⊎_elim
    (λ (before : list_cmp c d ≡ Less). cc)
    (λ (o : (c ≡ d) ⊎ (list_cmp d c ≡ Less)). ⊎_elim
    (λ (same : c ≡ d). same)
    (λ (after : list_cmp d c ≡ Less).
    let greater : list_cmp c d ≡ Greater = nat_list_cmp_total.antisymm c d ∙ ap ordering_reverse after in
    cc)
    o)
    (compare c d)

-- and a greater one is another
greater_differs : (c d : List ℕ) → list_cmp c d ≡ Greater → c ≢ d
greater_differs c d greater same =
    let equal : list_cmp c d ≡ Equal = subst (λ (x : List ℕ). list_cmp x d ≡ Equal) (sym same) (tied_itself nat_list_cmp_total d) in
    cc

-- the image of a by one time less than n, and all images before are greater than a
pub record IsRoundTo (f : Gf) (a b : List ℕ) (n : ℕ) : Type 0 where
  pub some : 0 < n
  pub image_is : b ≡ image f (n - 1) a
  pub greater : (j : ℕ) → 0 < j → j < n → list_cmp (image f j a) a ≡ Greater

-- a is the first image
pub round_none : (f : Gf) (a : List ℕ) → IsRoundTo f a a 1
round_none f a = record { some = omega arith; image_is = sym (image-none f a); greater = λ j pos lt. absurd (omega arith) }

-- the next image
pub round_image : (f : Gf) (a b c : List ℕ) (n : ℕ) → IsRoundTo f a b n → c ≡ image f 1 b → c ≡ image f n a
round_image f a b c n h is =
    let some = h.some in
    let whole : 1 + (n - 1) ≡ n = omega arith in
    is ∙ ap (image f 1) h.image_is ∙ image-image f 1 (n - 1) a ∙ ap (λ k. image f k a) whole

-- it has elements where a has
pub round_elements : (f : Gf) (a b : List ℕ) (n : ℕ) → IsRoundTo f a b n → HasElements f a → HasElements f b
round_elements f a b n h elements = subst (HasElements f) (sym h.image_is) (HasElements-image f (n - 1) a elements)

-- it is greater too
pub round_more : (f : Gf) (a b c : List ℕ) (n : ℕ) → IsRoundTo f a b n → c ≡ image f 1 b → list_cmp c a ≡ Greater → IsRoundTo f a c (n + 1)
round_more f a b c n h is greater =
    let there : c ≡ image f n a = round_image f a b c n h is in
    record {
      some = omega arith;
      image_is = there ∙ ap (λ k. image f k a) (let e : n ≡ n + 1 - 1 = omega arith in e);
      greater = λ j pos lt. ⊎_elim
          (λ (less : j < n). h.greater j pos less)
          (λ (ge : n ≤ j).
          let same : n ≡ j = omega arith in
          subst (λ (k : ℕ). list_cmp (image f k a) a ≡ Greater) same (subst (λ (x : List ℕ). list_cmp x a ≡ Greater) there greater))
          (cases_lt j n);
    }

-- it is smaller, so a is not least
pub round_smaller : (f : Gf) (a b c : List ℕ) (n : ℕ) → IsRoundTo f a b n → n < degree f → c ≡ image f 1 b → list_cmp c a ≡ Less → IsLeast f a → ⊥
round_smaller f a b c n h lt is less least = least c (n, lt, round_image f a b c n h is) less

-- the images come round after n times, and not before
pub round_whole : (f : Gf) (a b : List ℕ) (n : ℕ) → IsRoundTo f a b n → HasElements f a → n ≤ degree f → image f n a ≡ a → IsLeast f a × HasSize f a n
round_whole f a b n h elements few round =
    let first : (j : ℕ) → 0 < j → j < n → image f j a ≢ a = λ j pos lt same. greater_differs (image f j a) a (h.greater j pos lt) same in
    let none : (j : ℕ) → 0 < j → j < n → list_cmp (image f j a) a ≢ Less = λ j pos lt less. (let more = h.greater j pos lt in cc) in
    (is_least f a n elements h.some few round first none, has_size f a n elements h.some few round first)
