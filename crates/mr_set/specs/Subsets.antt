-- The sets of one size among the first n elements, in lexicographic order.
use Rattle.std.specs.Prelude.{◌≡◌, ℕ, zero, suc, ◌+◌, ◌^◌, ◌<◌, List, length, map, All}
use Rattle.std.specs.List.Sorted.{IsStrictlySortedBy}
use Rattle.std.specs.Ordering.{nat_cmp}
use Rattle.std.specs.Cmp.Lexicographic.{slice_cmp}
use Rattle.std.specs.declared.cmp.Ordering.{Ordering}
use Rattle.std.specs.declared.cmp.Ordering.TheVariants.{Less}
use Rattle.mr_set.specs.Elements.{IsSet, elements_below}
use Rattle.mr_set.specs.declared.TheConstants.{ELEMENTS}

-- how many sets of r elements there are among n
abbrev pub choose : ℕ → ℕ → ℕ
choose n zero = 1
choose zero (suc r) = 0
choose (suc n) (suc r) = choose n r + choose n (suc r)

-- a set of r of the first n elements
pub record IsSetOf (n r : ℕ) (x : List ℕ) : Type 0 where
  pub set : IsSet n x
  pub size : length x ≡ r

-- lists of numbers are compared number by number
abbrev pub list_cmp : List ℕ → List ℕ → Ordering
list_cmp = slice_cmp nat_cmp

-- x comes before y
abbrev pub IsBefore : List ℕ → List ℕ → Type 0
IsBefore x y = list_cmp x y ≡ Less

-- no set of r of the first n elements comes before x
pub record IsFirst (n r : ℕ) (x : List ℕ) : Type 0 where
  pub subset : IsSetOf n r x
  pub least : (z : List ℕ) → IsSetOf n r z → IsBefore z x → ⊥

-- y is the next set after x of its size: none lies between
pub record IsNext (n : ℕ) (x y : List ℕ) : Type 0 where
  pub subset : IsSetOf n (length x) y
  pub after : IsBefore x y
  pub none_between : (z : List ℕ) → IsSetOf n (length x) z → IsBefore x z → IsBefore z y → ⊥

-- no set of the size of x comes after x
abbrev pub IsLast : ℕ → List ℕ → Type 0
IsLast n x = (z : List ℕ) → IsSetOf n (length x) z → IsBefore x z → ⊥

-- these numbers are the masks of sets of r of the first n elements, each before the next
pub record AreMasksOf (n r : ℕ) (masks : List ℕ) : Type 0 where
  pub bound : All (λ mask. mask < 2 ^ ELEMENTS) masks
  pub sets : All (IsSetOf n r) (map (elements_below ELEMENTS) masks)
  pub increasing : IsStrictlySortedBy list_cmp (map (elements_below ELEMENTS) masks)
