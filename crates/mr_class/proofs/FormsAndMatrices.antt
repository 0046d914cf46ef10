-- Forms and their matrices, one by one.
use Rattle.std.proofs.Common.{◌≡◌, ℕ, List, [], ◌∷◌, sym, subst, ◌∙◌, ⊎_elim}
use Rattle.std.specs.Prelude.{Contains}
use Rattle.std.specs.List.{AllZip, AllByRecursion}
use Rattle.std.specs.List.Sorted.{IsStrictlySortedBy}
use Rattle.std.specs.declared.cmp.Ordering.TheVariants.{Less}
use Rattle.mr_set.specs.Subsets.{list_cmp}
use Rattle.mr_set.proofs.Ordered.{member_first, member_later, member_cases, member_none}
use Rattle.mr_linear.specs.Matrix.{Grid, grid_cmp}
use Rattle.mr_frame.specs.Frame.{Framed, IsFrame}
use Rattle.mr_frame.specs.Test.{IsFilledBy}
use Rattle.mr_class.specs.Forms.{IsForm}
use Rattle.mr_class.proofs.InOrder.{forms_in_order}

-- a form of the list has its matrix, and each matrix its form
module _ (f : Framed) where
  -- the matrix of a form of the list
  pub matrix_in : (forms : List (List ℕ)) (answer : List Grid) → AllZip (IsFilledBy f) forms answer → (c : List ℕ) → Contains forms c → (g : Grid) × Contains answer g × IsFilledBy f c g
  matrix_in [] answer zip c inside = absurd (member_none c inside)
  matrix_in (d ∷ ds) [] zip c inside = absurd zip
  matrix_in (d ∷ ds) (g ∷ gs) zip c inside = ⊎_elim
      (λ (same : d ≡ c). (g, member_first g gs, subst (λ (x : List ℕ). IsFilledBy f x g) same zip.0))
      (λ (later : Contains ds c). (let rest = matrix_in ds gs zip.1 c later in (rest.0, member_later g gs rest.0 rest.1, rest.2)))
      (member_cases d ds c inside)

  -- the form of a matrix of the list
  pub form_in : (forms : List (List ℕ)) (answer : List Grid) → AllZip (IsFilledBy f) forms answer → (g : Grid) → Contains answer g → (c : List ℕ) × Contains forms c × IsFilledBy f c g
  form_in [] [] zip g inside = absurd (member_none g inside)
  form_in [] (h ∷ hs) zip g inside = absurd zip
  form_in (d ∷ ds) [] zip g inside = absurd zip
  form_in (d ∷ ds) (h ∷ hs) zip g inside = ⊎_elim
      (λ (same : h ≡ g). (d, member_first d ds, subst (λ (x : Grid). IsFilledBy f d x) same zip.0))
      (λ (later : Contains hs g). (let rest = form_in ds hs zip.1 g later in (rest.0, member_later d ds rest.0 rest.1, rest.2)))
      (member_cases h hs g inside)

  -- the matrices of forms that come after a form come after its matrix
  all_after : IsFrame f → (c : List ℕ) (g : Grid) → IsForm f c → IsFilledBy f c g → (forms : List (List ℕ)) (answer : List Grid) → AllZip (IsFilledBy f) forms answer → ((d : List ℕ) → Contains forms d → IsForm f d) → AllByRecursion (λ d. list_cmp c d ≡ Less) forms → AllByRecursion (λ h. grid_cmp g h ≡ Less) answer
  all_after frame c g is filled [] [] zip forms after = tt
  all_after frame c g is filled [] (h ∷ hs) zip forms after = absurd zip
  all_after frame c g is filled (d ∷ ds) [] zip forms after = absurd zip
  all_after frame c g is filled (d ∷ ds) (h ∷ hs) zip forms after = (
    sym (forms_in_order f c d g h frame is (forms d (member_first d ds)) filled zip.0) ∙ after.0,
    all_after frame c g is filled ds hs zip.1 (λ e inside. forms e (member_later d ds e inside)) after.1,
  )

  -- the matrices are in the order of their forms
  pub matrices_rise : IsFrame f → (forms : List (List ℕ)) (answer : List Grid) → AllZip (IsFilledBy f) forms answer → ((d : List ℕ) → Contains forms d → IsForm f d) → IsStrictlySortedBy list_cmp forms → IsStrictlySortedBy grid_cmp answer
  unfolding IsStrictlySortedBy
  matrices_rise frame [] [] zip forms sorted = tt
  matrices_rise frame [] (h ∷ hs) zip forms sorted = absurd zip
  matrices_rise frame (d ∷ ds) [] zip forms sorted = absurd zip
  matrices_rise frame (d ∷ ds) (h ∷ hs) zip forms sorted = (
    all_after frame d h (forms d (member_first d ds)) zip.0 ds hs zip.1 (λ e inside. forms e (member_later d ds e inside)) sorted.0,
    matrices_rise frame ds hs zip.1 (λ e inside. forms e (member_later d ds e inside)) sorted.1,
  )
