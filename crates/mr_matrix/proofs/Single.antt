-- A matrix has one matroid, a matrix and a matroid one confirmation, and a field one plane.
use Rattle.std.proofs.Common.{◌≡◌, ◌⊎◌, ℕ, zero, suc, ◌<◌, ◌≤◌, List, [], ◌∷◌, length, get_or, refl, sym, ap, subst, ◌∙◌, ⊎_elim, inl, inr, arith, length-append}
use Rattle.std.proofs.Math.ListN.{get_or-append}
use Rattle.std.proofs.Math.Seq.{get_or-append_seam}
use Rattle.std.proofs.lemmas.Bool.{cases_eq}
use Rattle.std.proofs.lemmas.Cmp.{nat_list_cmp_total}
use Rattle.std.proofs.lemmas.List.{get_or-map, length-map}
use Rattle.mr_field.specs.Gf.{Gf}
use Rattle.mr_set.specs.Elements.{is_element, numbers_below}
use Rattle.mr_set.specs.Subsets.{IsSetOf}
use Rattle.mr_set.specs.Matroid.{Presentation}
use Rattle.mr_set.proofs.Ordered.{same_members}
use Rattle.mr_set.proofs.Tests.{count}
use Rattle.mr_set.proofs.Uniqueness.{same-from_unordered}
use Rattle.mr_linear.specs.Columns.{every}
use Rattle.mr_linear.specs.Matrix.{Grid, IsGrid, height, entry, AreDependent, AreIndependent, IsColumnRank}
use Rattle.mr_linear.proofs.Augment.{decide}
use Rattle.mr_linear.proofs.Dependence.{OnlyZero, OnlyZero-independent}
use Rattle.mr_linear.proofs.Grids.{same_grids}
use Rattle.mr_minor.proofs.Determined.{bases-determine}
use Rattle.mr_minor.proofs.Existing.{nonbases-exist}
use Rattle.mr_matrix.specs.Confirmation.{IsConfirmation}
use Rattle.mr_matrix.specs.Plane.{column, columns, IsPlane}
use Rattle.mr_matrix.specs.Represented.{IsMatroidOf}
use Rattle.mr_matrix.specs.declared.answer.Confirm.{Confirm}
use Rattle.mr_matrix.specs.declared.answer.Confirm.TheVariants.{Confirmed, Differs}
use Rattle.mr_matrix.proofs.ColumnBases.{matroid_with, columns_make}
use Rattle.mr_matrix.proofs.Differences.{representation-same}

-- a matrix has one matroid
pub one-matroid : (a : Grid) (m k : Presentation) → IsMatroidOf a m → IsMatroidOf a k → m ≡ k
one-matroid a m k one two = bases-determine m k one.matroid.presentation two.matroid.presentation (one.elements ∙ sym two.elements) (one.rank ∙ sym two.rank) (λ x set.
    let here : IsSetOf a.cols (height a) x = subst (λ r. IsSetOf a.cols r x) one.rank (subst (λ n. IsSetOf n m.rank x) one.elements set) in
    ((λ h. (two.bases x here).1 ((one.bases x here).0 h)), (λ h. (one.bases x here).1 ((two.bases x here).0 h))))

-- columns are independent or not
cases_independent : (a : Grid) (x : List ℕ) → AreIndependent a x ⊎ ¬ (AreIndependent a x)
cases_independent a x = ⊎_elim
    (λ (d : AreDependent a x). inr (λ independent. independent d))
    (λ (h : OnlyZero a.field (height a) every a.cols (entry a) (is_element x) × (count a.cols (is_element x) ≤ height a)). inl (OnlyZero-independent a.field (height a) every a.cols (entry a) (is_element x) h.0))
    (decide a.field (height a) a.cols (entry a) (is_element x))

-- a matrix whose rank is its number of rows has a matroid
pub matroid-exists : (a : Grid) → IsGrid a → IsColumnRank a (height a) → (m : Presentation) × IsMatroidOf a m
matroid-exists a grid full =
    let sets = nonbases-exist a.cols (height a) (AreIndependent a) (λ x set. cases_independent a x) in
    (matroid_with a sets.0, columns_make a sets.0 grid full sets.1)

-- a matrix and a matroid have one confirmation
pub one-confirmation : (m : Presentation) (a : Grid) (c e : Confirm) → IsConfirmation m a c → IsConfirmation m a e → c ≡ e
one-confirmation m a Confirmed Confirmed h g = refl
one-confirmation m a Confirmed (Differs y) h g = absurd (representation-same m a y h g.subset g.differs)
one-confirmation m a (Differs x) Confirmed h g = absurd (representation-same m a x g h.subset h.differs)
one-confirmation m a (Differs x) (Differs y) h g = ap (λ z. Differs z) (same-from_unordered x y (λ less. g.least x h.subset h.differs less) (λ less. h.least y g.subset g.differs less))

-- there are n numbers below n
pub length-below : (n : ℕ) → length (numbers_below n) ≡ n
length-below zero = refl
length-below (suc n) = let rest = length-below n in let sum = length-append (numbers_below n) (n ∷ []) in omega arith

-- each stands at its own place
at-below : (n k : ℕ) → k < n → get_or (numbers_below n) k 0 ≡ k
at-below zero k l = absurd (omega arith)
at-below (suc n) k l = ⊎_elim
    (λ (same : k ≡ n). ap (λ i. get_or (numbers_below (suc n)) i 0) (let size = length-below n in let e : k ≡ length (numbers_below n) = omega arith in e) ∙ get_or-append_seam (numbers_below n) n [] 0 ∙ sym same)
    (λ other. get_or-append (numbers_below n) (n ∷ []) 0 k (let size = length-below n in omega arith) ∙ at-below n k (omega arith))
    (cases_eq k n)

-- an entry by the columns
pub entry-from_columns : (a : Grid) (i j : ℕ) → i < height a → j < a.cols → get_or (get_or (columns a) j []) i 0 ≡ entry a i j
entry-from_columns a i j l m =
    ap (λ (w : List ℕ). get_or w i 0) (get_or-map (column a) (numbers_below a.cols) j 0 [] (let size = length-below a.cols in omega arith) ∙ ap (column a) (at-below a.cols j m))
    ∙ get_or-map (λ k. entry a k j) (numbers_below (height a)) i 0 0 (let size = length-below (height a) in omega arith) ∙ ap (λ k. entry a k j) (at-below (height a) i l)

-- a field has one plane
pub one-plane : (f : Gf) (a b : Grid) → IsPlane f a → IsPlane f b → a ≡ b
one-plane f a b one two = same_grids a b one.grid two.grid (record { field = one.field ∙ sym two.field; rows = rows; cols = cols }) (λ i j l m.
    sym (entry-from_columns a i j l m) ∙ ap (λ (w : List (List ℕ)). get_or (get_or w j []) i 0) same ∙ entry-from_columns b i j (let e = rows in omega arith) (let e = cols in omega arith))
  where
    same : columns a ≡ columns b
    same = same_members nat_list_cmp_total (columns a) (columns b) one.increasing two.increasing (λ v. ((λ h. (two.exactly v).1 ((one.exactly v).0 h)), (λ h. (one.exactly v).1 ((two.exactly v).0 h))))

    rows : height a ≡ height b
    rows = one.rows ∙ sym two.rows

    cols : a.cols ≡ b.cols
    cols = sym (length-map (numbers_below a.cols) (column a) ∙ length-below a.cols) ∙ ap length same ∙ length-map (numbers_below b.cols) (column b) ∙ length-below b.cols
