-- The orbits of an answer are one list.
use Rattle.std.proofs.Common.{◌≡◌, ◌≢◌, ℕ, zero, suc, ◌<◌, ◌≤◌, List, [], ◌∷◌, length, get_or, refl, sym, ap₂, subst, ◌∙◌, inl, inr, arith}
use Rattle.std.specs.Prelude.{AllPairs, Contains, flat_map}
use Rattle.std.specs.List.{AllZip}
use Rattle.std.proofs.lemmas.Cmp.{nat_list_cmp_total}
use Rattle.mr_field.specs.Gf.{Gf}
use Rattle.mr_set.specs.Matroid.{Presentation}
use Rattle.mr_set.proofs.Ordered.{member_first, member_later, member_cases, member_none, not_both_ways}
use Rattle.mr_linear.specs.Matrix.{Grid, grid_cmp}
use Rattle.mr_linear.specs.Representation.{IsAnswer}
use Rattle.mr_linear.proofs.Unique.{same_sorted}
use Rattle.mr_search.proofs.Distinct.{no_longer}
use Rattle.mr_auto.specs.Images.{HasMembers, HasMatrixSize}
use Rattle.mr_auto.specs.Orbits.{AreOrbitsOfAnswer}

-- an orbit has one size
one_size : {X : Type 0} (IsInside : X → Type 0) (j k : ℕ) → HasMembers IsInside j → HasMembers IsInside k → j ≡ k
one_size IsInside j k one two =
    let le = no_longer one.members two.members one.distinct (λ x inside. (two.exactly x).1 ((one.exactly x).0 inside)) in
    let ge = no_longer two.members one.members two.distinct (λ x inside. (one.exactly x).1 ((two.exactly x).0 inside)) in
    let first = one.size in
    let second = two.size in
    omega arith

-- orbits have one list of sizes
same_sizes : (leasts : List Grid) (sizes others : List ℕ) → AllZip HasMatrixSize leasts sizes → AllZip HasMatrixSize leasts others → sizes ≡ others
same_sizes [] [] [] one two = refl
same_sizes [] [] (k ∷ others) one two = absurd two
same_sizes [] (j ∷ sizes) others one two = absurd one
same_sizes (g ∷ leasts) [] others one two = absurd one
same_sizes (g ∷ leasts) (j ∷ sizes) [] one two = absurd two
same_sizes (g ∷ leasts) (j ∷ sizes) (k ∷ others) one two = ap₂ (λ (x : ℕ) (xs : List ℕ). x ∷ xs) (one_size _ j k one.0 two.0) (same_sizes leasts sizes others one.1 two.1)

-- an answer has one list of least members
pub one_list_of_leasts : (m : Presentation) (f : Gf) (leasts others : List Grid) (sizes numbers : List ℕ) → AreOrbitsOfAnswer m f leasts sizes → AreOrbitsOfAnswer m f others numbers → leasts ≡ others
one_list_of_leasts m f leasts others sizes numbers one two = same_sorted Grid grid_cmp
    (λ a b less more. not_both_ways nat_list_cmp_total (flat_map (λ row. row) a.rows) (flat_map (λ row. row) b.rows) less more)
    leasts others one.increasing two.increasing
    (λ g. ((λ inside. (two.exactly g).1 ((one.exactly g).0 inside)), (λ inside. (one.exactly g).1 ((two.exactly g).0 inside))))

-- and of sizes
pub one_list_of_sizes : (m : Presentation) (f : Gf) (leasts others : List Grid) (sizes numbers : List ℕ) → AreOrbitsOfAnswer m f leasts sizes → AreOrbitsOfAnswer m f others numbers → sizes ≡ numbers
one_list_of_sizes m f leasts others sizes numbers one two =
    let same = one_list_of_leasts m f leasts others sizes numbers one two in
    same_sizes leasts sizes numbers one.sizes_are (subst (λ (gs : List Grid). AllZip HasMatrixSize gs numbers) (sym same) two.sizes_are)

-- an answer without members has no orbits
pub no_orbits : (m : Presentation) (f : Gf) (leasts : List Grid) (sizes : List ℕ) → AreOrbitsOfAnswer m f leasts sizes → IsAnswer m f [] → leasts ≡ []
no_orbits m f [] sizes are empty = refl
no_orbits m f (g ∷ leasts) sizes are empty = absurd (member_none g ((empty.exactly g).1 ((are.exactly g).0 (member_first g leasts)).0))
