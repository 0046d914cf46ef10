-- Each matroid has a dual, and each minor.
use Rattle.std.proofs.Common.{◌≡◌, ℕ, ◌-◌, ◌≤◌, ◌↔◌, ◌⊎◌, Bool, not, List, [], ◌∷◌, length, refl, sym, subst, ⊎_elim, inl, inr}
use Rattle.std.specs.Prelude.{Contains}
use Rattle.std.specs.List.Sorted.{IsStrictlySortedBy}
use Rattle.std.proofs.lemmas.Map.Keys.{sorted_tail}
use Rattle.mr_set.specs.Elements.{IsSet, is_element, minus, union}
use Rattle.mr_set.specs.Private.Enumeration.{sets_from}
use Rattle.mr_set.specs.Subsets.{IsSetOf, IsBefore, list_cmp}
use Rattle.mr_set.specs.Matroid.{Presentation, IsBasis, IsMatroid}
use Rattle.mr_set.proofs.Listing.{all_sets}
use Rattle.mr_set.proofs.Ordered.{member_first, member_later, member_cases, member_none, first_before, sorted_join}
use Rattle.mr_set.proofs.Tests.{IsSet-set_of}
use Rattle.mr_minor.specs.Dual.{IsDual, HasCobasis, complement}
use Rattle.mr_minor.specs.Minor.{others, originals, IsMinor}
use Rattle.mr_minor.specs.Private.Best.{score, IsBestBasis, IsCompleted}
use Rattle.mr_minor.specs.Private.Collected.{AreNonbases}
use Rattle.mr_minor.proofs.Bases.{IsBasisTest, cases_basis}
use Rattle.mr_minor.proofs.Collecting.{sorted_one}
use Rattle.mr_minor.proofs.Determined.{one-minor}
use Rattle.mr_minor.proofs.DualBases.{dual_with, dual_is}
use Rattle.mr_minor.proofs.MinorBases.{IsChoice, minor_with, minor_is, kept_set, fixed_set, to_test, from_test}
use Rattle.mr_minor.proofs.Originals.{IsSet-originals, IsSet-union}
use Rattle.mr_minor.proofs.Ranks.{greatest}
use Rattle.mr_minor.proofs.Renumbering.{lifted}

-- some sets in order, without those that are as P says
record Picked (P : List ℕ → Type 0) (sets ys : List (List ℕ)) : Type 0 where
  increasing : IsStrictlySortedBy list_cmp ys
  each : (x : List ℕ) → Contains ys x → Contains sets x × ¬ (P x)
  all : (x : List ℕ) → Contains sets x → Contains ys x ⊎ P x

-- there are such, where P is decided
picked : (P : List ℕ → Type 0) (sets : List (List ℕ)) → IsStrictlySortedBy list_cmp sets → ((x : List ℕ) → Contains sets x → P x ⊎ ¬ (P x)) → (ys : List (List ℕ)) × Picked P sets ys
picked P [] sorted decide = ([], record { increasing = sorted; each = λ x inside. absurd (member_none x inside); all = λ x inside. absurd (member_none x inside) })
picked P (z ∷ sets) sorted decide = join (picked P sets (sorted_tail list_cmp z sets sorted) (λ x inside. decide x (member_later z sets x inside))) (decide z (member_first z sets))
  where
    join : (ys : List (List ℕ)) × Picked P sets ys → P z ⊎ ¬ (P z) → (ys : List (List ℕ)) × Picked P (z ∷ sets) ys
    join (ys, rest) (inl holds) = (
      ys,
      record {
        increasing = rest.increasing;
        each = λ x inside. let h = rest.each x inside in (member_later z sets x h.0, h.1);
        all = λ x inside. ⊎_elim (λ (e : z ≡ x). inr (subst P e holds)) (λ (later : Contains sets x). rest.all x later) (member_cases z sets x inside);
      },
    )
    join (ys, rest) (inr out) = (
      z ∷ ys,
      record {
        increasing = sorted_join list_cmp (z ∷ []) ys (sorted_one z) rest.increasing (λ x y here there. ⊎_elim
            (λ (e : z ≡ x). subst (λ w. IsBefore w y) e (first_before list_cmp z sets y sorted (rest.each y there).0))
            (λ (none : Contains [] x). absurd (member_none x none))
            (member_cases z [] x here));
        each = λ x inside. ⊎_elim
            (λ (e : z ≡ x). (subst (Contains (z ∷ sets)) e (member_first z sets), subst (λ w. ¬ (P w)) e out))
            (λ (later : Contains ys x). let h = rest.each x later in (member_later z sets x h.0, h.1))
            (member_cases z ys x inside);
        all = λ x inside. ⊎_elim
            (λ (e : z ≡ x). inl (subst (Contains (z ∷ ys)) e (member_first z ys)))
            (λ (later : Contains sets x). ⊎_elim (λ (h : Contains ys x). inl (member_later z ys x h)) (λ (p : P x). inr p) (rest.all x later))
            (member_cases z sets x inside);
      },
    )

-- the sets of one size that aren't as P says, where P is decided
pub nonbases-exist : (n r : ℕ) (P : List ℕ → Type 0) → ((x : List ℕ) → IsSetOf n r x → P x ⊎ ¬ (P x)) → (sets : List (List ℕ)) × AreNonbases n r P sets
nonbases-exist n r P decide = made (picked P (sets_from 0 n r) (all_sets n r).increasing (λ x inside. decide x (((all_sets n r).exactly x).0 inside)))
  where
    made : (ys : List (List ℕ)) × Picked P (sets_from 0 n r) ys → (sets : List (List ℕ)) × AreNonbases n r P sets
    made (ys, is) = (
      ys,
      record {
        increasing = is.increasing;
        each = λ x inside. let h = is.each x inside in (((all_sets n r).exactly x).0 h.0, h.1);
        all = λ x set. is.all x (((all_sets n r).exactly x).1 set);
      },
    )

-- a matroid has a dual
pub dual-exists : (m : Presentation) → IsMatroid m → (dual : Presentation) × IsDual m dual
dual-exists m matroid = made (nonbases-exist m.elements (m.elements - m.rank) (HasCobasis m) (λ x set. cases_basis m (complement m.elements x) (IsSet-set_of m.elements (λ e. not (is_element x e)))))
  where
    made : (sets : List (List ℕ)) × AreNonbases m.elements (m.elements - m.rank) (HasCobasis m) sets → (dual : Presentation) × IsDual m dual
    made (sets, are) = (dual_with m sets, dual_is m sets matroid are)

-- some basis has the highest score
best-exists : (m : Presentation) (kept c : List ℕ) → IsMatroid m → (b : List ℕ) × IsBestBasis m kept c b
best-exists m kept c matroid = made (greatest (IsBasis m) (score kept c) (sets_from 0 m.elements m.rank) (λ x inside. cases_basis m x (((all_sets m.elements m.rank).exactly x).0 inside).set))
  where
    made : ((x : List ℕ) × IsBasis m x × ((y : List ℕ) → Contains (sets_from 0 m.elements m.rank) y → IsBasis m y → score kept c y ≤ score kept c x)) ⊎ ((y : List ℕ) → Contains (sets_from 0 m.elements m.rank) y → ¬ (IsBasis m y))
        → (b : List ℕ) × IsBestBasis m kept c b
    made (inl (x, basis, best)) = (x, record { basis = basis; most = λ y by_. best y (((all_sets m.elements m.rank).exactly y).1 by_.0) by_ })
    made (inr none) = let b = matroid.basis in absurd (none b.0 (((all_sets m.elements m.rank).exactly b.0).1 b.1.0) b.1)

-- so there is a best basis for what is kept
pub choice-exists : (m : Presentation) (d c : List ℕ) → IsMatroid m → IsSet m.elements c → (b : List ℕ) × IsChoice m d c (others m.elements d c) b
choice-exists m d c matroid set =
    let best = best-exists m (others m.elements d c) c matroid in
    (best.0, record { matroid = matroid; contracted = set; kept_are = refl; best = best.1 })

-- the sets that it doesn't complete to bases
completed-exist : (m : Presentation) (d c kept b : List ℕ) → IsChoice m d c kept b → (sets : List (List ℕ)) × AreNonbases (length kept) (m.rank - length (minus b kept)) (IsCompleted m kept (minus b kept)) sets
completed-exist m d c kept b choice = nonbases-exist (length kept) (m.rank - length (minus b kept)) (IsCompleted m kept (minus b kept)) (λ x set.
    cases_basis m (union (originals kept x) (minus b kept))
    (IsSet-union m.elements (originals kept x) (minus b kept) (IsSet-originals m.elements kept x (kept_set m d c kept b choice) set.set) (fixed_set m d c kept b choice)))

-- a matroid has each minor
pub minor-exists : (m : Presentation) (d c : List ℕ) → IsMatroid m → IsSet m.elements c → (minor : Presentation) × IsMinor m d c minor
minor-exists m d c matroid set =
    let choice = choice-exists m d c matroid set in
    let sets = completed-exist m d c (others m.elements d c) choice.0 choice.1 in
    (minor_with m (others m.elements d c) choice.0 sets.0, minor_is m d c (others m.elements d c) choice.0 choice.1 sets.0 sets.1)

-- the bases of the minor are those that a best basis completes
pub bases-from_best : (m : Presentation) (d c kept b : List ℕ) → IsChoice m d c kept b → (a : Presentation) → IsMinor m d c a → (y : ℕ → Bool) → IsBasisTest a y ↔ IsBasisTest m (lifted (is_element kept) (is_element b) y)
bases-from_best m d c kept b choice a is y =
    let sets = completed-exist m d c kept b choice in
    let same : a ≡ minor_with m kept b sets.0 = one-minor m d c a (minor_with m kept b sets.0) is (minor_is m d c kept b choice sets.0 sets.1) in
    subst (λ (p : Presentation). IsBasisTest p y ↔ IsBasisTest m (lifted (is_element kept) (is_element b) y)) (sym same)
    (to_test m d c kept b choice sets.0 sets.1 y, from_test m d c kept b choice sets.0 sets.1 y)
