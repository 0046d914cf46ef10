-- The rank of a set by the numbers that it shares with the sets of a family, and that of a matroid's set.
use Rattle.std.proofs.Common.{◌≡◌, ℕ, ◌<◌, ◌≤◌, ◌⊎◌, Bool, true, false, ◌&&◌, List, [], ◌∷◌, length, refl, sym, ap, subst, ◌∙◌, ⊎_elim, inl, inr, arith}
use Rattle.std.specs.Prelude.{Contains}
use Rattle.std.specs.Ordering.{nat_cmp}
use Rattle.std.proofs.lemmas.Bool.{cases_lt}
use Rattle.std.proofs.lemmas.List.Kept.{IsStrictlySortedBy-filter}
use Rattle.mr_set.specs.Elements.{IsSet, is_element, meet}
use Rattle.mr_set.specs.Private.Enumeration.{sets_from}
use Rattle.mr_set.specs.Matroid.{Presentation, IsBasis, IsMatroid, IsRank}
use Rattle.mr_set.proofs.Listing.{all_sets}
use Rattle.mr_set.proofs.Members.{is_element-filter}
use Rattle.mr_set.proofs.Ordered.{member_first, member_later, member_cases, member_none}
use Rattle.mr_set.proofs.Tests.{count, set_of, is_element-set_of, count-is_element, IsSet-from_below, element-lt}
use Rattle.mr_matroid.proofs.Ranks.{rank_is}
use Rattle.mr_minor.proofs.Counting.{Agree, both, count-agree, count-small}
use Rattle.mr_minor.proofs.Bases.{IsBasisTest, cases_basis, test-of_basis}

-- some set of the family shares so many numbers with i, and none shares more
pub record IsMost (n : ℕ) (B : (ℕ → Bool) → Type 0) (i : ℕ → Bool) (most : ℕ) : Type 0 where
  pub set : ℕ → Bool
  pub member : B set
  pub reached : count n (both set i) ≡ most
  pub bound : (y : ℕ → Bool) → B y → count n (both y i) ≤ most

-- only the numbers below n count
pub most-agree : (n : ℕ) (B : (ℕ → Bool) → Type 0) (i j : ℕ → Bool) (most : ℕ) → Agree n i j → IsMost n B i most → IsMost n B j most
most-agree n B i j most agree is = record {
  set = is.set;
  member = is.member;
  reached = sym (same is.set) ∙ is.reached;
  bound = λ y by_. let e = same y in let le = is.bound y by_ in omega arith;
}
  where
    same : (y : ℕ → Bool) → count n (both y i) ≡ count n (both y j)
    same y = count-agree n (both y i) (both y j) (λ e l. ap (λ b. y e && b) (agree e l))

-- the greatest value of a measure on some lists that are as P says, or none is
pub greatest : (P : List ℕ → Type 0) (f : List ℕ → ℕ) (sets : List (List ℕ)) → ((x : List ℕ) → Contains sets x → P x ⊎ ¬ (P x))
    → ((x : List ℕ) × P x × ((y : List ℕ) → Contains sets y → P y → f y ≤ f x)) ⊎ ((y : List ℕ) → Contains sets y → ¬ (P y))
greatest P f [] decide = inr (λ y inside. absurd (member_none y inside))
greatest P f (z ∷ sets) decide = join (decide z (member_first z sets)) (greatest P f sets (λ x inside. decide x (member_later z sets x inside)))
  where
    Best : List ℕ → List (List ℕ) → Type 0
    Best x ys = (y : List ℕ) → Contains ys y → P y → f y ≤ f x

    join : P z ⊎ ¬ (P z) → ((x : List ℕ) × P x × ((y : List ℕ) → Contains sets y → P y → f y ≤ f x)) ⊎ ((y : List ℕ) → Contains sets y → ¬ (P y))
        → ((x : List ℕ) × P x × ((y : List ℕ) → Contains (z ∷ sets) y → P y → f y ≤ f x)) ⊎ ((y : List ℕ) → Contains (z ∷ sets) y → ¬ (P y))
    join (inl here) (inr none) = inl (z, here, λ y inside p. ⊎_elim (λ (e : z ≡ y). subst (λ w. f w ≤ f z) e (omega arith)) (λ (later : Contains sets y). absurd (none y later p)) (member_cases z sets y inside))
    join (inr out) (inr none) = inr (λ y inside. ⊎_elim (λ (e : z ≡ y). subst (λ w. ¬ (P w)) e out) (λ (later : Contains sets y). none y later) (member_cases z sets y inside))
    join (inr out) (inl (x, p, best)) = inl (x, p, λ y inside q. ⊎_elim (λ (e : z ≡ y). absurd (out (subst P (sym e) q))) (λ (later : Contains sets y). best y later q) (member_cases z sets y inside))
    join (inl here) (inl (x, p, best)) = ⊎_elim
        (λ (less : f x < f z). inl (z, here, λ y inside q. ⊎_elim (λ (e : z ≡ y). subst (λ w. f w ≤ f z) e (omega arith)) (λ (later : Contains sets y). let h = best y later q in omega arith) (member_cases z sets y inside)))
        (λ (le : f z ≤ f x). inl (x, p, λ y inside q. ⊎_elim (λ (e : z ≡ y). subst (λ w. f w ≤ f x) e le) (λ (later : Contains sets y). best y later q) (member_cases z sets y inside)))
        (cases_lt (f x) (f z))

-- what a set shares with another, as a count
pub length-meet : (n : ℕ) (x y : List ℕ) → IsSet n x → length (meet x y) ≡ count n (both (is_element y) (is_element x))
length-meet n x y set = sym (count-is_element n (meet x y) shared) ∙ count-agree n (is_element (meet x y)) (both (is_element y) (is_element x)) (λ e l. is_element-filter (is_element y) x e)
  where
    second : (p q : Bool) → (p && q) ≡ true → q ≡ true
    second true q h = h
    second false q h = cc

    shared : IsSet n (meet x y)
    shared = IsSet-from_below n (meet x y) (IsStrictlySortedBy-filter nat_cmp (is_element y) x set.increasing)
        (λ e h. element-lt n x set e (second (is_element y e) (is_element x e) (sym (is_element-filter (is_element y) x e) ∙ h)))

-- some basis shares the most elements with a set
pub most-of_basis : (m : Presentation) → IsMatroid m → (i : ℕ → Bool) → (most : ℕ) × IsMost m.elements (IsBasisTest m) i most
most-of_basis m matroid i = made (greatest (IsBasis m) shared (sets_from 0 n m.rank) (λ x inside. cases_basis m x (((all_sets n m.rank).exactly x).0 inside).set))
  where
    n : ℕ
    n = m.elements

    shared : List ℕ → ℕ
    shared x = count n (both (is_element x) i)

    same : (y : ℕ → Bool) → count n (both (is_element (set_of n y)) i) ≡ count n (both y i)
    same y = count-agree n (both (is_element (set_of n y)) i) (both y i) (λ e l. ap (λ b. b && i e) (is_element-set_of n y e l))

    made : ((x : List ℕ) × IsBasis m x × ((y : List ℕ) → Contains (sets_from 0 n m.rank) y → IsBasis m y → shared y ≤ shared x)) ⊎ ((y : List ℕ) → Contains (sets_from 0 n m.rank) y → ¬ (IsBasis m y))
        → (most : ℕ) × IsMost m.elements (IsBasisTest m) i most
    made (inl (x, basis, best)) = (
      shared x,
      record {
        set = is_element x;
        member = test-of_basis m x basis;
        reached = refl;
        bound = λ y by_. let le = best (set_of n y) (((all_sets n m.rank).exactly (set_of n y)).1 by_.0) by_ in let e = same y in omega arith;
      },
    )
    made (inr none) = let b = matroid.basis in absurd (none b.0 (((all_sets n m.rank).exactly b.0).1 b.1.0) b.1)

-- the most elements that a set shares with bases are its rank
pub rank-from_most : (m : Presentation) → IsMatroid m → (x : List ℕ) (most : ℕ) → IsSet m.elements x → IsMost m.elements (IsBasisTest m) (is_element x) most → IsRank m x most
rank-from_most m matroid x most set is = rank_is m x most matroid set (record {
  bound = λ b basis. let le = is.bound (is_element b) (test-of_basis m b basis) in let e = length-meet n x b set in omega arith;
  reached = inr (set_of n is.set, is.member, length-meet n x (set_of n is.set) set ∙ count-agree n (both (is_element (set_of n is.set)) (is_element x)) (both is.set (is_element x)) (λ e l. ap (λ b. b && is_element x e) (is_element-set_of n is.set e l)) ∙ is.reached);
})
  where
    n : ℕ
    n = m.elements

-- what a set shares with another is no more than there are elements
pub meet-small : (n : ℕ) (x y : List ℕ) → IsSet n x → length (meet x y) ≤ n
meet-small n x y set = let same = length-meet n x y set in let le = count-small n (both (is_element y) (is_element x)) in omega arith
