-- A matroid has a first basis, and each class of its representations one chosen matrix.
use Rattle.std.proofs.Common.{ℕ, ◌≡◌, ◌⊎◌, List, [], ◌∷◌, sym, subst, ⊎_elim, inl, inr}
use Rattle.std.specs.Prelude.{Contains}
use Rattle.std.specs.List.Sorted.{IsStrictlySortedBy}
use Rattle.std.proofs.lemmas.Cmp.{nat_list_cmp_total}
use Rattle.std.proofs.lemmas.Map.Keys.{sorted_tail}
use Rattle.mr_set.specs.Subsets.{IsBefore, list_cmp}
use Rattle.mr_set.specs.Places.{IsAllSets}
use Rattle.mr_set.specs.Matroid.{Presentation, IsMatroid, IsFirstBasis}
use Rattle.mr_set.proofs.Ordered.{member_first, member_later, member_cases, member_none, first_before, not_before_itself, not_both_ways}
use Rattle.mr_set.proofs.Uniqueness.{sets-listed}
use Rattle.mr_linear.proofs.Unique.{one-chosen}
use Rattle.mr_linear.proofs.Undo.{equivalent-sym}
use Rattle.mr_frame.proofs.Filled.{listed_or_not}
use Rattle.mr_class.specs.Laws.{EachClassHasOneChosen}
use Rattle.mr_class.proofs.Classes.{equivalence-trans, scaled, ones-chosen, forest-there}

-- the first list that isn't among others
record IsFirstOutside (others all : List (List ℕ)) (x : List ℕ) : Type 0 where
  inside : Contains all x
  outside : Contains others x → ⊥
  least : (y : List ℕ) → Contains all y → (Contains others y → ⊥) → IsBefore y x → ⊥

-- of lists in order there is a first one that isn't among others, or each is
first_outside : (others all : List (List ℕ)) → IsStrictlySortedBy list_cmp all → ((x : List ℕ) × IsFirstOutside others all x) ⊎ ((x : List ℕ) → Contains all x → Contains others x)
first_outside others [] sorted = inr (λ x inside. absurd (member_none x inside))
first_outside others (y ∷ ys) sorted = ⊎_elim
    (λ (among : Contains others y). ⊎_elim
    (λ (found : (x : List ℕ) × IsFirstOutside others ys x). inl (
      found.0,
      record {
        inside = member_later y ys found.0 found.1.inside;
        outside = found.1.outside;
        least = λ z here out before. ⊎_elim
            (λ (same : y ≡ z). absurd (out (subst (Contains others) same among)))
            (λ (later : Contains ys z). found.1.least z later out before)
            (member_cases y ys z here);
      },
    ))
    (λ (none : (x : List ℕ) → Contains ys x → Contains others x). inr (λ x here. ⊎_elim
    (λ (same : y ≡ x). subst (Contains others) same among)
    (λ (later : Contains ys x). none x later)
    (member_cases y ys x here)))
    (first_outside others ys (sorted_tail list_cmp y ys sorted)))
    (λ (out : Contains others y → ⊥). inl (
      y,
      record {
        inside = member_first y ys;
        outside = out;
        least = λ z here _ before. ⊎_elim
            (λ (same : y ≡ z). not_before_itself nat_list_cmp_total y (subst (λ (w : List ℕ). IsBefore w y) (sym same) before))
            (λ (later : Contains ys z). not_both_ways nat_list_cmp_total y z (first_before list_cmp y ys z sorted later) before)
            (member_cases y ys z here);
      },
    ))
    (listed_or_not others y)

-- a matroid has a first basis
pub first_basis : (m : Presentation) → IsMatroid m → (b : List ℕ) × IsFirstBasis m b
first_basis m h =
    let all = sets-listed m.elements m.rank in
    let sets : IsAllSets m.elements m.rank all.0 = all.1 in
    ⊎_elim
    (λ (found : (x : List ℕ) × IsFirstOutside m.nonbases all.0 x). (
      found.0,
      record {
        basis = ((sets.exactly found.0).0 found.1.inside, found.1.outside);
        least = λ x basis. found.1.least x ((sets.exactly x).1 basis.0) basis.1;
      },
    ))
    (λ (none : (x : List ℕ) → Contains all.0 x → Contains m.nonbases x). absurd (h.basis.1.1 (none h.basis.0 ((sets.exactly h.basis.0).1 h.basis.1.0))))
    (first_outside m.nonbases all.0 sets.increasing)

-- each class of representations has one chosen matrix
pub each_has_one_chosen : EachClassHasOneChosen
each_has_one_chosen m a h rep =
    let b = first_basis m h in
    let forest = forest-there m b.0 b.1 a rep in
    let c = scaled m b.0 b.1 forest.0 forest.1 a rep in
    let is = ones-chosen m b.0 b.1 forest.0 forest.1 c.0 c.2.represents c.2.identity c.2.ones in
    record {
      chosen = c.0;
      equivalent = c.1;
      is = is;
      represents = c.2.represents;
      only = λ d e other. one-chosen m d c.0 other is (equivalence-trans d a c.0 (equivalent-sym a d rep.fits.grid e) c.1);
    }
