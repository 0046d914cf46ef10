-- Matroids are determined by their bases, and bases by ranks.
use Rattle.std.proofs.Common.{◌≡◌, ℕ, ◌+◌, ◌≤◌, ◌↔◌, Bool, true, false, not, List, length, refl, sym, ap, subst, ◌∙◌, ⊎_elim, arith}
use Rattle.std.specs.Prelude.{Contains}
use Rattle.std.proofs.lemmas.Cmp.{nat_list_cmp_total}
use Rattle.mr_set.specs.Elements.{IsSet, IsSubset, is_element, numbers_below}
use Rattle.mr_set.specs.Subsets.{IsSetOf}
use Rattle.mr_set.specs.Matroid.{Presentation, IsPresentation, IsBasis, IsMatroid, IsRank}
use Rattle.std.specs.Prelude.{◌<◌}
use Rattle.std.proofs.lemmas.Bool.Decides.{Decides-ltb}
use Rattle.mr_set.proofs.Members.{is_element-from_Contains, Contains-from_element, is_element-numbers_below}
use Rattle.mr_set.proofs.Ordered.{same_members}
use Rattle.mr_set.proofs.Tests.{is_element-set_of, count-is_element, length-set_of, IsSet-set_of, Within-from_subset, IsSet-numbers_below, set_of-is_element, element-lt}
use Rattle.mr_matroid.proofs.Ranks.{subset_length}
use Rattle.mr_minor.specs.Dual.{IsDual, complement}
use Rattle.mr_minor.specs.Minor.{others, originals, IsRankOver, IsMinor}
use Rattle.mr_minor.specs.Laws.{HasBasesByRank}
use Rattle.mr_minor.proofs.Counting.{agree-from_count, count-not}
use Rattle.mr_minor.proofs.Bases.{cases_listed, same_as_set_of}
use Rattle.mr_minor.proofs.MinorBases.{rank_one}

-- a nonbasis is a set of the rank's size
nonbasis-set : (m : Presentation) → IsPresentation m → (x : List ℕ) → Contains m.nonbases x → IsSetOf m.elements m.rank x
nonbasis-set m is x inside = subst (IsSetOf m.elements m.rank) inside.2 (is.sets inside.0 x inside.1)

-- a set of the rank's size that is no basis is a nonbasis
nonbasis-listed : (m : Presentation) (x : List ℕ) → IsSetOf m.elements m.rank x → ¬ (IsBasis m x) → Contains m.nonbases x
nonbasis-listed m x set none = ⊎_elim (λ (inside : Contains m.nonbases x). inside) (λ (out : ¬ (Contains m.nonbases x)). absurd (none (set, out))) (cases_listed m.nonbases x)

-- numbers and sets are determined by their bases
pub bases-determine : (a b : Presentation) → IsPresentation a → IsPresentation b → a.elements ≡ b.elements → a.rank ≡ b.rank → ((x : List ℕ) → IsSetOf a.elements a.rank x → IsBasis a x ↔ IsBasis b x) → a ≡ b
bases-determine a b pa pb elements rank same =
    ap (λ (sets : List (List ℕ)). let p : Presentation = record { elements = a.elements; rank = a.rank; nonbases = sets } in p) nonbases
    ∙ ap (λ n. let p : Presentation = record { elements = n; rank = a.rank; nonbases = b.nonbases } in p) elements
    ∙ ap (λ r. let p : Presentation = record { elements = b.elements; rank = r; nonbases = b.nonbases } in p) rank
  where
    there : (x : List ℕ) → IsSetOf a.elements a.rank x → IsSetOf b.elements b.rank x
    there x set = subst (λ r. IsSetOf b.elements r x) rank (subst (λ n. IsSetOf n a.rank x) elements set)

    back : (x : List ℕ) → IsSetOf b.elements b.rank x → IsSetOf a.elements a.rank x
    back x set = subst (λ r. IsSetOf a.elements r x) (sym rank) (subst (λ n. IsSetOf n b.rank x) (sym elements) set)

    nonbases : a.nonbases ≡ b.nonbases
    nonbases = same_members nat_list_cmp_total a.nonbases b.nonbases pa.increasing pb.increasing (λ x. (
      (λ inside. let set = nonbasis-set a pa x inside in nonbasis-listed b x (there x set) (λ basis. ((same x set).1 basis).1 inside)),
      (λ inside. let set = back x (nonbasis-set b pb x inside) in nonbasis-listed a x set (λ basis. ((same x set).0 basis).1 inside)),
    ))

-- the complement of a complement
pub complement-twice : (n : ℕ) (x : List ℕ) → IsSet n x → complement n (complement n x) ≡ x
complement-twice n x set = sym (same_as_set_of n x (λ e. not (is_element (complement n x) e)) set (λ e l. sym (ap not (is_element-set_of n (λ k. not (is_element x k)) e l) ∙ twice (is_element x e))))
  where
    twice : (p : Bool) → not (not p) ≡ p
    twice true = refl
    twice false = refl

-- the ranks of a matroid and its dual
pub ranks-add_up : (m dual : Presentation) → IsDual m dual → m.rank + dual.rank ≡ m.elements
ranks-add_up m dual is =
    let b = is.matroid.basis in
    let set : IsSet m.elements b.0 = subst (λ n. IsSet n b.0) is.elements b.1.0.set in
    let cobasis : IsBasis m (complement m.elements b.0) = (is.bases b.0 set).0 b.1 in
    let size = b.1.0.size in
    let other = cobasis.0.size in
    let test = length-set_of m.elements (λ e. not (is_element b.0 e)) in
    let whole = count-not m.elements (is_element b.0) in
    let same = count-is_element m.elements b.0 set in
    omega arith

-- a matroid has one dual
pub one-dual : (m a b : Presentation) → IsDual m a → IsDual m b → a ≡ b
one-dual m a b one two =
    let ra = ranks-add_up m a one in
    let rb = ranks-add_up m b two in
    bases-determine a b one.matroid.presentation two.matroid.presentation (one.elements ∙ sym two.elements) (omega arith) (λ x set.
    let here : IsSet m.elements x = subst (λ n. IsSet n x) one.elements set.set in
    ((λ h. (two.bases x here).1 ((one.bases x here).0 h)), (λ h. (one.bases x here).1 ((two.bases x here).0 h))))

-- the dual of the dual is the matroid
pub dual-symmetric : (m dual : Presentation) → IsMatroid m → IsDual m dual → IsDual dual m
dual-symmetric m dual matroid is = record {
  matroid = matroid;
  elements = sym is.elements;
  bases = λ x set.
      let here : IsSet m.elements x = subst (λ n. IsSet n x) is.elements set in
      let other = is.bases (complement m.elements x) (IsSet-set_of m.elements (λ e. not (is_element x e))) in
      let same : complement dual.elements x ≡ complement m.elements x = ap (λ n. complement n x) is.elements in (
        (λ basis. subst (IsBasis dual) (sym same) (other.1 (subst (IsBasis m) (sym (complement-twice m.elements x here)) basis))),
        (λ basis. subst (IsBasis m) (complement-twice m.elements x here) (other.0 (subst (IsBasis dual) same basis))),
      );
}

-- a set within another of its size is that set
same-size : (n : ℕ) (x y : List ℕ) → IsSet n x → IsSet n y → IsSubset x y → length y ≤ length x → x ≡ y
same-size n x y one two sub le =
    let cx = count-is_element n x one in
    let cy = count-is_element n y two in
    same_as_set_of n x (is_element y) one (agree-from_count n (is_element x) (is_element y) (λ j l. Within-from_subset x y sub j) (omega arith)) ∙ set_of-is_element n y two

-- the rank of a basis
basis-rank : (m : Presentation) (x : List ℕ) → IsBasis m x → IsRank m x m.rank
basis-rank m x basis = record {
  reached = (x, basis.0, (λ e h. h), (x, basis, (λ e h. h)));
  greatest = λ y set sub independent.
      let b = independent in
      let le = subset_length y b.0 set.increasing b.1.0.set.increasing (Within-from_subset y b.0 b.2) in
      let size = b.1.0.size in
      omega arith;
}

-- a set of the rank's size and full rank is a basis
rank-basis : (m : Presentation) (x : List ℕ) → IsSetOf m.elements m.rank x → IsRank m x m.rank → IsBasis m x
rank-basis m x set rank =
    let y = rank.reached in
    let size_x = set.size in
    let size_y = y.1.size in
    let same : y.0 ≡ x = same-size m.elements y.0 x y.1.set set.set y.2 (omega arith) in
    let b = y.3 in
    let size_b = b.1.0.size in
    let whole : y.0 ≡ b.0 = same-size m.elements y.0 b.0 y.1.set b.1.0.set b.2 (omega arith) in
    subst (IsBasis m) (sym whole ∙ same) b.1

-- the rank of all elements
all-rank : (m : Presentation) → IsMatroid m → IsRank m (numbers_below m.elements) m.rank
all-rank m matroid =
    let b = matroid.basis in
    let own = basis-rank m b.0 b.1 in
    record {
      reached = (b.0, b.1.0, (λ e h. all e (element-lt m.elements b.0 b.1.0.set e (is_element-from_Contains b.0 e h))), (b.0, b.1, (λ e h. h)));
      greatest = λ y set sub independent.
          let c = independent in
          let le = subset_length y c.0 set.increasing c.1.0.set.increasing (Within-from_subset y c.0 c.2) in
          let size = c.1.0.size in
          omega arith;
    }
  where
    all : (e : ℕ) → e < m.elements → Contains (numbers_below m.elements) e
    all e l = Contains-from_element (numbers_below m.elements) e (is_element-numbers_below m.elements e ∙ (Decides-ltb e m.elements).1 l)

-- the bases of a minor by ranks
pub bases-by_rank : (m : Presentation) (d c : List ℕ) (minor : Presentation) → IsMinor m d c minor → HasBasesByRank m d c minor
bases-by_rank m d c minor is = record {
  rank = (is.ranks (numbers_below minor.elements) minor.rank (IsSet-numbers_below minor.elements)).0 (all-rank minor is.matroid);
  bases = λ x set. (
    (λ basis. (is.ranks x minor.rank set.set).0 (basis-rank minor x basis)),
    (λ over. rank-basis minor x set ((is.ranks x minor.rank set.set).1 over)),
  );
}

-- ranks over a set are single
over-one : (m : Presentation) (c x : List ℕ) (j k : ℕ) → IsRankOver m c x j → IsRankOver m c x k → j ≡ k
over-one m c x j k one two =
    let whole = rank_one m _ one.whole two.whole one.with_c two.with_c in
    let part = rank_one m c one.part two.part one.of_c two.of_c in
    let first = one.difference in
    let second = two.difference in
    omega arith

-- there is one minor
pub one-minor : (m : Presentation) (d c : List ℕ) (a b : Presentation) → IsMinor m d c a → IsMinor m d c b → a ≡ b
one-minor m d c a b one two =
    let first = bases-by_rank m d c a one in
    let second = bases-by_rank m d c b two in
    let elements : a.elements ≡ b.elements = one.elements ∙ sym two.elements in
    let rank : a.rank ≡ b.rank = over-one m c (originals (others m.elements d c) (numbers_below b.elements)) a.rank b.rank (subst (λ n. IsRankOver m c (originals (others m.elements d c) (numbers_below n)) a.rank) elements first.rank) second.rank in
    bases-determine a b one.matroid.presentation two.matroid.presentation elements rank (λ x set.
    let there : IsSetOf b.elements b.rank x = subst (λ r. IsSetOf b.elements r x) rank (subst (λ n. IsSetOf n a.rank x) elements set) in (
      (λ basis. (second.bases x there).1 (subst (IsRankOver m c (originals (others m.elements d c) x)) rank ((first.bases x set).0 basis))),
      (λ basis. (first.bases x set).1 (subst (IsRankOver m c (originals (others m.elements d c) x)) (sym rank) ((second.bases x there).0 basis))),
    ))
