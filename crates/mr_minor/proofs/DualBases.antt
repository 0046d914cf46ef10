-- The sets whose complements are bases are the bases of a matroid, the dual.
use Rattle.std.proofs.Common.{◌≡◌, ℕ, Result, Ok, Err, ◌-◌, ◌↔◌, Bool, true, false, not, List, refl, sym, ap, subst, ◌∙◌, arith}
use Rattle.std.specs.Prelude.{IsTrue, IfOk}
use Rattle.mr_set.specs.Elements.{IsSet, is_element, numbers_below, minus}
use Rattle.mr_set.specs.Subsets.{IsSetOf}
use Rattle.mr_set.specs.Matroid.{Presentation, IsBasis, IsMatroid}
use Rattle.mr_set.proofs.Tests.{IsSet-set_of, length-set_of, count-is_element}
use Rattle.mr_matroid.specs.Exchange.{IsWithinLimits}
use Rattle.mr_minor.specs.Dual.{IsDual, HasCobasis, complement}
use Rattle.mr_minor.specs.Private.Collected.{AreNonbases}
use Rattle.mr_minor.proofs.Counting.{count-not}
use Rattle.mr_minor.proofs.Exchanging.{Exchanging, exchanging-complements}
use Rattle.mr_minor.proofs.Bases.{IsBasisTest, HasBases, exchanging-bases, matroid-from_family, has-bases, basis-from_nonbases, test-of_basis}
use Rattle.mr_minor.proofs.Sizes.{choose-complement}

-- the numbers and sets of the dual
abbrev pub dual_with : Presentation → List (List ℕ) → Presentation
dual_with m sets = record { elements = m.elements; rank = m.elements - m.rank; nonbases = sets }

-- a set whose complement is a basis has as many elements as the rank lacks
pub cobasis-size : (m : Presentation) (x : List ℕ) → IsSet m.elements x → IsBasis m (complement m.elements x) → IsSetOf m.elements (m.elements - m.rank) x
cobasis-size m x set basis = record {
  set = set;
  size = (let size = basis.0.size in
      let test = length-set_of m.elements (λ e. not (is_element x e)) in
      let whole = count-not m.elements (is_element x) in
      let same = count-is_element m.elements x set in
      omega arith);
}

-- the sets whose complements are no bases are the nonbases of the dual
pub dual_is : (m : Presentation) (sets : List (List ℕ)) → IsMatroid m → AreNonbases m.elements (m.elements - m.rank) (HasCobasis m) sets → IsDual m (dual_with m sets)
dual_is m sets matroid are = record {
  matroid = matroid-from_family (dual_with m sets) Cobasis law has (λ j. not (is_element b j)) first;
  elements = refl;
  bases = λ x set. (
    (λ basis. ((basis-from_nonbases n (n - m.rank) sets (HasCobasis m) are x).0 basis).1),
    (λ basis. (basis-from_nonbases n (n - m.rank) sets (HasCobasis m) are x).1 (cobasis-size m x set basis, basis)),
  );
}
  where
    n : ℕ
    n = m.elements

    b : List ℕ
    b = matroid.basis.0

    Cobasis : (ℕ → Bool) → Type 0
    Cobasis x = IsBasisTest m (λ j. not (x j))

    law : Exchanging n (n - m.rank) (λ x. IsBasisTest m (λ j. not (x j)))
    law = exchanging-complements n m.rank (IsBasisTest m) (exchanging-bases m matroid)

    not_not : (p : Bool) → p ≡ not (not p)
    not_not true = refl
    not_not false = refl

    first : IsBasisTest m (λ j. not (not (is_element b j)))
    first = (exchanging-bases m matroid).same (is_element b) (λ j. not (not (is_element b j))) (λ j l. not_not (is_element b j)) (test-of_basis m b matroid.basis.1)

    has : HasBases (dual_with m sets) (λ x. IsBasisTest m (λ j. not (x j)))
    has = has-bases n (n - m.rank) sets (HasCobasis m) (λ x. IsBasisTest m (λ j. not (x j))) (omega arith) are (λ x set. ((λ h. h), (λ h. h)))

-- the dual is within the limits
pub dual_within : (m : Presentation) (sets : List (List ℕ)) → IsMatroid m → IsWithinLimits m → IsWithinLimits (dual_with m sets)
dual_within m sets matroid limits = record {
  elements = limits.elements;
  sets = (let rank = matroid.presentation.rank in
      let same = choose-complement m.elements m.rank (m.elements - m.rank) (omega arith) in
      let most = limits.sets in
      omega arith);
}

-- the complement as it is made
pub complement_is : (m : Presentation) (n : ℕ) (x all rest : List ℕ) → n ≡ m.elements → all ≡ numbers_below n → rest ≡ minus all x → rest ≡ complement m.elements x
complement_is m n x all rest same whole is = is ∙ ap (λ (w : List ℕ). minus w x) (whole ∙ ap numbers_below same)

-- whether a set is a cobasis, by whether its complement is a basis
pub cobasis_answer : (m : Presentation) (n : ℕ) (x all rest : List ℕ) (b : Bool) → n ≡ m.elements → all ≡ numbers_below n → rest ≡ minus all x → IsTrue b ↔ IsBasis m rest → IsTrue b ↔ HasCobasis m x
cobasis_answer m n x all rest b same whole is answer = subst (λ (y : List ℕ). IsTrue b ↔ IsBasis m y) (complement_is m n x all rest same whole is) answer

-- it is a set
pub complement-set : (m : Presentation) (n : ℕ) (x all rest : List ℕ) → n ≡ m.elements → all ≡ numbers_below n → rest ≡ minus all x → IsSet m.elements rest
complement-set m n x all rest same whole is = subst (IsSet m.elements) (sym (complement_is m n x all rest same whole is)) (IsSet-set_of m.elements (λ e. not (is_element x e)))

-- the dual's numbers, by equal ones
pub as_dual : (m : Presentation) (n k : ℕ) (sets : List (List ℕ)) → n ≡ m.elements → k ≡ m.elements - m.rank → record { elements = n; rank = k; nonbases = sets } ≡ dual_with m sets
as_dual m n k sets same size =
    ap (λ j. let p : Presentation = record { elements = j; rank = k; nonbases = sets } in p) same ∙ ap (λ j. let p : Presentation = record { elements = m.elements; rank = j; nonbases = sets } in p) size

-- what was made of the dual's numbers and nonbases
pub dual_made : {E : Type 0} (r : Result Presentation E) (m : Presentation) (n k : ℕ) (sets : List (List ℕ)) → n ≡ m.elements → k ≡ m.elements - m.rank → IsDual m (dual_with m sets)
    → IfOk r (λ d. d ≡ record { elements = n; rank = k; nonbases = sets }) → IfOk r (IsDual m)
dual_made (Ok d) m n k sets same size is made = subst (IsDual m) (sym (made ∙ as_dual m n k sets same size)) is
dual_made (Err e) m n k sets same size is made = tt
