-- What holds of duals and minors.
use Rattle.std.specs.Prelude.{◌≡◌, ◌↔◌, ℕ, ◌+◌, List, [], Contains}
use Rattle.mr_set.specs.Elements.{IsSet, numbers_below}
use Rattle.mr_set.specs.Subsets.{IsSetOf}
use Rattle.mr_set.specs.Matroid.{Presentation, IsPresentation, IsBasis, IsMatroid}
use Rattle.mr_minor.specs.Dual.{IsDual}
use Rattle.mr_minor.specs.Minor.{others, originals, IsRankOver, IsMinor}

-- numbers and sets are determined by their bases
abbrev pub BasesDetermine : Type 0
BasesDetermine =
    (a b : Presentation) → IsPresentation a → IsPresentation b → a.elements ≡ b.elements → a.rank ≡ b.rank → ((x : List ℕ) → IsSetOf a.elements a.rank x → IsBasis a x ↔ IsBasis b x) → a ≡ b

-- a matroid and its dual have as many elements as their ranks together
abbrev pub RanksAddUp : Type 0
RanksAddUp = (m dual : Presentation) → IsDual m dual → m.rank + dual.rank ≡ m.elements

-- a matroid has one dual
abbrev pub ThereIsOneDual : Type 0
ThereIsOneDual = (m a b : Presentation) → IsDual m a → IsDual m b → a ≡ b

-- the dual of the dual is the matroid
abbrev pub DualityIsSymmetric : Type 0
DualityIsSymmetric = (m dual : Presentation) → IsMatroid m → IsDual m dual → IsDual dual m

-- A minor's rank is that of all its elements, by the matroid's ranks. Its bases are the sets of that many elements and full rank.
pub record HasBasesByRank (m : Presentation) (d c : List ℕ) (minor : Presentation) : Type 0 where
  pub rank : IsRankOver m c (originals (others m.elements d c) (numbers_below minor.elements)) minor.rank
  pub bases : (x : List ℕ) → IsSetOf minor.elements minor.rank x → IsBasis minor x ↔ IsRankOver m c (originals (others m.elements d c) x) minor.rank

-- the bases of a minor, by the matroid's ranks
abbrev pub MinorsHaveBasesByRank : Type 0
MinorsHaveBasesByRank = (m : Presentation) (d c : List ℕ) (minor : Presentation) → IsMinor m d c minor → HasBasesByRank m d c minor

-- there is one minor by deleting d and contracting c
abbrev pub ThereIsOneMinor : Type 0
ThereIsOneMinor = (m : Presentation) (d c : List ℕ) (a b : Presentation) → IsMinor m d c a → IsMinor m d c b → a ≡ b

-- deleting first, and contracting then the elements of new numbers, is the minor
abbrev pub MinorsAreMadeInSteps : Type 0
MinorsAreMadeInSteps =
    (m : Presentation) (d c : List ℕ) (a b : Presentation) → IsMatroid m → IsMinor m d [] a → IsSet a.elements c → IsMinor a [] c b → IsMinor m d (originals (others m.elements d []) c) b

-- contracting first, and deleting then the elements of new numbers, is the minor
abbrev pub MinorsAreMadeInTheOtherOrder : Type 0
MinorsAreMadeInTheOtherOrder =
    (m : Presentation) (d c : List ℕ) (a b : Presentation) → IsMatroid m → IsSet m.elements c → IsMinor m [] c a → IsSet a.elements d → IsMinor a d [] b → IsMinor m (originals (others m.elements [] c) d) c b

-- each matroid has a dual
abbrev pub MatroidsHaveDuals : Type 0
MatroidsHaveDuals = (m : Presentation) → IsMatroid m → (dual : Presentation) × IsDual m dual

-- each matroid has the minor by deleting any elements and contracting a set of its elements
abbrev pub MatroidsHaveMinors : Type 0
MatroidsHaveMinors = (m : Presentation) (d c : List ℕ) → IsMatroid m → IsSet m.elements c → (minor : Presentation) × IsMinor m d c minor

-- where d and c have no element in common, deleting c and contracting d in the dual gives the dual of the minor by deleting d and contracting c
abbrev pub MinorsOfDuals : Type 0
MinorsOfDuals =
    (m : Presentation) (d c : List ℕ) (dual a b : Presentation) → IsMatroid m → IsSet m.elements d → IsSet m.elements c → ((e : ℕ) → Contains d e → ¬ (Contains c e)) → IsDual m dual → IsMinor m d c a → IsMinor dual c d b → IsDual a b
