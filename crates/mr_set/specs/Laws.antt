-- What holds of all sets of one size, of first bases and of ranks.
use Rattle.std.specs.Prelude.{◌≡◌, ℕ, ◌+◌, List, length}
use Rattle.mr_set.specs.Subsets.{IsFirst, IsNext, choose}
use Rattle.mr_set.specs.Places.{IsAllSets, IsPlaceOf}
use Rattle.mr_set.specs.Matroid.{Presentation, IsFirstBasis, IsRank}

-- a set stands at no more than one place
abbrev pub SetHasOnePlace : Type 0
SetHasOnePlace = (n : ℕ) (x : List ℕ) (j k : ℕ) → IsPlaceOf n x j → IsPlaceOf n x k → j ≡ k

-- at most one set of each size stands at a place
abbrev pub PlaceHasOneSet : Type 0
PlaceHasOneSet = (n : ℕ) (x y : List ℕ) (k : ℕ) → length x ≡ length y → IsPlaceOf n x k → IsPlaceOf n y k → x ≡ y

-- the sets of one size can be listed in order
abbrev pub SetsCanBeListed : Type 0
SetsCanBeListed = (n r : ℕ) → (all : List (List ℕ)) × IsAllSets n r all

-- the sets of r of n elements are as many as the recursion of Pascal's triangle says
abbrev pub SetsAreCounted : Type 0
SetsAreCounted = (n r : ℕ) (all : List (List ℕ)) → IsAllSets n r all → length all ≡ choose n r

-- the first set of its size stands at place 0
abbrev pub FirstSetStandsFirst : Type 0
FirstSetStandsFirst = (n r : ℕ) (x : List ℕ) → IsFirst n r x → IsPlaceOf n x 0

-- the next set stands at the next place
abbrev pub NextSetStandsNext : Type 0
NextSetStandsNext = (n : ℕ) (x y : List ℕ) (k : ℕ) → IsPlaceOf n x k → IsNext n x y → IsPlaceOf n y (k + 1)

-- a matroid has at most one first basis
abbrev pub FirstBasisIsUnique : Type 0
FirstBasisIsUnique = (m : Presentation) (b c : List ℕ) → IsFirstBasis m b → IsFirstBasis m c → b ≡ c

-- a set has at most one rank
abbrev pub RankIsUnique : Type 0
RankIsUnique = (m : Presentation) (x : List ℕ) (j k : ℕ) → IsRank m x j → IsRank m x k → j ≡ k
