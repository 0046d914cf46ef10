-- Clauses in branches: those that begin with the same pairs, from the greatest position down, have the branches of these in
-- common.
use Rattle.std.specs.Prelude.{◌≡◌, ◌≢◌, ◌⊎◌, ℕ, ◌+◌, ◌*◌, ◌<◌, ◌≤◌, List, [], ◌∷◌, ◌++◌, Option, Some, None, length, slice_get, slice_index, slice_set}
use Rattle.mr_assign.specs.Assign.{no_values}
use Rattle.mr_assign.specs.declared.TheConstants.{POSITIONS, VALUES}
use Rattle.mr_nogood.specs.declared.row.Row.{Row}
use Rattle.mr_nogood.specs.Follows.{Rows}
use Rattle.mr_propagate.specs.declared.trie.Branch.{Branch}
use Rattle.mr_propagate.specs.Private.Pairs.{IsPair, pair_number, IsGreatestPair, IsPairNumber}

-- the pairs down to a branch
abbrev pub pairs_of : Branch → List ℕ
pairs_of b = slice_set b.above.value b.position b.value

-- the first link leads to a branch one pair further down, the next one to one with the same pairs above it
pub record IsLink (bs : List Branch) (i j : ℕ) (pairs : List ℕ) : Type 0 where
  pub branch : Branch
  pub there : slice_get bs j ≡ Some branch
  pub later : i < j
  pub above : branch.above.value ≡ pairs

-- There is a branch for the empty clause, and one for each greatest pair by its number. Links lead to later branches.
pub record IsTrie (bs : List Branch) : Type 0 where
  pub size : POSITIONS * VALUES < length bs
  pub empty : (b : Branch) → slice_get bs 0 ≡ Some b → pairs_of b ≡ no_values
  pub roots : (p v : ℕ) (b : Branch) → IsPair p v → slice_get bs (pair_number p v) ≡ Some b → pairs_of b ≡ slice_set no_values p v
  pub positions : (k : ℕ) (b : Branch) → slice_get bs k ≡ Some b → b.position < POSITIONS
  pub values : (k : ℕ) (b : Branch) → slice_get bs k ≡ Some b → k ≢ 0 → b.value ≢ 0
  pub first : (k : ℕ) (b : Branch) → slice_get bs k ≡ Some b → b.first ≢ 0 → IsLink bs k b.first (pairs_of b)
  pub next : (k : ℕ) (b : Branch) → slice_get bs k ≡ Some b → b.next ≢ 0 → IsLink bs k b.next b.above.value

-- the branch c is j or comes after it beside it
pub data Along (bs : List Branch) : ℕ → ℕ → Type 0 where
  it : {j : ℕ} → Along bs j j
  later : {j c : ℕ} (b : Branch) → slice_get bs j ≡ Some b → b.next ≢ 0 → Along bs b.next c → Along bs j c

-- the branch k is i or comes below it, and a has the pairs on the way there
pub data Below (bs : List Branch) (a : List ℕ) : ℕ → ℕ → Type 0 where
  itself : {i : ℕ} → Below bs a i i
  under : {i c k : ℕ} (b d : Branch) → slice_get bs i ≡ Some b → b.first ≢ 0 → Along bs b.first c → slice_get bs c ≡ Some d → slice_index a d.position ≡ d.value → Below bs a c k → Below bs a i k

-- the branch k comes below i and keeps the slot s
pub record KeepsBelow (bs : List Branch) (a : List ℕ) (i k s : ℕ) : Type 0 where
  pub below : Below bs a i k
  pub branch : Branch
  pub there : slice_get bs k ≡ Some branch
  pub keeps : branch.slot ≡ Some s

-- A slot that a branch keeps is that of a row whose clause ends there. Where the clause of a row ends, its slot or a lesser
-- one is kept.
pub record IsHolding (rows : Rows) (bs : List Branch) : Type 0 where
  pub sound : (k s : ℕ) (b : Branch) → slice_get bs k ≡ Some b → b.slot ≡ Some s → (row : Row) × (rows s ≡ Some row) × (row.clause ≡ pairs_of b)
  pub complete : (s : ℕ) (row : Row) (i : ℕ) → rows s ≡ Some row → IsPairNumber IsGreatestPair row.clause i → (k : ℕ) × (t : ℕ) × KeepsBelow bs row.clause i k t × (t ≤ s)

-- no slot is kept
abbrev pub HasNoSlots : List Branch → Type 0
HasNoSlots bs = (k : ℕ) (b : Branch) → slice_get bs k ≡ Some b → b.slot ≡ None

-- what was found is a slot that is kept below, and no lesser one is
pub record IsLeastBelow (bs : List Branch) (a : List ℕ) (i : ℕ) (found : Option ℕ) : Type 0 where
  pub kept : (s : ℕ) → found ≡ Some s → (k : ℕ) × KeepsBelow bs a i k s
  pub least : (k s : ℕ) → KeepsBelow bs a i k s → (t : ℕ) × (found ≡ Some t) × (t ≤ s)

-- a new branch with these pairs above it
pub record IsNew (p v : ℕ) (pairs : List ℕ) (b : Branch) : Type 0 where
  pub position : b.position ≡ p
  pub value : b.value ≡ v
  pub first : b.first ≡ 0
  pub next : b.next ≡ 0
  pub slot : b.slot ≡ None
  pub above : b.above.value ≡ pairs

-- a branch, where d is the new last one, of number n: it may have a link to that where it had none
pub record IsLinked (n : ℕ) (d b after : Branch) : Type 0 where
  pub position : after.position ≡ b.position
  pub value : after.value ≡ b.value
  pub slot : after.slot ≡ b.slot
  pub above : after.above.value ≡ b.above.value
  pub first : (after.first ≡ b.first) ⊎ ((b.first ≡ 0) × (after.first ≡ n) × (d.above.value ≡ pairs_of b))
  pub next : (after.next ≡ b.next) ⊎ ((b.next ≡ 0) × (after.next ≡ n) × (d.above.value ≡ b.above.value))

-- one branch more, to which some of the others may have links
pub record IsGrown (bs after : List Branch) (d : Branch) : Type 0 where
  pub size : length after ≡ length bs + 1
  pub new : slice_get after (length bs) ≡ Some d
  pub old : (k : ℕ) (b : Branch) → slice_get bs k ≡ Some b → (c : Branch) × (slice_get after k ≡ Some c) × IsLinked (length bs) d b c

-- the branches after some were made
pub record IsMore (bs after : List Branch) : Type 0 where
  pub trie : IsTrie after
  pub longer : length bs ≤ length after
  pub holding : (rows : Rows) → IsHolding rows bs → IsHolding rows after
  pub below : (a : List ℕ) (i k : ℕ) → Below bs a i k → Below after a i k

-- the branch c has this pair, and comes below k
pub record IsChild (bs : List Branch) (k : ℕ) (p v : ℕ) (pairs : List ℕ) (c : ℕ) : Type 0 where
  pub branch : Branch
  pub there : slice_get bs c ≡ Some branch
  pub position : branch.position ≡ p
  pub value : branch.value ≡ v
  pub above : branch.above.value ≡ pairs
  pub below : (a : List ℕ) → slice_index a p ≡ v → Below bs a k c

-- the branch has this pair
abbrev pub HasPair : ℕ → ℕ → Branch → Type 0
HasPair p v b = (b.position ≡ p) × (b.value ≡ v)

-- the branch c has this pair, and j has a link to it
pub record IsBeside (before after : List Branch) (j : ℕ) (p v : ℕ) (pairs : List ℕ) (c : ℕ) : Type 0 where
  pub branch : Branch
  pub there : slice_get after c ≡ Some branch
  pub position : branch.position ≡ p
  pub value : branch.value ≡ v
  pub above : branch.above.value ≡ pairs
  pub along : (i : ℕ) → Along before i j → Along after i c
  pub first : (k : ℕ) (b : Branch) → slice_get before k ≡ Some b → b.first ≢ 0 → (d : Branch) × (slice_get after k ≡ Some d) × (d.first ≡ b.first)

-- a new branch at the end
pub record IsPushed (bs : List Branch) (p v : ℕ) (pairs : List ℕ) (after : List Branch) : Type 0 where
  pub branch : Branch
  pub new : IsNew p v pairs branch
  pub is : after ≡ bs ++ branch ∷ []

-- the pairs of the map at the positions from p on
abbrev pub IsUpper : List ℕ → ℕ → List ℕ → Type 0
IsUpper c p pairs = (length pairs ≡ POSITIONS) × ((q : ℕ) → p ≤ q → slice_index pairs q ≡ slice_index c q) × ((q : ℕ) → q < p → slice_index pairs q ≡ 0)

-- the branch k has the clause's pairs at the positions from p on
pub record IsOnTheWay (bs : List Branch) (c : List ℕ) (i p : ℕ) (pairs : List ℕ) (k : ℕ) : Type 0 where
  pub upper : IsUpper c p pairs
  pub branch : Branch
  pub there : slice_get bs k ≡ Some branch
  pub is : pairs_of branch ≡ pairs
  pub below : Below bs c i k

-- the clause ends at the branch k
pub record EndsThere (bs : List Branch) (c : List ℕ) (k : ℕ) : Type 0 where
  pub branch : Branch
  pub there : slice_get bs k ≡ Some branch
  pub is : pairs_of branch ≡ c
  pub below : (i : ℕ) → IsPairNumber IsGreatestPair c i → Below bs c i k
