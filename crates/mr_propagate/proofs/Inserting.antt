-- The way of a clause through the branches.
use Rattle.std.proofs.Common.{ℕ, suc, ◌+◌, ◌*◌, ◌/◌, ◌%◌, ◌-◌, ◌≡◌, ◌≢◌, ◌<◌, ◌≤◌, ◌++◌, List, [], ◌∷◌, length, get_or, set, Some, None, refl, sym, ap, subst, ◌∙◌, inl, inr, ⊎_elim, arith, length-set}
use Rattle.std.specs.Prelude.{slice_get}
use Rattle.std.proofs.lemmas.Bool.{cases_eq, cases_lt}
use Rattle.std.proofs.lemmas.List.{length_push, length-replicate, get_or-set_same, get_or-set_other, ext_get_or}
use Rattle.std.proofs.lemmas.Option.{none-some, slice_get_within}
use Rattle.mr_assign.specs.Assign.{IsAssign, no_values}
use Rattle.mr_assign.specs.declared.TheConstants.{POSITIONS, VALUES}
use Rattle.mr_assign.proofs.Maps.{get_or-no_values}
use Rattle.mr_nogood.specs.declared.row.Row.{Row}
use Rattle.mr_nogood.specs.Follows.{Rows}
use Rattle.mr_propagate.specs.declared.trie.Branch.{Branch}
use Rattle.mr_propagate.specs.Private.Pairs.{IsEmpty, IsGreatestPair, pair_number}
use Rattle.mr_propagate.specs.Private.Trie.{pairs_of, IsTrie, Along, Below, itself, under, HasNoSlots, IsHolding, IsNew, IsMore, IsChild, IsBeside, HasPair, IsUpper, IsOnTheWay, EndsThere}
use Rattle.mr_propagate.proofs.Branches.{slice_get-push_old, slice_get-push_new, stands, one_there, child_above, below_trans}
use Rattle.mr_propagate.proofs.Numbered.{one_greatest_number, value_le}

-- the branch of the empty clause or of a greatest pair
pub record IsRoot (k : ℕ) (b : Branch) : Type 0 where
  pub first : b.first ≡ 0
  pub next : b.next ≡ 0
  pub slot : b.slot ≡ None
  pub above : b.above.value ≡ no_values
  pub none : k ≡ 0 → (b.position ≡ 0) × (b.value ≡ 0)
  pub pair : k ≢ 0 → (b.position ≡ (k - 1) / VALUES) × (b.value ≡ (k - 1) % VALUES + 1)

-- the first branches are such
pub record AreRoots (bs : List Branch) (n : ℕ) : Type 0 where
  pub size : length bs ≡ n
  pub are : (k : ℕ) (b : Branch) → slice_get bs k ≡ Some b → IsRoot k b

-- no branches are
pub roots_none : AreRoots [] 0
roots_none = record { size = refl; are = λ k b is. absurd (none-some b is) }

-- one branch more is
pub roots_more : (bs : List Branch) (n : ℕ) (b : Branch) → AreRoots bs n → IsRoot n b → AreRoots (bs ++ b ∷ []) (n + 1)
roots_more bs n b roots root = record {
  size = length_push bs b ∙ ap (λ (k : ℕ). k + 1) roots.size;
  are = λ k c at. ⊎_elim
      (λ (lt : k < length bs).
      let (d, here) = stands bs k lt in
      subst (IsRoot k) (one_there (bs ++ b ∷ []) k d c (slice_get-push_old bs b k d here) at) (roots.are k d here))
      (λ (le : length bs ≤ k).
      let within = slice_get_within (bs ++ b ∷ []) k c at in
      let count = length_push bs b in
      let same : k ≡ length bs = omega arith in
      let is : b ≡ c = one_there (bs ++ b ∷ []) k b c (ap (slice_get (bs ++ b ∷ [])) same ∙ slice_get-push_new bs b) at in
      subst (IsRoot k) is (subst (λ (j : ℕ). IsRoot j b) (sym (same ∙ roots.size)) root))
      (cases_lt k (length bs));
}

-- the first branch, with no pair
pub root_none : (b : Branch) → IsNew 0 0 no_values b → IsRoot 0 b
root_none b new = record { first = new.first; next = new.next; slot = new.slot; above = new.above; none = λ e. (new.position, new.value); pair = λ some. absurd (some refl) }

-- the branch of a greatest pair
pub root_pair : (k p v : ℕ) (b : Branch) → p ≡ k / VALUES → v ≡ k % VALUES + 1 → IsNew p v no_values b → IsRoot (k + 1) b
root_pair k p v b position value new = record {
  first = new.first;
  next = new.next;
  slot = new.slot;
  above = new.above;
  none = λ e. absurd (omega arith);
  pair = λ some.
      let same : k + 1 - 1 ≡ k = omega arith in
      (new.position ∙ position ∙ ap (λ (x : ℕ). x / VALUES) (sym same), new.value ∙ value ∙ ap (λ (x : ℕ). x % VALUES + 1) (sym same));
}

-- with all of them the branches are as they are to be
pub roots_trie : (bs : List Branch) → AreRoots bs (POSITIONS * VALUES + 1) → IsTrie bs × HasNoSlots bs
roots_trie bs roots = (
  record {
    size = let n = roots.size in omega arith;
    empty = λ b at. let root = roots.are 0 b at in
        ap (λ (xs : List ℕ). set xs b.position b.value) root.above ∙ ap (λ (p : ℕ). set no_values p b.value) (root.none refl).0 ∙ ap (set no_values 0) (root.none refl).1;
    roots = λ p v b pair at.
        let root = roots.are (pair_number p v) b at in
        let some : pair_number p v ≢ 0 = let positive = pair.some in omega arith in
        let is = root.pair some in
        let low = pair.some in
        let high = pair.value in
        let position : b.position ≡ p = is.0 ∙ (let e : (pair_number p v - 1) / VALUES ≡ p = omega arith in e) in
        let value : b.value ≡ v = is.1 ∙ (let e : (pair_number p v - 1) % VALUES + 1 ≡ v = omega arith in e) in
        ap (λ (xs : List ℕ). set xs b.position b.value) root.above ∙ ap (λ (q : ℕ). set no_values q b.value) position ∙ ap (set no_values p) value;
    positions = λ k b at.
        let root = roots.are k b at in
        let within = slice_get_within bs k b at in
        let n = roots.size in
        ⊎_elim
        (λ (zero : k ≡ 0). let e = (root.none zero).0 in omega arith)
        (λ (some : k ≢ 0). let e = (root.pair some).0 in omega arith)
        (cases_eq k 0);
    values = λ k b at some. let e = ((roots.are k b at).pair some).1 in omega arith;
    first = λ k b at some. absurd (some (roots.are k b at).first);
    next = λ k b at some. absurd (some (roots.are k b at).next);
  },
  λ k b at. (roots.are k b at).slot,
)

-- where no slot is kept, there are no rows
pub holding_none : (bs : List Branch) (rows : Rows) → HasNoSlots bs → ((s : ℕ) (row : Row) → rows s ≡ Some row → ⊥) → IsHolding rows bs
holding_none bs rows none nothing = record {
  sound = λ k s b at keeps. absurd (none-some s (sym (none k b at) ∙ keeps));
  complete = λ s row i has number. absurd (nothing s row has);
}

-- the greatest pair alone
pub upper_start : (c : List ℕ) (p : ℕ) → IsAssign c → p < POSITIONS → IsGreatestPair c p (get_or c p 0) → IsUpper c p (set no_values p (get_or c p 0))
upper_start c p map small greatest = (
  length-set no_values p (get_or c p 0) ∙ length-replicate {A = ℕ} POSITIONS 0,
  (λ q le. ⊎_elim
      (λ (same : q ≡ p). ap (λ (x : ℕ). get_or (set no_values p (get_or c p 0)) x 0) same ∙ get_or-set_same no_values p (get_or c p 0) 0 (let n = length-replicate {A = ℕ} POSITIONS 0 in omega arith) ∙ ap (λ (x : ℕ). get_or c x 0) (sym same))
      (λ (other : q ≢ p). get_or-set_other no_values p q (get_or c p 0) 0 other ∙ get_or-no_values q ∙ sym (greatest.greatest q (omega arith)))
      (cases_eq q p)),
  (λ q lt. get_or-set_other no_values p q (get_or c p 0) 0 (omega arith) ∙ get_or-no_values q),
)

-- a position without a value
pub upper_passed : (c : List ℕ) (q : ℕ) (pairs : List ℕ) → get_or c q 0 ≡ 0 → IsUpper c (suc q) pairs → IsUpper c q pairs
upper_passed c q pairs none (size, above, under_it) = (
  size,
  (λ r le. ⊎_elim
      (λ (same : r ≡ q). under_it r (omega arith) ∙ sym none ∙ ap (λ (x : ℕ). get_or c x 0) (sym same))
      (λ (other : r ≢ q). above r (omega arith))
      (cases_eq r q)),
  (λ r lt. under_it r (omega arith)),
)

-- a position with one
pub upper_taken : (c : List ℕ) (q : ℕ) (pairs : List ℕ) → q < POSITIONS → IsUpper c (suc q) pairs → IsUpper c q (set pairs q (get_or c q 0))
upper_taken c q pairs small (size, above, under_it) = (
  length-set pairs q (get_or c q 0) ∙ size,
  (λ r le. ⊎_elim
      (λ (same : r ≡ q). ap (λ (x : ℕ). get_or (set pairs q (get_or c q 0)) x 0) same ∙ get_or-set_same pairs q (get_or c q 0) 0 (omega arith) ∙ ap (λ (x : ℕ). get_or c x 0) (sym same))
      (λ (other : r ≢ q). get_or-set_other pairs q r (get_or c q 0) 0 other ∙ above r (omega arith))
      (cases_eq r q)),
  (λ r lt. get_or-set_other pairs q r (get_or c q 0) 0 (omega arith) ∙ under_it r (omega arith)),
)

-- all pairs
pub upper_all : (c : List ℕ) (pairs : List ℕ) → IsAssign c → IsUpper c 0 pairs → pairs ≡ c
upper_all c pairs map (size, above, under_it) = ext_get_or 0 pairs c (size ∙ sym map.positions) (λ q lt. above q (omega arith))

-- an empty clause is the empty map
pub empty_is : (c : List ℕ) → IsAssign c → IsEmpty c → no_values ≡ c
empty_is c map empty = ext_get_or 0 no_values c (length-replicate {A = ℕ} POSITIONS 0 ∙ sym map.positions) (λ q lt. get_or-no_values q ∙ sym (empty q))

module _ (bs : List Branch) (trie : IsTrie bs) where
  -- the empty clause ends at the first branch
  pub ends_first : (c : List ℕ) → IsAssign c → IsEmpty c → EndsThere bs c 0
  ends_first c map empty =
      let (b, there) = stands bs 0 (let size = trie.size in omega arith) in
      record {
        branch = b;
        there = there;
        is = trie.empty b there ∙ empty_is c map empty;
        below = λ i number. subst (λ (x : ℕ). Below bs c x 0) (one_greatest_number c 0 i (inl (refl, empty)) number) itself;
      }

  -- a clause begins at the branch of its greatest pair
  pub way_start : (c : List ℕ) (p v k : ℕ) (pairs : List ℕ) → IsAssign c → p < POSITIONS → v ≡ get_or c p 0 → IsGreatestPair c p (get_or c p 0) → k ≡ pair_number p v → pairs ≡ set no_values p v → IsOnTheWay bs c k p pairs k
  way_start c p v k pairs map small value greatest is made =
      let high : v ≤ VALUES = subst (λ (x : ℕ). x ≤ VALUES) (sym value) (value_le c p map) in
      let some = greatest.some in
      let low : 0 < v = let e : v ≢ 0 = λ zero. some (sym value ∙ zero) in omega arith in
      let (b, there) = stands bs k (let size = trie.size in omega arith) in
      record {
        upper = subst (IsUpper c p) (sym (made ∙ ap (set no_values p) value)) (upper_start c p map small greatest);
        branch = b;
        there = there;
        is = trie.roots p v b (record { position = small; some = low; value = high }) (ap (slice_get bs) (sym is) ∙ there) ∙ sym made;
        below = itself;
      }

module _ (bs : List Branch) (c : List ℕ) (i q : ℕ) (pairs : List ℕ) (k : ℕ) (way : IsOnTheWay bs c i (suc q) pairs k) where
  -- a position without a value is passed
  pub way_passed : get_or c q 0 ≡ 0 → IsOnTheWay bs c i q pairs k
  way_passed none = record { upper = upper_passed c q pairs none way.upper; branch = way.branch; there = way.there; is = way.is; below = way.below }

  -- at one with a value the way goes one pair further down
  pub way_taken : (after : List Branch) (v j : ℕ) (more : List ℕ) → q < POSITIONS → v ≡ get_or c q 0 → IsMore bs after → IsChild after k q v pairs j → more ≡ set pairs q v → IsOnTheWay after c i q more j
  way_taken after v j more small value grown child made = record {
    upper = subst (IsUpper c q) (sym (made ∙ ap (set pairs q) value)) (upper_taken c q pairs small way.upper);
    branch = child.branch;
    there = child.there;
    is = ap (λ (xs : List ℕ). set xs child.branch.position child.branch.value) child.above ∙ ap (λ (x : ℕ). set pairs x child.branch.value) child.position ∙ ap (set pairs q) child.value ∙ sym made;
    below = below_trans after c (grown.below c i k way.below) (child.below c (sym value));
  }

-- the whole clause
pub way_all : (bs : List Branch) (c : List ℕ) (i : ℕ) (pairs : List ℕ) (k : ℕ) → IsAssign c → IsOnTheWay bs c i 0 pairs k → IsOnTheWay bs c i 0 c k
way_all bs c i pairs k map way = subst (λ (xs : List ℕ). IsOnTheWay bs c i 0 xs k) (upper_all c pairs map way.upper) way

-- a clause ends where its way does
pub way_ends : (bs : List Branch) (c : List ℕ) (p v i k : ℕ) → IsGreatestPair c p v → i ≡ pair_number p v → IsOnTheWay bs c i 0 c k → EndsThere bs c k
way_ends bs c p v i k greatest is way = record {
  branch = way.branch;
  there = way.there;
  is = way.is;
  below = λ j number. subst (λ (x : ℕ). Below bs c x k) (one_greatest_number c i j (inr (p, v, is, greatest)) number) way.below;
}

module _ (bs : List Branch) (trie : IsTrie bs) (k p v : ℕ) (pairs : List ℕ) (b : Branch) (there : slice_get bs k ≡ Some b) (is : pairs_of b ≡ pairs) (some : b.first ≢ 0) where
  -- the branches beside each other below one have its pairs above them
  pub beside_above : (j : ℕ) (d : Branch) → Along bs b.first j → slice_get bs j ≡ Some d → d.above.value ≡ pairs
  beside_above j d along at = child_above bs trie k b d there some along at ∙ is

  -- one with the pair is the child
  pub child_found : (j : ℕ) (d : Branch) → Along bs b.first j → slice_get bs j ≡ Some d → HasPair p v d → IsChild bs k p v pairs j
  child_found j d along at has = record {
    branch = d;
    there = at;
    position = has.0;
    value = has.1;
    above = beside_above j d along at;
    below = λ a agrees. under b d there some along at (ap (λ (x : ℕ). get_or a x 0) has.0 ∙ agrees ∙ sym has.1) itself;
  }

  -- so is one that was made beside them
  pub child_beside : (after : List Branch) (j c : ℕ) → Along bs b.first j → IsBeside bs after j p v pairs c → IsChild after k p v pairs c
  child_beside after j c along beside =
      let (e, here, same) = beside.first k b there some in
      record {
        branch = beside.branch;
        there = beside.there;
        position = beside.position;
        value = beside.value;
        above = beside.above;
        below = λ a agrees. under e beside.branch here (λ zero. some (sym same ∙ zero)) (subst (λ (x : ℕ). Along after x c) (sym same) (beside.along b.first along)) beside.there
            (ap (λ (x : ℕ). get_or a x 0) beside.position ∙ agrees ∙ sym beside.value) itself;
      }
