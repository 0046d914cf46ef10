-- Branches after one was made.
use Rattle.std.proofs.Common.{ℕ, ◌+◌, ◌≡◌, ◌≢◌, ◌<◌, ◌≤◌, ◌⊎◌, ◌++◌, List, [], ◌∷◌, length, get_or, set, Some, None, refl, sym, ap, subst, ◌∙◌, inl, inr, ⊎_elim, arith, length-set}
use Rattle.std.specs.Prelude.{slice_get}
use Rattle.std.proofs.lemmas.Bool.{cases_eq, cases_lt}
use Rattle.std.proofs.lemmas.List.{length_push}
use Rattle.std.proofs.lemmas.Option.{none-some, slice_get_within, slice_get_read}
use Rattle.mr_assign.specs.declared.TheConstants.{POSITIONS}
use Rattle.mr_nogood.specs.Follows.{Rows}
use Rattle.mr_propagate.specs.declared.trie.Branch.{Branch}
use Rattle.mr_propagate.specs.Private.Pairs.{pair_number}
use Rattle.mr_propagate.specs.Private.Trie.{pairs_of, IsLink, IsTrie, Along, it, later, Below, itself, under, IsHolding, IsLinked, IsGrown, IsMore, IsChild, IsBeside, IsPushed}
use Rattle.mr_propagate.proofs.Branches.{slice_get-set_same, slice_get-set_other, slice_get-push_old, slice_get-push_new, stands, one_there, same_pairs, along_trans}

-- a branch that has at least the links
pub record IsAlike (b c : Branch) : Type 0 where
  pub position : c.position ≡ b.position
  pub value : c.value ≡ b.value
  pub first : b.first ≢ 0 → c.first ≡ b.first
  pub next : b.next ≢ 0 → c.next ≡ b.next

-- each branch is alike
abbrev pub AreAlike : List Branch → List Branch → Type 0
AreAlike bs after = (k : ℕ) (b : Branch) → slice_get bs k ≡ Some b → (c : Branch) × (slice_get after k ≡ Some c) × IsAlike b c

module _ (bs after : List Branch) (alike : AreAlike bs after) where
  -- what comes beside stays beside
  pub along_more : {j c : ℕ} → Along bs j c → Along after j c
  along_more it = it
  along_more {j} {c} (later b at some rest) =
      let (d, there, like) = alike j b at in
      let same : d.next ≡ b.next = like.next some in
      later d there (λ zero. some (sym same ∙ zero)) (subst (λ (x : ℕ). Along after x c) (sym same) (along_more rest))

  -- what comes below stays below
  pub below_more : (a : List ℕ) {i k : ℕ} → Below bs a i k → Below after a i k
  below_more a itself = itself
  below_more a {i} {k} (under {c = c} b d at some along there agrees rest) =
      let (e, here, like) = alike i b at in
      let (f, next, other) = alike c d there in
      let same : e.first ≡ b.first = like.first some in
      under e f here (λ zero. some (sym same ∙ zero)) (subst (λ (x : ℕ). Along after x c) (sym same) (along_more along)) next
      (ap (λ (p : ℕ). get_or a p 0) other.position ∙ agrees ∙ sym other.value) (below_more a rest)

-- a branch that was not changed
linked_same : (n : ℕ) (d b : Branch) → IsLinked n d b b
linked_same n d b = record { position = refl; value = refl; slot = refl; above = refl; first = inl refl; next = inl refl }

-- a branch with a link to the new one is alike
linked_alike : (n : ℕ) (d b c : Branch) → IsLinked n d b c → IsAlike b c
linked_alike n d b c linked = record {
  position = linked.position;
  value = linked.value;
  first = λ some. ⊎_elim (λ same. same) (λ (other : (b.first ≡ 0) × (c.first ≡ n) × (d.above.value ≡ pairs_of b)). absurd (some other.0)) linked.first;
  next = λ some. ⊎_elim (λ same. same) (λ (other : (b.next ≡ 0) × (c.next ≡ n) × (d.above.value ≡ b.above.value)). absurd (some other.0)) linked.next;
}

-- the new branch hangs under one
pub grown_under : (bs : List Branch) (d b : Branch) (k : ℕ) → slice_get bs k ≡ Some b → b.first ≡ 0 → d.above.value ≡ pairs_of b → IsGrown bs (set (bs ++ d ∷ []) k (record b { first = length bs })) d
grown_under bs d b k there none hang = record {
  size = length-set (bs ++ d ∷ []) k (record b { first = length bs }) ∙ length_push bs d;
  new = slice_get-set_other (bs ++ d ∷ []) k (length bs) (record b { first = length bs }) (let lt = slice_get_within bs k b there in omega arith) ∙ slice_get-push_new bs d;
  old = λ j c at. ⊎_elim
      (λ (same : j ≡ k).
      let is : c ≡ b = one_there bs k c b (ap (slice_get bs) (sym same) ∙ at) there in (
        record b { first = length bs },
        ap (slice_get (set (bs ++ d ∷ []) k (record b { first = length bs }))) same ∙ slice_get-set_same (bs ++ d ∷ []) k (record b { first = length bs }) b (slice_get-push_old bs d k b there),
        subst (λ (x : Branch). IsLinked (length bs) d x (record b { first = length bs })) (sym is) (record { position = refl; value = refl; slot = refl; above = refl; first = inr (none, refl, hang); next = inl refl }),
      ))
      (λ (other : j ≢ k). (
        c,
        slice_get-set_other (bs ++ d ∷ []) k j (record b { first = length bs }) other ∙ slice_get-push_old bs d j c at,
        linked_same (length bs) d c,
      ))
      (cases_eq j k);
}

-- the new branch hangs beside one
pub grown_beside : (bs : List Branch) (d b : Branch) (k : ℕ) → slice_get bs k ≡ Some b → b.next ≡ 0 → d.above.value ≡ b.above.value → IsGrown bs (set (bs ++ d ∷ []) k (record b { next = length bs })) d
grown_beside bs d b k there none hang = record {
  size = length-set (bs ++ d ∷ []) k (record b { next = length bs }) ∙ length_push bs d;
  new = slice_get-set_other (bs ++ d ∷ []) k (length bs) (record b { next = length bs }) (let lt = slice_get_within bs k b there in omega arith) ∙ slice_get-push_new bs d;
  old = λ j c at. ⊎_elim
      (λ (same : j ≡ k).
      let is : c ≡ b = one_there bs k c b (ap (slice_get bs) (sym same) ∙ at) there in (
        record b { next = length bs },
        ap (slice_get (set (bs ++ d ∷ []) k (record b { next = length bs }))) same ∙ slice_get-set_same (bs ++ d ∷ []) k (record b { next = length bs }) b (slice_get-push_old bs d k b there),
        subst (λ (x : Branch). IsLinked (length bs) d x (record b { next = length bs })) (sym is) (record { position = refl; value = refl; slot = refl; above = refl; first = inl refl; next = inr (none, refl, hang) }),
      ))
      (λ (other : j ≢ k). (
        c,
        slice_get-set_other (bs ++ d ∷ []) k j (record b { next = length bs }) other ∙ slice_get-push_old bs d j c at,
        linked_same (length bs) d c,
      ))
      (cases_eq j k);
}

module _ (bs after : List Branch) (d : Branch) (trie : IsTrie bs) (grown : IsGrown bs after d) (none : d.first ≡ 0) (last : d.next ≡ 0) where
  -- a branch is the new one or it was there
  was : (k : ℕ) (c : Branch) → slice_get after k ≡ Some c → ((k ≡ length bs) × (c ≡ d)) ⊎ ((b : Branch) × (slice_get bs k ≡ Some b) × IsLinked (length bs) d b c)
  was k c at = ⊎_elim
      (λ (lt : k < length bs).
      let (b, here) = stands bs k lt in
      let (e, there, linked) = grown.old k b here in
      inr (b, here, subst (IsLinked (length bs) d b) (one_there after k e c there at) linked))
      (λ (le : length bs ≤ k).
      let within = slice_get_within after k c at in
      let size = grown.size in
      let same : k ≡ length bs = omega arith in
      inl (same, one_there after k c d at (ap (slice_get after) same ∙ grown.new)))
      (cases_lt k (length bs))

  -- it has the same pairs
  linked_pairs : (b c : Branch) → IsLinked (length bs) d b c → pairs_of c ≡ pairs_of b
  linked_pairs b c linked = same_pairs b c linked.position linked.value linked.above

  -- a link leads where it led
  link_grown : (i j : ℕ) (pairs : List ℕ) → IsLink bs i j pairs → IsLink after i j pairs
  link_grown i j pairs link = let (c, there, linked) = grown.old j link.branch link.there in record {
    branch = c;
    there = there;
    later = link.later;
    above = linked.above ∙ link.above;
  }

  -- a new link leads to the new branch
  link_new : (i j : ℕ) (b : Branch) (pairs : List ℕ) → slice_get bs i ≡ Some b → j ≡ length bs → d.above.value ≡ pairs → IsLink after i j pairs
  link_new i j b pairs here is above = record {
    branch = d;
    there = ap (slice_get after) is ∙ grown.new;
    later = let lt = slice_get_within bs i b here in omega arith;
    above = above;
  }

  -- the branches are as they are to be
  pub trie_grown : d.position < POSITIONS → d.value ≢ 0 → IsTrie after
  trie_grown small some = record {
    size = let size = grown.size in let was_size = trie.size in omega arith;
    empty = λ c at. ⊎_elim
        (λ (new : (0 ≡ length bs) × (c ≡ d)). absurd (let e = new.0 in let size = trie.size in omega arith))
        (λ (old : (b : Branch) × (slice_get bs 0 ≡ Some b) × IsLinked (length bs) d b c). linked_pairs old.0 c old.2 ∙ trie.empty old.0 old.1)
        (was 0 c at);
    roots = λ p v c pair at. ⊎_elim
        (λ (new : (pair_number p v ≡ length bs) × (c ≡ d)). absurd (let e = new.0 in let size = trie.size in let position = pair.position in let value = pair.value in omega arith))
        (λ (old : (b : Branch) × (slice_get bs (pair_number p v) ≡ Some b) × IsLinked (length bs) d b c). linked_pairs old.0 c old.2 ∙ trie.roots p v old.0 pair old.1)
        (was (pair_number p v) c at);
    positions = λ k c at. ⊎_elim
        (λ (new : (k ≡ length bs) × (c ≡ d)). subst (λ (x : Branch). x.position < POSITIONS) (sym new.1) small)
        (λ (old : (b : Branch) × (slice_get bs k ≡ Some b) × IsLinked (length bs) d b c). subst (λ (p : ℕ). p < POSITIONS) (sym old.2.position) (trie.positions k old.0 old.1))
        (was k c at);
    values = λ k c at differs. ⊎_elim
        (λ (new : (k ≡ length bs) × (c ≡ d)). subst (λ (x : Branch). x.value ≢ 0) (sym new.1) some)
        (λ (old : (b : Branch) × (slice_get bs k ≡ Some b) × IsLinked (length bs) d b c). subst (λ (v : ℕ). v ≢ 0) (sym old.2.value) (trie.values k old.0 old.1 differs))
        (was k c at);
    first = λ k c at has. ⊎_elim
        (λ (new : (k ≡ length bs) × (c ≡ d)). absurd (has (ap (λ (x : Branch). x.first) new.1 ∙ none)))
        (λ (old : (b : Branch) × (slice_get bs k ≡ Some b) × IsLinked (length bs) d b c).
        subst (IsLink after k c.first) (sym (linked_pairs old.0 c old.2)) (⊎_elim
        (λ (same : c.first ≡ old.0.first). subst (λ (j : ℕ). IsLink after k j (pairs_of old.0)) (sym same) (link_grown k old.0.first (pairs_of old.0) (trie.first k old.0 old.1 (λ zero. has (same ∙ zero)))))
        (λ (fresh : (old.0.first ≡ 0) × (c.first ≡ length bs) × (d.above.value ≡ pairs_of old.0)). link_new k c.first old.0 (pairs_of old.0) old.1 fresh.1 fresh.2)
        old.2.first))
        (was k c at);
    next = λ k c at has. ⊎_elim
        (λ (new : (k ≡ length bs) × (c ≡ d)). absurd (has (ap (λ (x : Branch). x.next) new.1 ∙ last)))
        (λ (old : (b : Branch) × (slice_get bs k ≡ Some b) × IsLinked (length bs) d b c).
        subst (IsLink after k c.next) (sym old.2.above) (⊎_elim
        (λ (same : c.next ≡ old.0.next). subst (λ (j : ℕ). IsLink after k j old.0.above.value) (sym same) (link_grown k old.0.next old.0.above.value (trie.next k old.0 old.1 (λ zero. has (same ∙ zero)))))
        (λ (fresh : (old.0.next ≡ 0) × (c.next ≡ length bs) × (d.above.value ≡ old.0.above.value)). link_new k c.next old.0 old.0.above.value old.1 fresh.1 fresh.2)
        old.2.next))
        (was k c at);
  }

  -- each branch is alike
  grown_alike : AreAlike bs after
  grown_alike k b at = let (c, there, linked) = grown.old k b at in (c, there, linked_alike (length bs) d b c linked)

  -- they keep the same slots
  pub holding_grown : d.slot ≡ None → (rows : Rows) → IsHolding rows bs → IsHolding rows after
  holding_grown empty rows holding = record {
    sound = λ k s c at keeps. ⊎_elim
        (λ (new : (k ≡ length bs) × (c ≡ d)). absurd (none-some s (sym empty ∙ ap (λ (x : Branch). x.slot) (sym new.1) ∙ keeps)))
        (λ (old : (b : Branch) × (slice_get bs k ≡ Some b) × IsLinked (length bs) d b c).
        let (row, has, is) = holding.sound k s old.0 old.1 (sym old.2.slot ∙ keeps) in
        (row, has, is ∙ sym (linked_pairs old.0 c old.2)))
        (was k c at);
    complete = λ s row i has number.
        let (k, t, keeps, le) = holding.complete s row i has number in
        let (c, there, linked) = grown.old k keeps.branch keeps.there in
        (k, t, record { below = below_more bs after grown_alike row.clause keeps.below; branch = c; there = there; keeps = linked.slot ∙ keeps.keeps }, le);
  }

  -- all of this
  pub more_grown : d.position < POSITIONS → d.value ≢ 0 → d.slot ≡ None → IsMore bs after
  more_grown small some empty = record {
    trie = trie_grown small some;
    longer = let size = grown.size in omega arith;
    holding = holding_grown empty;
    below = λ a i k below. below_more bs after grown_alike a below;
  }

-- nothing was made
pub more_none : (bs after : List Branch) → IsTrie bs → after ≡ bs → IsMore bs after
more_none bs after trie same = subst (IsMore bs) (sym same) (record { trie = trie; longer = omega arith; holding = λ rows holding. holding; below = λ a i k below. below })

-- some were made, and some more
pub more_trans : (bs mid after : List Branch) → IsMore bs mid → IsMore mid after → IsMore bs after
more_trans bs mid after first second = record {
  trie = second.trie;
  longer = let one = first.longer in let two = second.longer in omega arith;
  holding = λ rows holding. second.holding rows (first.holding rows holding);
  below = λ a i k below. second.below a i k (first.below a i k below);
}

-- one branch more
pub pushed_length : (bs : List Branch) (p v : ℕ) (pairs : List ℕ) (after : List Branch) → IsPushed bs p v pairs after → length after ≡ length bs + 1
pushed_length bs p v pairs after push = ap length push.is ∙ length_push bs push.branch

-- a branch that stood there stands there still, as what is read at its place
pub read_pushed : (bs : List Branch) (p v : ℕ) (pairs : List ℕ) (after : List Branch) (k : ℕ) (b x : Branch) → IsPushed bs p v pairs after → slice_get bs k ≡ Some b → x ≡ get_or after k x → slice_get after k ≡ Some x
read_pushed bs p v pairs after k b x push there is =
    let lt = slice_get_within bs k b there in
    let n = pushed_length bs p v pairs after push in
    slice_get_read after (length after) k x refl (omega arith) is

module _ (bs : List Branch) (trie : IsTrie bs) (p v : ℕ) (pairs : List ℕ) (small : p < POSITIONS) (some : v ≢ 0) (pushed : List Branch) (push : IsPushed bs p v pairs pushed) (k : ℕ) (b : Branch) (there : slice_get bs k ≡ Some b) where
  -- a branch that hangs under one is its child
  pub hung_under : (after : List Branch) → b.first ≡ 0 → pairs_of b ≡ pairs → after ≡ set pushed k (record b { first = length bs }) → IsMore bs after × IsChild after k p v pairs (length bs)
  hung_under after none is made = subst (λ (xs : List Branch). IsMore bs xs × IsChild xs k p v pairs (length bs)) (sym (made ∙ ap (λ (xs : List Branch). set xs k (record b { first = length bs })) push.is)) (
    more_grown bs (set (bs ++ push.branch ∷ []) k (record b { first = length bs })) push.branch trie grown push.new.first push.new.next
        (subst (λ (x : ℕ). x < POSITIONS) (sym push.new.position) small) (subst (λ (x : ℕ). x ≢ 0) (sym push.new.value) some) push.new.slot,
    record {
      branch = push.branch;
      there = grown.new;
      position = push.new.position;
      value = push.new.value;
      above = push.new.above;
      below = λ a has.
          under (record b { first = length bs }) push.branch
          (slice_get-set_same (bs ++ push.branch ∷ []) k (record b { first = length bs }) b (slice_get-push_old bs push.branch k b there))
          (let size = trie.size in omega arith) it grown.new
          (ap (λ (x : ℕ). get_or a x 0) push.new.position ∙ has ∙ sym push.new.value) itself;
    },
  )
    where
      grown : IsGrown bs (set (bs ++ push.branch ∷ []) k (record b { first = length bs })) push.branch
      grown = grown_under bs push.branch b k there none (push.new.above ∙ sym is)

  -- a branch that hangs beside one
  pub hung_beside : (after : List Branch) → b.next ≡ 0 → b.above.value ≡ pairs → after ≡ set pushed k (record b { next = length bs }) → IsMore bs after × IsBeside bs after k p v pairs (length bs)
  hung_beside after none is made = subst (λ (xs : List Branch). IsMore bs xs × IsBeside bs xs k p v pairs (length bs)) (sym (made ∙ ap (λ (xs : List Branch). set xs k (record b { next = length bs })) push.is)) (
    more_grown bs (set (bs ++ push.branch ∷ []) k (record b { next = length bs })) push.branch trie grown push.new.first push.new.next
        (subst (λ (x : ℕ). x < POSITIONS) (sym push.new.position) small) (subst (λ (x : ℕ). x ≢ 0) (sym push.new.value) some) push.new.slot,
    record {
      branch = push.branch;
      there = grown.new;
      position = push.new.position;
      value = push.new.value;
      above = push.new.above;
      along = λ i along.
          along_trans (set (bs ++ push.branch ∷ []) k (record b { next = length bs })) (along_more bs (set (bs ++ push.branch ∷ []) k (record b { next = length bs })) alike along)
          (later (record b { next = length bs })
          (slice_get-set_same (bs ++ push.branch ∷ []) k (record b { next = length bs }) b (slice_get-push_old bs push.branch k b there))
          (let size = trie.size in omega arith) it);
      first = λ j c at has. let (e, here, like) = alike j c at in (e, here, like.first has);
    },
  )
    where
      grown : IsGrown bs (set (bs ++ push.branch ∷ []) k (record b { next = length bs })) push.branch
      grown = grown_beside bs push.branch b k there none (push.new.above ∙ sym is)

      alike : AreAlike bs (set (bs ++ push.branch ∷ []) k (record b { next = length bs }))
      alike = grown_alike bs (set (bs ++ push.branch ∷ []) k (record b { next = length bs })) push.branch trie grown push.new.first push.new.next

  -- the new branch as it is made under one
  pub hang_under : (x : Branch) (made : ℕ) → b.first ≡ 0 → pairs_of b ≡ pairs → slice_get pushed k ≡ Some x → made ≡ length bs → IsMore bs (set pushed k (record x { first = made })) × IsChild (set pushed k (record x { first = made })) k p v pairs made
  hang_under x made none is at count =
      let same : x ≡ b = one_there pushed k x b at (ap (λ (xs : List Branch). slice_get xs k) push.is ∙ slice_get-push_old bs push.branch k b there) in
      let eq : set pushed k (record x { first = made }) ≡ set pushed k (record b { first = length bs }) = ap (λ (y : Branch). set pushed k (record y { first = made })) same ∙ ap (λ (n : ℕ). set pushed k (record b { first = n })) count in
      let both = hung_under (set pushed k (record x { first = made })) none is eq in
      (both.0, subst (λ (n : ℕ). IsChild (set pushed k (record x { first = made })) k p v pairs n) (sym count) both.1)

  -- and beside one
  pub hang_beside : (x : Branch) (made : ℕ) → b.next ≡ 0 → b.above.value ≡ pairs → slice_get pushed k ≡ Some x → made ≡ length bs → IsMore bs (set pushed k (record x { next = made })) × IsBeside bs (set pushed k (record x { next = made })) k p v pairs made
  hang_beside x made none is at count =
      let same : x ≡ b = one_there pushed k x b at (ap (λ (xs : List Branch). slice_get xs k) push.is ∙ slice_get-push_old bs push.branch k b there) in
      let eq : set pushed k (record x { next = made }) ≡ set pushed k (record b { next = length bs }) = ap (λ (y : Branch). set pushed k (record y { next = made })) same ∙ ap (λ (n : ℕ). set pushed k (record b { next = n })) count in
      let both = hung_beside (set pushed k (record x { next = made })) none is eq in
      (both.0, subst (λ (n : ℕ). IsBeside bs (set pushed k (record x { next = made })) k p v pairs n) (sym count) both.1)
