-- Branches after one keeps a slot.
use Rattle.std.proofs.Common.{ℕ, ◌≡◌, ◌≢◌, ◌<◌, ◌≤◌, ◌⊎◌, List, set, Option, Some, None, nat_eq, if◌then◌else◌, refl, sym, ap, subst, ◌∙◌, inl, inr, ⊎_elim, arith, eq-eqb, ne_eqb, length-set}
use Rattle.std.specs.Prelude.{slice_get}
use Rattle.std.proofs.lemmas.Bool.{cases_eq}
use Rattle.std.proofs.lemmas.Option.{none-some, same_Some}
use Rattle.mr_assign.specs.declared.TheConstants.{POSITIONS}
use Rattle.mr_nogood.specs.declared.row.Row.{Row}
use Rattle.mr_nogood.specs.Follows.{Rows}
use Rattle.mr_propagate.specs.declared.trie.Branch.{Branch}
use Rattle.mr_propagate.specs.Private.Pairs.{IsGreatestPair, pair_number, IsPairNumber}
use Rattle.mr_propagate.specs.Private.Found.{lesser}
use Rattle.mr_propagate.specs.Private.Trie.{pairs_of, IsLink, IsTrie, Below, KeepsBelow, IsHolding, EndsThere}
use Rattle.mr_propagate.proofs.Branches.{slice_get-set_same, slice_get-set_other, one_there}
use Rattle.mr_propagate.proofs.Growing.{AreAlike, below_more}
use Rattle.mr_propagate.proofs.Descending.{lesser_cases, lesser_left, lesser_right}

-- all but the slot
pub record IsMarked (b c : Branch) : Type 0 where
  pub position : c.position ≡ b.position
  pub value : c.value ≡ b.value
  pub first : c.first ≡ b.first
  pub next : c.next ≡ b.next
  pub above : c.above.value ≡ b.above.value
  pub pairs : pairs_of c ≡ pairs_of b

-- a branch has all but the slot of itself
marked_same : (b : Branch) → IsMarked b b
marked_same b = record { position = refl; value = refl; first = refl; next = refl; above = refl; pairs = refl }

-- so it has with another slot
marked_slot : (b : Branch) (s : Option ℕ) → IsMarked b (record b { slot = s })
marked_slot b s = record { position = refl; value = refl; first = refl; next = refl; above = refl; pairs = refl }

module _ (bs : List Branch) (trie : IsTrie bs) (k s : ℕ) (b : Branch) (there : slice_get bs k ≡ Some b) where
  -- the branch with the slot
  abbrev new : Branch
  new = record b { slot = lesser b.slot (Some s) }

  -- and the branches with it
  abbrev after : List Branch
  after = set bs k new

  -- it stands there
  new_there : slice_get after k ≡ Some new
  new_there = slice_get-set_same bs k new b there

  -- each branch stands there with a slot
  stays : (j : ℕ) (c : Branch) → slice_get bs j ≡ Some c → (d : Branch) × (slice_get after j ≡ Some d) × IsMarked c d
  stays j c at = ⊎_elim
      (λ (same : j ≡ k).
      let is : b ≡ c = one_there bs k b c there (ap (slice_get bs) (sym same) ∙ at) in
      (new, ap (slice_get after) same ∙ new_there, subst (λ (x : Branch). IsMarked x new) is (marked_slot b (lesser b.slot (Some s)))))
      (λ (other : j ≢ k). (c, slice_get-set_other bs k j new other ∙ at, marked_same c))
      (cases_eq j k)

  -- no others do
  was : (j : ℕ) (d : Branch) → slice_get after j ≡ Some d → ((j ≡ k) × (d ≡ new)) ⊎ (slice_get bs j ≡ Some d)
  was j d at = ⊎_elim
      (λ (same : j ≡ k). inl (same, one_there after k d new (ap (slice_get after) (sym same) ∙ at) new_there))
      (λ (other : j ≢ k). inr (sym (slice_get-set_other bs k j new other) ∙ at))
      (cases_eq j k)

  -- what was there had all but the slot
  before : (j : ℕ) (d : Branch) → slice_get after j ≡ Some d → (c : Branch) × (slice_get bs j ≡ Some c) × IsMarked c d
  before j d at = ⊎_elim
      (λ (new_is : (j ≡ k) × (d ≡ new)). (b, ap (slice_get bs) new_is.0 ∙ there, subst (IsMarked b) (sym new_is.1) (marked_slot b (lesser b.slot (Some s)))))
      (λ (old : slice_get bs j ≡ Some d). (d, old, marked_same d))
      (was j d at)

  -- a link leads where it led
  link_stays : (i j : ℕ) (pairs : List ℕ) → IsLink bs i j pairs → IsLink after i j pairs
  link_stays i j pairs link = let (d, at, marked) = stays j link.branch link.there in record { branch = d; there = at; later = link.later; above = marked.above ∙ link.above }

  -- the branches are as they are to be
  pub trie_marked : IsTrie (set bs k (record b { slot = lesser b.slot (Some s) }))
  trie_marked = record {
    size = let n = length-set bs k new in let size = trie.size in omega arith;
    empty = λ d at. let (c, here, marked) = before 0 d at in marked.pairs ∙ trie.empty c here;
    roots = λ p v d pair at. let (c, here, marked) = before (pair_number p v) d at in marked.pairs ∙ trie.roots p v c pair here;
    positions = λ j d at. let (c, here, marked) = before j d at in subst (λ (p : ℕ). p < POSITIONS) (sym marked.position) (trie.positions j c here);
    values = λ j d at some. let (c, here, marked) = before j d at in subst (λ (v : ℕ). v ≢ 0) (sym marked.value) (trie.values j c here some);
    first = λ j d at some.
        let (c, here, marked) = before j d at in
        let link = link_stays j c.first (pairs_of c) (trie.first j c here (λ zero. some (marked.first ∙ zero))) in
        subst (IsLink after j d.first) (sym marked.pairs) (subst (λ (x : ℕ). IsLink after j x (pairs_of c)) (sym marked.first) link);
    next = λ j d at some.
        let (c, here, marked) = before j d at in
        let link = link_stays j c.next c.above.value (trie.next j c here (λ zero. some (marked.next ∙ zero))) in
        subst (IsLink after j d.next) (sym marked.above) (subst (λ (x : ℕ). IsLink after j x c.above.value) (sym marked.next) link);
  }

  -- each branch is alike
  alike : AreAlike bs after
  alike j c at = let (d, here, marked) = stays j c at in (d, here, record { position = marked.position; value = marked.value; first = λ some. marked.first; next = λ some. marked.next })

  -- what is kept stays, or a lesser one is kept
  keeps_stays : (a : List ℕ) (i j t : ℕ) → KeepsBelow bs a i j t → (u : ℕ) × KeepsBelow after a i j u × (u ≤ t)
  keeps_stays a i j t keeps = ⊎_elim
      (λ (same : j ≡ k).
      let is : keeps.branch ≡ b = one_there bs k keeps.branch b (ap (slice_get bs) (sym same) ∙ keeps.there) there in
      let (u, least, le) = lesser_left b.slot (Some s) t (ap (λ (x : Branch). x.slot) (sym is) ∙ keeps.keeps) in
      (u, record { below = below_more bs after alike a keeps.below; branch = new; there = ap (slice_get after) same ∙ new_there; keeps = least }, le))
      (λ (other : j ≢ k). (t, record { below = below_more bs after alike a keeps.below; branch = keeps.branch; there = slice_get-set_other bs k j new other ∙ keeps.there; keeps = keeps.keeps }, omega arith))
      (cases_eq j k)

  -- the branches hold the rows with the new one
  pub holding_marked : (rows more : Rows) (row : Row) → rows s ≡ None → IsHolding rows bs → EndsThere bs row.clause k →
      ((t : ℕ) (other : Row) → more t ≡ Some other → ((t ≡ s) × (row ≡ other)) ⊎ ((t ≢ s) × (rows t ≡ Some other))) → ((t : ℕ) → more t ≡ (if nat_eq t s then Some row else rows t)) →
      IsHolding more (set bs k (record b { slot = lesser b.slot (Some s) }))
  holding_marked rows more row none holding ends cases is = record {
    sound = λ j t d at keeps. ⊎_elim
        (λ (new_is : (j ≡ k) × (d ≡ new)). ⊎_elim
        (λ (old : b.slot ≡ Some t). let (other, has, clause) = holding.sound k t b there old in (other, stays_row t other has, clause ∙ ap pairs_of (sym new_is.1)))
        (λ (put : Some s ≡ Some t). (
          row,
          is t ∙ rw (eq-eqb t s (sym (same_Some s t put))) refl,
          sym ends.is ∙ ap pairs_of (one_there bs k ends.branch b ends.there there) ∙ ap pairs_of (sym new_is.1),
        ))
        (lesser_cases b.slot (Some s) t (ap (λ (x : Branch). x.slot) (sym new_is.1) ∙ keeps)))
        (λ (old : slice_get bs j ≡ Some d). let (other, has, clause) = holding.sound j t d old keeps in (other, stays_row t other has, clause))
        (was j d at);
    complete = λ t other i has number. ⊎_elim
        (λ (new_is : (t ≡ s) × (row ≡ other)).
        let (u, least, le) = lesser_right b.slot (Some s) s refl in (
          k,
          u,
          record {
            below = subst (λ (r : Row). Below after r.clause i k) new_is.1 (below_more bs after alike row.clause (ends.below i (subst (λ (r : Row). IsPairNumber IsGreatestPair r.clause i) (sym new_is.1) number)));
            branch = new;
            there = new_there;
            keeps = least;
          },
          (let e = new_is.0 in omega arith),
        ))
        (λ (old : (t ≢ s) × (rows t ≡ Some other)).
        let (j, u, keeps, le) = holding.complete t other i old.1 number in
        let (w, still, low) = keeps_stays other.clause i j u keeps in
        (j, w, still, omega arith))
        (cases t other has);
  }
    where
      stays_row : (t : ℕ) (other : Row) → rows t ≡ Some other → more t ≡ Some other
      stays_row t other has = is t ∙ rw (ne_eqb t s (λ same. none-some other (sym none ∙ ap rows (sym same) ∙ has))) has
