-- Branches and the links between them.
use Rattle.std.proofs.Common.{ℕ, zero, suc, ◌≡◌, ◌≢◌, ◌<◌, ◌++◌, List, [], ◌∷◌, length, get_or, set, Some, refl, sym, ap, subst, ◌∙◌, arith}
use Rattle.std.specs.Prelude.{slice_get}
use Rattle.std.proofs.lemmas.Option.{none-some, same_Some}
use Rattle.mr_assign.specs.Assign.{IsPartOf}
use Rattle.mr_nogood.proofs.Excluding.{part_with}
use Rattle.mr_propagate.specs.declared.trie.Branch.{Branch}
use Rattle.mr_propagate.specs.Private.Trie.{pairs_of, IsTrie, Along, it, later, Below, itself, under}

module _ {A : Type 0} where
  -- what is put at a place is there
  pub slice_get-set_same : (xs : List A) (k : ℕ) (x y : A) → slice_get xs k ≡ Some y → slice_get (set xs k x) k ≡ Some x
  slice_get-set_same [] k x y is = absurd (none-some y is)
  slice_get-set_same (z ∷ zs) zero x y is = refl
  slice_get-set_same (z ∷ zs) (suc k) x y is = slice_get-set_same zs k x y is

  -- the others are as before
  pub slice_get-set_other : (xs : List A) (k j : ℕ) (x : A) → j ≢ k → slice_get (set xs k x) j ≡ slice_get xs j
  slice_get-set_other [] k j x n = refl
  slice_get-set_other (y ∷ ys) zero zero x n = absurd (n refl)
  slice_get-set_other (y ∷ ys) zero (suc j) x n = refl
  slice_get-set_other (y ∷ ys) (suc k) zero x n = refl
  slice_get-set_other (y ∷ ys) (suc k) (suc j) x n = slice_get-set_other ys k j x (λ e. n (ap suc e))

  -- what stands in a list stands there with one more at the end
  pub slice_get-push_old : (xs : List A) (y : A) (k : ℕ) (x : A) → slice_get xs k ≡ Some x → slice_get (xs ++ y ∷ []) k ≡ Some x
  slice_get-push_old [] y k x is = absurd (none-some x is)
  slice_get-push_old (z ∷ zs) y zero x is = is
  slice_get-push_old (z ∷ zs) y (suc k) x is = slice_get-push_old zs y k x is

  -- the new one stands at the end
  pub slice_get-push_new : (xs : List A) (y : A) → slice_get (xs ++ y ∷ []) (length xs) ≡ Some y
  slice_get-push_new [] y = refl
  slice_get-push_new (z ∷ zs) y = slice_get-push_new zs y

  -- something stands at a place within the list
  pub stands : (xs : List A) (k : ℕ) → k < length xs → (x : A) × (slice_get xs k ≡ Some x)
  stands [] k lt = absurd (omega arith)
  stands (z ∷ zs) zero lt = (z, refl)
  stands (z ∷ zs) (suc k) lt = stands zs k (omega arith)

  -- one thing stands at a place
  pub one_there : (xs : List A) (k : ℕ) (x y : A) → slice_get xs k ≡ Some x → slice_get xs k ≡ Some y → x ≡ y
  one_there xs k x y here there = same_Some x y (sym here ∙ there)

-- branches with the same pair and the same pairs above it have the same pairs
pub same_pairs : (b c : Branch) → c.position ≡ b.position → c.value ≡ b.value → c.above.value ≡ b.above.value → pairs_of c ≡ pairs_of b
same_pairs b c position value above =
    ap (λ (xs : List ℕ). set xs c.position c.value) above
    ∙ ap (λ (p : ℕ). set b.above.value p c.value) position
    ∙ ap (set b.above.value b.position) value

-- a branch after others beside it
pub along_trans : (bs : List Branch) {i j k : ℕ} → Along bs i j → Along bs j k → Along bs i k
along_trans bs it second = second
along_trans bs (later b there some rest) second = later b there some (along_trans bs rest second)

-- a branch below another
pub below_trans : (bs : List Branch) (a : List ℕ) {i j k : ℕ} → Below bs a i j → Below bs a j k → Below bs a i k
below_trans bs a itself second = second
below_trans bs a (under b d there some along at agrees rest) second = under b d there some along at agrees (below_trans bs a rest second)

-- no link leads to the branch of the empty clause
pub along_some : (bs : List Branch) {j c : ℕ} → j ≢ 0 → Along bs j c → c ≢ 0
along_some bs some it = some
along_some bs some (later b there next rest) = along_some bs next rest

module _ (bs : List Branch) (trie : IsTrie bs) where
  -- branches beside each other have the same pairs above them
  pub along_above : {j c : ℕ} → Along bs j c → (b d : Branch) → slice_get bs j ≡ Some b → slice_get bs c ≡ Some d → d.above.value ≡ b.above.value
  along_above {j} it b d here there = ap (λ (x : Branch). x.above.value) (one_there bs j d b there here)
  along_above {j} {c} (later e at some rest) b d here there =
      let link = trie.next j e at some in
      along_above rest link.branch d link.there there ∙ link.above ∙ ap (λ (x : Branch). x.above.value) (one_there bs j e b at here)

  -- the branches below one have its pairs above them
  pub child_above : {c : ℕ} (i : ℕ) (b d : Branch) → slice_get bs i ≡ Some b → b.first ≢ 0 → Along bs b.first c → slice_get bs c ≡ Some d → d.above.value ≡ pairs_of b
  child_above i b d here some along there =
      let link = trie.first i b here some in
      along_above along link.branch d link.there there ∙ link.above

  -- where a has a branch's pairs, it has those of the branches that it leads to
  pub below_part : (a : List ℕ) {i k : ℕ} → Below bs a i k → (b d : Branch) → slice_get bs i ≡ Some b → slice_get bs k ≡ Some d → IsPartOf (pairs_of b) a → IsPartOf (pairs_of d) a
  below_part a {i} itself b d here there part = subst (λ (x : Branch). IsPartOf (pairs_of x) a) (one_there bs i b d here there) part
  below_part a {i} {k} (under {c = c} e f at some along next agrees rest) b d here there part =
      let same : e ≡ b = one_there bs i e b at here in
      let above : f.above.value ≡ pairs_of b = child_above i e f at some along next ∙ ap pairs_of same in
      let wide : IsPartOf (set f.above.value f.position (get_or a f.position 0)) a = part_with f.above.value a f.position (subst (λ (xs : List ℕ). IsPartOf xs a) (sym above) part) in
      let all : IsPartOf (pairs_of f) a = subst (λ (v : ℕ). IsPartOf (set f.above.value f.position v) a) agrees wide in
      below_part a rest f d next there all

  -- a map with more pairs leads to the same branches and more
  pub below_wider : (a c : List ℕ) → IsPartOf c a → {i k : ℕ} → Below bs c i k → Below bs a i k
  below_wider a c part itself = itself
  below_wider a c part (under {c = j} b d at some along there agrees rest) =
      let value : d.value ≢ 0 = trie.values j d there (along_some bs some along) in
      let has : get_or a d.position 0 ≡ d.value = part d.position (λ zero. value (sym agrees ∙ zero)) ∙ agrees in
      under b d at some along there has (below_wider a c part rest)
