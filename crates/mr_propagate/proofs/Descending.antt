-- The least slot below a branch, when the branches one pair further down are gone through.
use Rattle.std.proofs.Common.{ℕ, zero, suc, ◌-◌, ◌≡◌, ◌≢◌, ◌<◌, ◌≤◌, ◌⊎◌, min, List, length, get_or, Option, Some, None, refl, ap, subst, ◌∙◌, inl, inr, ⊎_elim, arith}
use Rattle.std.specs.Prelude.{slice_get}
use Rattle.std.proofs.lemmas.Bool.{cases_lt}
use Rattle.std.proofs.lemmas.Option.{none-some, same_Some, slice_get_within}
use Rattle.mr_propagate.specs.declared.trie.Branch.{Branch}
use Rattle.mr_propagate.specs.Private.Found.{lesser}
use Rattle.mr_propagate.specs.Private.Trie.{IsTrie, Along, it, later, Below, itself, under, KeepsBelow, IsLeastBelow}
use Rattle.mr_propagate.proofs.Branches.{one_there, along_trans}

-- what is left of the measure at a link: nothing where it leads nowhere
abbrev pub left_of : ℕ → ℕ → ℕ
left_of n zero = 0
left_of n (suc j) = n - suc j

-- it falls from link to link
pub left_falls : (n j k : ℕ) → j ≢ 0 → j < n → (k ≢ 0 → (j < k) × (k < n)) → left_of n k < left_of n j
left_falls n zero k some lt up = absurd (some refl)
left_falls n (suc j) zero some lt up = omega arith
left_falls n (suc j) (suc k) some lt up = let (low, high) = up (let e : suc k ≢ 0 = omega arith in e) in omega arith

-- the lesser is one of the two
pub lesser_cases : (a b : Option ℕ) (s : ℕ) → lesser a b ≡ Some s → (a ≡ Some s) ⊎ (b ≡ Some s)
lesser_cases None b s is = inr is
lesser_cases (Some x) None s is = inl is
lesser_cases (Some x) (Some y) s is = ⊎_elim
    (λ (lt : x < y). inl (ap Some (let e : x ≡ min x y = omega arith in e) ∙ is))
    (λ (le : y ≤ x). inr (ap Some (let e : y ≡ min x y = omega arith in e) ∙ is))
    (cases_lt x y)

-- it is no greater than the first
pub lesser_left : (a b : Option ℕ) (s : ℕ) → a ≡ Some s → (t : ℕ) × (lesser a b ≡ Some t) × (t ≤ s)
lesser_left None b s is = absurd (none-some s is)
lesser_left (Some x) None s is = (x, refl, let e = same_Some x s is in omega arith)
lesser_left (Some x) (Some y) s is = (min x y, refl, let e = same_Some x s is in omega arith)

-- nor than the second
pub lesser_right : (a b : Option ℕ) (s : ℕ) → b ≡ Some s → (t : ℕ) × (lesser a b ≡ Some t) × (t ≤ s)
lesser_right None b s is = (s, is, omega arith)
lesser_right (Some x) None s is = absurd (none-some s is)
lesser_right (Some x) (Some y) s is = (min x y, refl, let e = same_Some y s is in omega arith)

-- the branch k comes below one of those that are left, from j on
pub record IsLeft (bs : List Branch) (a : List ℕ) (j k : ℕ) : Type 0 where
  pub some : j ≢ 0
  pub child : ℕ
  pub along : Along bs j child
  pub branch : Branch
  pub there : slice_get bs child ≡ Some branch
  pub agrees : get_or a branch.position 0 ≡ branch.value
  pub below : Below bs a child k

-- what was found below i, when the branches from j on are left
pub record IsLeastSo (bs : List Branch) (a : List ℕ) (i j : ℕ) (found : Option ℕ) : Type 0 where
  pub kept : (s : ℕ) → found ≡ Some s → (k : ℕ) × KeepsBelow bs a i k s
  pub least : (k s : ℕ) → KeepsBelow bs a i k s → ((t : ℕ) × (found ≡ Some t) × (t ≤ s)) ⊎ IsLeft bs a j k
  pub range : j ≢ 0 → (i < j) × (j < length bs)
  pub beside : j ≢ 0 → (b : Branch) × (slice_get bs i ≡ Some b) × (b.first ≢ 0) × Along bs b.first j

module _ (bs : List Branch) (trie : IsTrie bs) (a : List ℕ) (i : ℕ) where
  -- at first all are left
  pub so_none : (b : Branch) → slice_get bs i ≡ Some b → IsLeastSo bs a i b.first b.slot
  so_none b here = record {
    kept = λ s is. (i, record { below = itself; branch = b; there = here; keeps = is });
    least = λ k s keeps. start k s keeps.below keeps.branch keeps.there keeps.keeps;
    range = λ some. let link = trie.first i b here some in (link.later, slice_get_within bs b.first link.branch link.there);
    beside = λ some. (b, here, some, it);
  }
    where
      start : (k s : ℕ) → Below bs a i k → (d : Branch) → slice_get bs k ≡ Some d → d.slot ≡ Some s → ((t : ℕ) × (b.slot ≡ Some t) × (t ≤ s)) ⊎ IsLeft bs a b.first k
      start k s itself d there keeps = inl (s, ap (λ (x : Branch). x.slot) (one_there bs i b d here there) ∙ keeps, omega arith)
      start k s (under {c = c} e f at some along next agrees rest) d there keeps =
          let same : e ≡ b = one_there bs i e b at here in
          inr (record {
            some = λ zero. some (ap (λ (x : Branch). x.first) same ∙ zero);
            child = c;
            along = subst (λ (x : Branch). Along bs x.first c) same along;
            branch = f;
            there = next;
            agrees = agrees;
            below = rest;
          })

  module _ (j : ℕ) (found : Option ℕ) (so : IsLeastSo bs a i j found) (some : j ≢ 0) (d : Branch) (there : slice_get bs j ≡ Some d) where
    -- the next branch comes later
    pub next_range : d.next ≢ 0 → (j < d.next) × (d.next < length bs)
    next_range has = let link = trie.next j d there has in (link.later, slice_get_within bs d.next link.branch link.there)

    -- and it is one of those below i
    next_beside : d.next ≢ 0 → (b : Branch) × (slice_get bs i ≡ Some b) × (b.first ≢ 0) × Along bs b.first d.next
    next_beside has = let (b, here, first, along) = so.beside some in (b, here, first, along_trans bs along (later d there has it))

    -- of those that are left it is the first, or it is left after that
    left_cases : (k : ℕ) → IsLeft bs a j k → ((get_or a d.position 0 ≡ d.value) × Below bs a j k) ⊎ IsLeft bs a d.next k
    left_cases k left = go left.along left.branch left.there left.agrees left.below
      where
        go : {c : ℕ} → Along bs j c → (e : Branch) → slice_get bs c ≡ Some e → get_or a e.position 0 ≡ e.value → Below bs a c k → ((get_or a d.position 0 ≡ d.value) × Below bs a j k) ⊎ IsLeft bs a d.next k
        go it e at agrees below = inl (subst (λ (x : Branch). get_or a x.position 0 ≡ x.value) (one_there bs j e d at there) agrees, below)
        go {c} (later f here has rest) e at agrees below =
            let same : f ≡ d = one_there bs j f d here there in
            inr (record {
              some = λ zero. has (ap (λ (x : Branch). x.next) same ∙ zero);
              child = c;
              along = subst (λ (x : Branch). Along bs x.next c) same rest;
              branch = e;
              there = at;
              agrees = agrees;
              below = below;
            })

    -- a branch whose pair the map has not
    pub so_passed : (get_or a d.position 0 ≡ d.value → ⊥) → IsLeastSo bs a i d.next found
    so_passed differs = record {
      kept = so.kept;
      least = λ k s keeps. ⊎_elim
          (λ was. inl was)
          (λ (left : IsLeft bs a j k). ⊎_elim (λ (here : (get_or a d.position 0 ≡ d.value) × Below bs a j k). absurd (differs here.0)) (λ (rest : IsLeft bs a d.next k). inr rest) (left_cases k left))
          (so.least k s keeps);
      range = λ has. let (low, high) = next_range has in let was = so.range some in (omega arith, high);
      beside = next_beside;
    }

    -- a branch whose pair it has
    pub so_taken : (below : Option ℕ) → get_or a d.position 0 ≡ d.value → IsLeastBelow bs a j below → IsLeastSo bs a i d.next (lesser found below)
    so_taken below agrees is = record {
      kept = λ s at. ⊎_elim
          (λ (e : found ≡ Some s). so.kept s e)
          (λ (e : below ≡ Some s).
          let (k, keeps) = is.kept s e in
          let (b, here, first, along) = so.beside some in
          (k, record { below = under b d here first along there agrees keeps.below; branch = keeps.branch; there = keeps.there; keeps = keeps.keeps }))
          (lesser_cases found below s at);
      least = λ k s keeps. ⊎_elim
          (λ (was_found : (t : ℕ) × (found ≡ Some t) × (t ≤ s)). inl (let (t, e, le) = lesser_left found below was_found.0 was_found.1 in (t, e, let low = was_found.2 in omega arith)))
          (λ (left : IsLeft bs a j k). ⊎_elim
          (λ (here : (get_or a d.position 0 ≡ d.value) × Below bs a j k).
          let (t, e, le) = is.least k s (record { below = here.1; branch = keeps.branch; there = keeps.there; keeps = keeps.keeps }) in
          inl (let (u, f, low) = lesser_right found below t e in (u, f, omega arith)))
          (λ (rest : IsLeft bs a d.next k). inr rest)
          (left_cases k left))
          (so.least k s keeps);
      range = λ has. let (low, high) = next_range has in let was = so.range some in (omega arith, high);
      beside = next_beside;
    }

  -- at last none are left
  pub so_all : (found : Option ℕ) → IsLeastSo bs a i 0 found → IsLeastBelow bs a i found
  so_all found so = record {
    kept = so.kept;
    least = λ k s keeps. ⊎_elim (λ was. was) (λ (left : IsLeft bs a 0 k). absurd (left.some refl)) (so.least k s keeps);
  }
