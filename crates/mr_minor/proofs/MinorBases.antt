-- The sets that are completed to bases are the bases of a matroid, the minor.
use Rattle.std.proofs.Common.{◌≡◌, ℕ, ◌+◌, ◌-◌, ◌<◌, ◌≤◌, ◌↔◌, Bool, true, false, not, ◌&&◌, ◌||◌, List, length, get_or, Result, Ok, Err, refl, sym, ap, subst, ◌∙◌, ⊎_elim, arith}
use Rattle.std.specs.Prelude.{IfOk}
use Rattle.std.proofs.lemmas.Bool.{cases_Bool, both_ways}
use Rattle.mr_set.specs.Elements.{IsSet, is_element, minus, union}
use Rattle.mr_set.specs.Subsets.{IsSetOf}
use Rattle.mr_set.specs.Matroid.{Presentation, IsBasis, IsMatroid, IsRank}
use Rattle.mr_set.proofs.Members.{is_element-union, is_element-filter}
use Rattle.mr_set.proofs.Tests.{count, count-all, set_of, is_element-set_of, length-set_of, IsSet-set_of, count-is_element}
use Rattle.mr_matroid.specs.Exchange.{IsWithinLimits}
use Rattle.mr_minor.specs.Minor.{others, originals, IsMinor}
use Rattle.mr_minor.specs.Private.Best.{score, IsBestBasis, IsCompleted}
use Rattle.mr_minor.specs.Private.Collected.{AreNonbases}
use Rattle.mr_minor.proofs.Counting.{both, but, no, count-among, count-agree, count-parts, count-not, count-small}
use Rattle.mr_minor.proofs.Exchanging.{Exchanging}
use Rattle.mr_minor.proofs.Bases.{IsBasisTest, HasBases, exchanging-bases, matroid-from_family, has-bases, basis-from_nonbases, test-of_basis}
use Rattle.mr_minor.proofs.Renumbering.{original-place, raised, lifted, lifted-in, lifted-out, exchanging-lifted}
use Rattle.mr_minor.proofs.Ranks.{IsMost, most-agree, length-meet, most-of_basis, rank-from_most}
use Rattle.mr_minor.proofs.MinorRanks.{or, IsBest, best-from_sum, most-lifted}
use Rattle.mr_minor.proofs.Originals.{is_element-originals, IsSet-originals, IsSet-union, IsSet-minus, union-originals}
use Rattle.mr_minor.proofs.Sizes.{choose-smaller}

-- a set has one rank
pub rank_one : (m : Presentation) (x : List ℕ) (j k : ℕ) → IsRank m x j → IsRank m x k → j ≡ k
rank_one m x j k one two =
    let y = one.reached in
    let z = two.reached in
    let le = two.greatest y.0 y.1.set y.2 y.3 in
    let ge = one.greatest z.0 z.1.set z.2 z.3 in
    let size_y = y.1.size in
    let size_z = z.1.size in
    omega arith

-- the number of elements that pass both of two tests, in either order
count-swap : (n : ℕ) (x y : ℕ → Bool) → count n (both x y) ≡ count n (both y x)
count-swap n x y = count-agree n (both x y) (both y x) (λ j l. turn (x j) (y j))
  where
    turn : (p q : Bool) → (p && q) ≡ (q && p)
    turn true true = refl
    turn true false = refl
    turn false true = refl
    turn false false = refl

-- the score as counts
pub score-count : (n : ℕ) (kept c y : List ℕ) → IsSet n y → score kept c y ≡ count n (both (is_element y) (is_element c)) + count n (both (is_element y) (or (is_element kept) (is_element c)))
score-count n kept c y set =
    let one = length-meet n y c set in
    let turned = count-swap n (is_element c) (is_element y) in
    let two = length-meet n y (union kept c) set in
    let again = count-swap n (is_element (union kept c)) (is_element y) in
    let left = count-agree n (both (is_element y) (is_element (union kept c))) (both (is_element y) (or (is_element kept) (is_element c))) (λ j l. ap (λ p. is_element y j && p) (is_element-union kept c j)) in
    omega arith

-- the elements that are kept, and a best basis
pub record IsChoice (m : Presentation) (d c kept b : List ℕ) : Type 0 where
  pub matroid : IsMatroid m
  pub contracted : IsSet m.elements c
  pub kept_are : kept ≡ others m.elements d c
  pub best : IsBestBasis m kept c b

-- the numbers and nonbases of the minor
abbrev pub minor_with : Presentation → List ℕ → List ℕ → List (List ℕ) → Presentation
minor_with m kept b sets = record { elements = length kept; rank = m.rank - length (minus b kept); nonbases = sets }

module _ (m : Presentation) (d c kept b : List ℕ) (choice : IsChoice m d c kept b) where
  n : ℕ
  n = m.elements

  k : ℕ → Bool
  k = is_element kept

  pub kept_set : IsSet m.elements kept
  kept_set = subst (IsSet m.elements) (sym choice.kept_are) (IsSet-set_of m.elements (λ e. not (is_element (union d c) e)))

  basis_set : IsSet m.elements b
  basis_set = choice.best.basis.0.set

  law : Exchanging m.elements m.rank (IsBasisTest m)
  law = exchanging-bases m choice.matroid

  -- what is kept isn't contracted
  kept_apart : (j : ℕ) → j < m.elements → is_element kept j ≡ true → is_element c j ≡ false
  kept_apart j l holds = no (is_element c j) (λ also.
      let out : not (is_element d j || is_element c j) ≡ true =
      sym (ap (λ (z : List ℕ). is_element z j) choice.kept_are ∙ is_element-set_of m.elements (λ e. not (is_element (union d c) e)) j l ∙ ap not (is_element-union d c j)) ∙ holds in
      never (is_element d j) (is_element c j) also out)
    where
      never : (p q : Bool) → q ≡ true → not (p || q) ≡ true → ⊥
      never true q h g = cc
      never false q h g = both_ways (not q) (ap not h) g

  -- the best basis as a test
  best_test : IsBest m.elements (IsBasisTest m) (is_element kept) (is_element c) (is_element b)
  best_test = best-from_sum m.elements m.rank (IsBasisTest m) law (is_element kept) (is_element c) (is_element b) (test-of_basis m b choice.best.basis) (λ y by_.
      let most = choice.best.most (set_of m.elements y) by_ in
      let mine = score-count m.elements kept c (set_of m.elements y) (IsSet-set_of m.elements y) in
      let best = score-count m.elements kept c b basis_set in
      let one = count-agree m.elements (both (is_element (set_of m.elements y)) (is_element c)) (both y (is_element c)) (λ j l. ap (λ p. p && is_element c j) (is_element-set_of m.elements y j l)) in
      let two = count-agree m.elements (both (is_element (set_of m.elements y)) (or (is_element kept) (is_element c))) (both y (or (is_element kept) (is_element c))) (λ j l. ap (λ p. p && or (is_element kept) (is_element c) j) (is_element-set_of m.elements y j l)) in
      omega arith)

  -- the sizes as counts
  kept_size : count m.elements (is_element kept) ≡ length kept
  kept_size = count-is_element m.elements kept kept_set

  fixed_size : count m.elements (but (is_element b) (is_element kept)) ≡ length (minus b kept)
  fixed_size = count-agree m.elements (but (is_element b) (is_element kept)) (is_element (minus b kept)) (λ j l. turn (is_element b j) (is_element kept j) ∙ sym (is_element-filter (λ e. not (is_element kept e)) b j))
      ∙ count-is_element m.elements (minus b kept) (IsSet-minus m.elements b kept basis_set)
    where
      turn : (p q : Bool) → (p && not q) ≡ (not q && p)
      turn true true = refl
      turn true false = refl
      turn false true = refl
      turn false false = refl

  -- the sets that are completed by the best basis
  Completed : (ℕ → Bool) → Type 0
  Completed t = IsBasisTest m (lifted (is_element kept) (is_element b) t)

  -- they obey the law of exchange
  minor_law : Exchanging (length kept) (m.rank - length (minus b kept)) (λ t. IsBasisTest m (lifted (is_element kept) (is_element b) t))
  minor_law =
      subst (λ s. Exchanging (length kept) (m.rank - s) (λ t. IsBasisTest m (lifted (is_element kept) (is_element b) t))) fixed_size
      (subst (λ e. Exchanging e (m.rank - count m.elements (but (is_element b) (is_element kept))) (λ t. IsBasisTest m (lifted (is_element kept) (is_element b) t))) kept_size
      (exchanging-lifted m.elements m.rank (IsBasisTest m) law (is_element kept) (is_element b)))

  -- the best basis completes its own elements
  abbrev own : ℕ → Bool
  own i = is_element b (get_or (set_of m.elements (is_element kept)) i 0)

  own_completed : IsBasisTest m (lifted (is_element kept) (is_element b) own)
  own_completed = law.same (is_element b) (lifted (is_element kept) (is_element b) own) (λ j l. ⊎_elim
      (λ (inside : is_element kept j ≡ true). sym (lifted-in (is_element kept) (is_element b) own j inside ∙ ap (is_element b) (original-place m.elements (is_element kept) j l inside)))
      (λ (out : is_element kept j ≡ false). sym (lifted-out (is_element kept) (is_element b) own j out))
      (cases_Bool (is_element kept j))) (test-of_basis m b choice.best.basis)

  -- the minor's rank is at most its number of elements
  pub minor_flat : m.rank - length (minus b kept) ≤ length kept
  minor_flat =
      let size = minor_law.size own own_completed in
      let le = count-among (length kept) own (λ _. true) (λ j l h. refl) in
      let all = count-all (length kept) in
      omega arith

  -- a set is completed where its test is
  completed_test : (x : List ℕ) → IsSet (length kept) x → IsCompleted m kept (minus b kept) x ↔ IsBasisTest m (lifted (is_element kept) (is_element b) (is_element x))
  completed_test x set =
      let same = union-originals m.elements kept b x kept_set basis_set set in
      ((λ h. subst (IsBasis m) same h), (λ h. subst (IsBasis m) (sym same) h))

  -- the elements of the best basis that aren't kept
  pub fixed_set : IsSet m.elements (minus b kept)
  fixed_set = IsSet-minus m.elements b kept basis_set

  pub fixed_small : length (minus b kept) ≤ m.rank
  fixed_small =
      let parts = count-parts m.elements (is_element b) (is_element kept) in
      let whole = count-is_element m.elements b basis_set in
      let rank = choice.best.basis.0.size in
      let fixed = fixed_size in
      omega arith

  -- no more elements are kept than there are
  pub kept_small : length kept ≤ m.elements
  kept_small = let size = kept_size in let le = count-small m.elements (is_element kept) in omega arith

  -- the minor is within the limits
  pub minor_within : (sets : List (List ℕ)) → IsWithinLimits m → IsWithinLimits (minor_with m kept b sets)
  minor_within sets limits = record {
    elements = (let le = count-among m.elements (is_element kept) (λ _. true) (λ j l h. refl) in let all = count-all m.elements in let size = kept_size in let most = limits.elements in omega arith);
    sets = (let size = kept_size in
        let fixed = fixed_size in
        let whole = count-is_element m.elements b basis_set in
        let rank = choice.best.basis.0.size in
        let parts = count-parts m.elements (is_element b) (is_element kept) in
        let turned = count-swap m.elements (is_element b) (is_element kept) in
        let others = count-parts m.elements (is_element kept) (is_element b) in
        let left = count-among m.elements (but (is_element kept) (is_element b)) (λ j. not (is_element b j)) (λ j l h. second (is_element kept j) (is_element b j) h) in
        let rest = count-not m.elements (is_element b) in
        let flat = choice.matroid.presentation.rank in
        let fewer = choose-smaller (length kept) (m.rank - length (minus b kept)) m.elements m.rank (omega arith) (omega arith) (omega arith) (omega arith) in
        let most = limits.sets in
        omega arith);
  }
    where
      second : (p q : Bool) → (p && not q) ≡ true → not q ≡ true
      second true q h = h
      second false q h = cc

  module _ (sets : List (List ℕ)) (are : AreNonbases (length kept) (m.rank - length (minus b kept)) (IsCompleted m kept (minus b kept)) sets) where
    has : HasBases (minor_with m kept b sets) (λ t. IsBasisTest m (lifted (is_element kept) (is_element b) t))
    has = has-bases (length kept) (m.rank - length (minus b kept)) sets (IsCompleted m kept (minus b kept)) (λ t. IsBasisTest m (lifted (is_element kept) (is_element b) t)) minor_flat are (λ x set. completed_test x set.set)

    pub minor_matroid : IsMatroid (minor_with m kept b sets)
    minor_matroid = matroid-from_family (minor_with m kept b sets) (λ t. IsBasisTest m (lifted (is_element kept) (is_element b) t)) minor_law has own own_completed

    -- the minor's bases as tests
    pub to_test : (y : ℕ → Bool) → IsBasisTest (minor_with m kept b sets) y → IsBasisTest m (lifted (is_element kept) (is_element b) y)
    to_test y basis =
        let x = set_of (length kept) y in
        let completed = ((basis-from_nonbases (length kept) (m.rank - length (minus b kept)) sets (IsCompleted m kept (minus b kept)) are x).0 basis).1 in
        minor_law.same (is_element x) y (λ j l. is_element-set_of (length kept) y j l) ((completed_test x basis.0.set).0 completed)

    pub from_test : (y : ℕ → Bool) → IsBasisTest m (lifted (is_element kept) (is_element b) y) → IsBasisTest (minor_with m kept b sets) y
    from_test y completed =
        let x = set_of (length kept) y in
        let set = IsSet-set_of (length kept) y in
        let sized : IsSetOf (length kept) (m.rank - length (minus b kept)) x = record { set = set; size = length-set_of (length kept) y ∙ minor_law.size y completed } in
        (basis-from_nonbases (length kept) (m.rank - length (minus b kept)) sets (IsCompleted m kept (minus b kept)) are x).1
        (sized, (completed_test x set).1 (minor_law.same y (is_element x) (λ j l. sym (is_element-set_of (length kept) y j l)) completed))

    -- the ranks of a set of the minor, of it with c, and of c
    ranks_of : (x : List ℕ) → IsSet (length kept) x
        → (w p q : ℕ) × IsRank m (union (originals kept x) c) w × IsRank m c p × IsRank (minor_with m kept b sets) x q × (p + q ≡ w)
    ranks_of x set = (
      w.0,
      p,
      q.0,
      rank-from_most m choice.matroid (union (originals kept x) c) w.0 (IsSet-union m.elements (originals kept x) c (IsSet-originals m.elements kept x kept_set set) choice.contracted)
          (most-agree m.elements (IsBasisTest m) (or (raised (is_element kept) (is_element x)) (is_element c)) (is_element (union (originals kept x) c)) w.0
          (λ j l. sym (is_element-union (originals kept x) c j ∙ ap (λ g. g || is_element c j) (is_element-originals m.elements kept kept_set x set.elements j))) w.1),
      rank-from_most m choice.matroid c p choice.contracted (record { set = is_element b; member = best_test.member; reached = refl; bound = best_test.in_c }),
      rank-from_most (minor_with m kept b sets) minor_matroid x q.0 set moved,
      q.2,
    )
      where
        w : (most : ℕ) × IsMost m.elements (IsBasisTest m) (or (raised (is_element kept) (is_element x)) (is_element c)) most
        w = most-of_basis m choice.matroid (or (raised (is_element kept) (is_element x)) (is_element c))

        p : ℕ
        p = count m.elements (both (is_element b) (is_element c))

        q : (most : ℕ) × IsMost (count m.elements (is_element kept)) (λ s. IsBasisTest m (lifted (is_element kept) (is_element b) s)) (is_element x) most × (count m.elements (both (is_element b) (is_element c)) + most ≡ w.0)
        q = most-lifted m.elements m.rank (IsBasisTest m) law (is_element kept) (is_element c) (is_element b) kept_apart best_test (is_element x) w.0 w.1

        sized : IsMost (length kept) (λ s. IsBasisTest m (lifted (is_element kept) (is_element b) s)) (is_element x) q.0
        sized = subst (λ e. IsMost e (λ s. IsBasisTest m (lifted (is_element kept) (is_element b) s)) (is_element x) q.0) kept_size q.1

        moved : IsMost (length kept) (IsBasisTest (minor_with m kept b sets)) (is_element x) q.0
        moved = record { set = sized.set; member = from_test sized.set sized.member; reached = sized.reached; bound = λ y by_. sized.bound y (to_test y by_) }

    pub minor_is : IsMinor m d c (minor_with m kept b sets)
    minor_is = record {
      matroid = minor_matroid;
      elements = ap length choice.kept_are;
      ranks = λ x j set.
          let r = ranks_of x set in
          let at_kept = ap (λ (z : List ℕ). union (originals z x) c) choice.kept_are in
          let whole : IsRank m (union (originals (others m.elements d c) x) c) r.0 = subst (λ (z : List ℕ). IsRank m z r.0) at_kept r.3 in (
            (λ rank. record { whole = r.0; part = r.1; with_c = whole; of_c = r.4; difference = (let same = rank_one (minor_with m kept b sets) x j r.2 rank r.5 in let sum = r.6 in omega arith) }),
            (λ over.
                let one = rank_one m (union (originals (others m.elements d c) x) c) over.whole r.0 over.with_c whole in
                let two = rank_one m c over.part r.1 over.of_c r.4 in
                let sum = r.6 in
                let difference = over.difference in
                subst (IsRank (minor_with m kept b sets) x) (let e : r.2 ≡ j = omega arith in e) r.5),
          );
    }

-- the numbers and nonbases, by equal ones
pub as_minor : (m : Presentation) (kept b : List ℕ) (n r : ℕ) (sets : List (List ℕ)) → n ≡ length kept → r ≡ m.rank - length (minus b kept) → record { elements = n; rank = r; nonbases = sets } ≡ minor_with m kept b sets
as_minor m kept b n r sets same size =
    ap (λ j. let p : Presentation = record { elements = j; rank = r; nonbases = sets } in p) same ∙ ap (λ j. let p : Presentation = record { elements = length kept; rank = j; nonbases = sets } in p) size

-- what was made of them
pub minor_made : {E : Type 0} (r : Result Presentation E) (m : Presentation) (d c kept b : List ℕ) (n k : ℕ) (sets : List (List ℕ)) → n ≡ length kept → k ≡ m.rank - length (minus b kept) → IsMinor m d c (minor_with m kept b sets)
    → IfOk r (λ a. a ≡ record { elements = n; rank = k; nonbases = sets }) → IfOk r (IsMinor m d c)
minor_made (Ok a) m d c kept b n k sets same size is made = subst (IsMinor m d c) (sym (made ∙ as_minor m kept b n k sets same size)) is
minor_made (Err e) m d c kept b n k sets same size is made = tt
