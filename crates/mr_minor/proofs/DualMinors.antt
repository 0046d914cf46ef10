-- A minor of the dual is the dual of a minor.
use Rattle.std.proofs.Common.{◌≡◌, ℕ, ◌+◌, ◌<◌, ◌↔◌, Bool, true, false, not, ◌&&◌, ◌||◌, List, [], length, refl, sym, ap, subst, ◌∙◌, ⊎_elim, arith}
use Rattle.std.specs.Prelude.{Contains}
use Rattle.std.proofs.lemmas.Bool.{cases_Bool, and_parts, both_ways}
use Rattle.mr_set.specs.Elements.{IsSet, is_element, union}
use Rattle.mr_set.specs.Matroid.{Presentation, IsBasis, IsMatroid}
use Rattle.mr_set.proofs.Members.{is_element-union, is_element-from_Contains, Contains-from_element}
use Rattle.mr_set.proofs.Ordered.{member_none}
use Rattle.mr_set.proofs.Sorted.{sorted_none, all_none}
use Rattle.mr_set.proofs.Tests.{count, set_of, is_element-set_of, IsSet-set_of, set_of-is_element, count-is_element, element-lt}
use Rattle.mr_minor.specs.Dual.{IsDual, complement}
use Rattle.mr_minor.specs.Minor.{others, originals, IsMinor}
use Rattle.mr_minor.specs.Private.Best.{score, IsBestBasis}
use Rattle.mr_minor.proofs.Counting.{both, but, no, count-agree, count-parts, count-not}
use Rattle.mr_minor.proofs.Bases.{IsBasisTest, set_of-agree, test-of_basis}
use Rattle.mr_minor.proofs.Determined.{complement-twice, one-dual, dual-symmetric}
use Rattle.mr_minor.proofs.InSteps.{in-steps}
use Rattle.mr_minor.proofs.MinorBases.{IsChoice, score-count}
use Rattle.mr_minor.proofs.MinorRanks.{or}
use Rattle.mr_minor.proofs.Renumbering.{place-lt, lifted, lifted-in, lifted-out}
use Rattle.mr_minor.proofs.Originals.{is_element-originals, IsSet-originals}
use Rattle.mr_minor.proofs.Existing.{choice-exists, bases-from_best, dual-exists, minor-exists}

-- what a test shares with d and with what isn't in c, by what its contrary shares with c and with what isn't in d
shares-contrary : (n : ℕ) (y d c k : ℕ → Bool) → ((j : ℕ) → j < n → k j ≡ not (d j || c j)) → ((j : ℕ) → j < n → d j ≡ true → c j ≡ false)
    → count n (both y d) + count n (both y (or k d)) + count n c + count n (λ j. not (y j)) ≡ count n d + count n y + (count n (both (λ j. not (y j)) c) + count n (both (λ j. not (y j)) (or k c)))
shares-contrary n y d c k kept apart =
    let one = count-parts n d y in
    let one_in = count-agree n (both d y) (both y d) (λ j l. turn (d j) (y j)) in
    let one_out = count-agree n (but d y) (both (λ j. not (y j)) d) (λ j l. turn (d j) (not (y j))) in
    let two = count-parts n (λ j. not (y j)) d in
    let two_out = count-agree n (but (λ j. not (y j)) d) (both (λ j. not (y j)) (or k c)) (λ j l. ap (λ p. not (y j) && p) (first (d j) (c j) (k j) (kept j l) (apart j l))) in
    let three = count-parts n c y in
    let three_in = count-agree n (both c y) (both y c) (λ j l. turn (c j) (y j)) in
    let three_out = count-agree n (but c y) (both (λ j. not (y j)) c) (λ j l. turn (c j) (not (y j))) in
    let four = count-parts n y c in
    let four_out = count-agree n (but y c) (both y (or k d)) (λ j l. ap (λ p. y j && p) (second (d j) (c j) (k j) (kept j l) (apart j l))) in
    omega arith
  where
    turn : (p q : Bool) → (p && q) ≡ (q && p)
    turn true true = refl
    turn true false = refl
    turn false true = refl
    turn false false = refl

    first : (p q s : Bool) → s ≡ not (p || q) → (p ≡ true → q ≡ false) → not p ≡ (s || q)
    first true q s h g = sym (ap (λ b. s || b) (g refl) ∙ ap (λ b. b || false) h)
    first false true s h g = sym (ap (λ b. b || true) h)
    first false false s h g = sym (ap (λ b. b || false) h)

    second : (p q s : Bool) → s ≡ not (p || q) → (p ≡ true → q ≡ false) → not q ≡ (s || p)
    second true q s h g = ap not (g refl) ∙ sym (ap (λ b. b || true) h)
    second false true s h g = sym (ap (λ b. b || false) h)
    second false false s h g = sym (ap (λ b. b || false) h)

-- the elements that are kept are the same in the dual
same_kept : (m : Presentation) (d c : List ℕ) (dual : Presentation) → IsDual m dual → others dual.elements c d ≡ others m.elements d c
same_kept m d c dual is = ap (λ n. others n c d) is.elements ∙ set_of-agree m.elements (λ e. not (is_element (union c d) e)) (λ e. not (is_element (union d c) e))
    (λ e l. ap not (is_element-union c d e ∙ turn (is_element c e) (is_element d e) ∙ sym (is_element-union d c e)))
  where
    turn : (p q : Bool) → (p || q) ≡ (q || p)
    turn true true = refl
    turn true false = refl
    turn false true = refl
    turn false false = refl

module _ (m : Presentation) (d c : List ℕ) (dual : Presentation) (matroid : IsMatroid m) (of_d : IsSet m.elements d) (of_c : IsSet m.elements c) (apart : (e : ℕ) → Contains d e → ¬ (Contains c e)) (is : IsDual m dual) where
  -- a set's score in the dual, by that of its complement
  score-complement : (y : List ℕ) → IsSet m.elements y
      → score (others m.elements d c) d y + count m.elements (is_element c) + count m.elements (λ j. not (is_element y j)) ≡ count m.elements (is_element d) + count m.elements (is_element y) + score (others m.elements d c) c (complement m.elements y)
  score-complement y set =
      let mine = score-count m.elements (others m.elements d c) d y set in
      let other = score-count m.elements (others m.elements d c) c (complement m.elements y) (IsSet-set_of m.elements (λ e. not (is_element y e))) in
      let here = shares-contrary m.elements (is_element y) (is_element d) (is_element c) (is_element (others m.elements d c))
      (λ j l. is_element-set_of m.elements (λ e. not (is_element (union d c) e)) j l ∙ ap not (is_element-union d c j))
      (λ j l holds. no (is_element c j) (λ also. apart j (Contains-from_element d j holds) (Contains-from_element c j also))) in
      let one = count-agree m.elements (both (is_element (complement m.elements y)) (is_element c)) (both (λ j. not (is_element y j)) (is_element c)) (λ j l. ap (λ p. p && is_element c j) (is_element-set_of m.elements (λ e. not (is_element y e)) j l)) in
      let two = count-agree m.elements (both (is_element (complement m.elements y)) (or (is_element (others m.elements d c)) (is_element c))) (both (λ j. not (is_element y j)) (or (is_element (others m.elements d c)) (is_element c)))
      (λ j l. ap (λ p. p && or (is_element (others m.elements d c)) (is_element c) j) (is_element-set_of m.elements (λ e. not (is_element y e)) j l)) in
      omega arith

  -- the complement of a best basis is a best basis of the dual
  best-complement : (b : List ℕ) → IsBestBasis m (others m.elements d c) c b → IsBestBasis dual (others m.elements d c) d (complement m.elements b)
  best-complement b best = record {
    basis = of_dual;
    most = λ y by_.
        let set : IsSet m.elements y = subst (λ n. IsSet n y) is.elements by_.0.set in
        let le = best.most (complement m.elements y) ((is.bases y set).0 by_) in
        let mine = score-complement y set in
        let whole = score-complement (complement m.elements b) co_set in
        let back = ap (score (others m.elements d c) c) twice in
        let size = by_.0.size in
        let co_size = of_dual.0.size in
        let counted = count-is_element m.elements y set in
        let co_counted = count-is_element m.elements (complement m.elements b) co_set in
        let rest = count-not m.elements (is_element y) in
        let co_rest = count-not m.elements (is_element (complement m.elements b)) in
        omega arith;
  }
    where
      co_set : IsSet m.elements (complement m.elements b)
      co_set = IsSet-set_of m.elements (λ e. not (is_element b e))

      twice : complement m.elements (complement m.elements b) ≡ b
      twice = complement-twice m.elements b best.basis.0.set

      of_dual : IsBasis dual (complement m.elements b)
      of_dual = (is.bases (complement m.elements b) co_set).1 (subst (IsBasis m) (sym twice) best.basis)

  -- the numbers of a set of the dual that aren't in it are those of the complement
  lifted-complement : (b x : List ℕ) (s : ℕ) → s ≡ length (others m.elements d c) → (j : ℕ) → j < m.elements
      → not (is_element (set_of m.elements (lifted (is_element (others m.elements d c)) (is_element (complement m.elements b)) (is_element x))) j)
      ≡ lifted (is_element (others m.elements d c)) (is_element b) (is_element (complement s x)) j
  lifted-complement b x s size j l =
      ap not (is_element-set_of m.elements (lifted (is_element (others m.elements d c)) (is_element (complement m.elements b)) (is_element x)) j l)
      ∙ ⊎_elim
      (λ (inside : is_element (others m.elements d c) j ≡ true).
      let small : count j (is_element (others m.elements d c)) < s =
      (let lt = place-lt m.elements (is_element (others m.elements d c)) j l inside in let whole = count-is_element m.elements (others m.elements d c) (IsSet-set_of m.elements (λ e. not (is_element (union d c) e))) in omega arith) in
      ap not (lifted-in (is_element (others m.elements d c)) (is_element (complement m.elements b)) (is_element x) j inside)
      ∙ sym (is_element-set_of s (λ e. not (is_element x e)) (count j (is_element (others m.elements d c))) small)
      ∙ sym (lifted-in (is_element (others m.elements d c)) (is_element b) (is_element (complement s x)) j inside))
      (λ (out : is_element (others m.elements d c) j ≡ false).
      ap not (lifted-out (is_element (others m.elements d c)) (is_element (complement m.elements b)) (is_element x) j out ∙ is_element-set_of m.elements (λ e. not (is_element b e)) j l)
      ∙ twice (is_element b j)
      ∙ sym (lifted-out (is_element (others m.elements d c)) (is_element b) (is_element (complement s x)) j out))
      (cases_Bool (is_element (others m.elements d c) j))
    where
      twice : (p : Bool) → not (not p) ≡ p
      twice true = refl
      twice false = refl

  -- what a best basis completes in the dual is the complement of what its complement completes
  lifted-dual : (b x : List ℕ) (s : ℕ) → s ≡ length (others m.elements d c)
      → IsBasisTest dual (lifted (is_element (others m.elements d c)) (is_element (complement m.elements b)) (is_element x)) ↔ IsBasisTest m (lifted (is_element (others m.elements d c)) (is_element b) (is_element (complement s x)))
  lifted-dual b x s size =
      let t : ℕ → Bool = lifted (is_element (others m.elements d c)) (is_element (complement m.elements b)) (is_element x) in
      let same : set_of dual.elements t ≡ set_of m.elements t = ap (λ n. set_of n t) is.elements in
      let bases = is.bases (set_of m.elements t) (IsSet-set_of m.elements t) in
      let turned : complement m.elements (set_of m.elements t) ≡ set_of m.elements (lifted (is_element (others m.elements d c)) (is_element b) (is_element (complement s x))) =
      set_of-agree m.elements (λ e. not (is_element (set_of m.elements t) e)) (lifted (is_element (others m.elements d c)) (is_element b) (is_element (complement s x))) (lifted-complement b x s size) in (
        (λ h. subst (IsBasis m) turned (bases.0 (subst (IsBasis dual) same h))),
        (λ h. subst (IsBasis dual) (sym same) (bases.1 (subst (IsBasis m) (sym turned) h))),
      )

  module _ (a b : Presentation) (one : IsMinor m d c a) (two : IsMinor dual c d b) where
    same_elements : b.elements ≡ a.elements
    same_elements = two.elements ∙ ap length (same_kept m d c dual is) ∙ sym one.elements

    -- a set is a basis of the dual's minor where its complement is one of the minor
    bases : (x : List ℕ) → IsSet a.elements x → (y : List ℕ) × IsChoice m d c (others m.elements d c) y → IsBasis b x ↔ IsBasis a (complement a.elements x)
    bases x set (best, choice) =
        let co : IsChoice dual c d (others m.elements d c) (complement m.elements best) = record {
          matroid = is.matroid;
          contracted = subst (λ n. IsSet n d) (sym is.elements) of_d;
          kept_are = sym (same_kept m d c dual is);
          best = best-complement best choice.best;
        } in
        let set_b : IsSet b.elements x = subst (λ n. IsSet n x) (sym same_elements) set in
        let set_a : IsSet a.elements (complement a.elements x) = IsSet-set_of a.elements (λ e. not (is_element x e)) in
        let of_b = bases-from_best dual c d (others m.elements d c) (complement m.elements best) co b two (is_element x) in
        let of_a = bases-from_best m d c (others m.elements d c) best choice a one (is_element (complement a.elements x)) in
        let turned = lifted-dual best x a.elements one.elements in (
          (λ basis. subst (IsBasis a) (set_of-is_element a.elements (complement a.elements x) set_a) (of_a.1 (turned.0 (of_b.0 (test-of_basis b x basis))))),
          (λ basis. subst (IsBasis b) (set_of-is_element b.elements x set_b) (of_b.1 (turned.1 (of_a.0 (test-of_basis a (complement a.elements x) basis))))),
        )

    pub minor-of_dual : IsDual a b
    minor-of_dual = record { matroid = two.matroid; elements = same_elements; bases = λ x set. bases x set (choice-exists m d c matroid of_c) }

-- contracting first and deleting then is the minor too
pub in-other_order : (m : Presentation) (d c : List ℕ) (a b : Presentation) → IsMatroid m → IsSet m.elements c → IsMinor m [] c a → IsSet a.elements d → IsMinor a d [] b → IsMinor m (originals (others m.elements [] c) d) c b
in-other_order m d c a b matroid of_c one of_d two =
    subst (IsMinor m (originals (others m.elements [] c) d) c) (one-dual co_b.0 whole.0 b (dual-symmetric whole.0 co_b.0 whole.1.matroid dual_whole) (dual-symmetric b co_b.0 two.matroid dual_b)) whole.1
  where
    none : IsSet m.elements []
    none = record { increasing = sorted_none; elements = all_none (λ e. e < m.elements) }

    none_of_a : IsSet a.elements []
    none_of_a = record { increasing = sorted_none; elements = all_none (λ e. e < a.elements) }

    co : (dual : Presentation) × IsDual m dual
    co = dual-exists m matroid

    -- the contraction's dual
    co_a : (minor : Presentation) × IsMinor co.0 c [] minor
    co_a = minor-exists co.0 c [] co.1.matroid (subst (λ n. IsSet n []) (sym co.1.elements) none)

    dual_a : IsDual a co_a.0
    dual_a = minor-of_dual m [] c co.0 matroid none of_c (λ e h. absurd (member_none e h)) co.1 a co_a.0 one co_a.1

    -- and the dual of the deletion in it
    co_b : (minor : Presentation) × IsMinor co_a.0 [] d minor
    co_b = minor-exists co_a.0 [] d co_a.1.matroid (subst (λ n. IsSet n d) (sym dual_a.elements) of_d)

    dual_b : IsDual b co_b.0
    dual_b = minor-of_dual a d [] co_a.0 one.matroid of_d none_of_a (λ e h g. member_none e g) dual_a b co_b.0 two co_b.1

    -- both are made in one step in the dual
    of_dual : IsMinor co.0 c (originals (others co.0.elements c []) d) co_b.0
    of_dual = in-steps co.0 c d co_a.0 co_b.0 co.1.matroid co_a.1 (subst (λ n. IsSet n d) (sym dual_a.elements) of_d) co_b.1

    kept_set : IsSet m.elements (others m.elements [] c)
    kept_set = IsSet-set_of m.elements (λ e. not (is_element (union [] c) e))

    of_kept : IsSet (length (others m.elements [] c)) d
    of_kept = subst (λ n. IsSet n d) one.elements of_d

    raised_set : IsSet m.elements (originals (others m.elements [] c) d)
    raised_set = IsSet-originals m.elements (others m.elements [] c) d kept_set of_kept

    -- what is deleted was kept
    apart : (e : ℕ) → Contains (originals (others m.elements [] c) d) e → ¬ (Contains c e)
    apart e inside also =
        let holds = is_element-from_Contains (originals (others m.elements [] c) d) e inside in
        let small = element-lt m.elements (originals (others m.elements [] c) d) raised_set e holds in
        let in_kept = (and_parts (is_element (others m.elements [] c) e) (is_element d (count e (is_element (others m.elements [] c)))) (sym (is_element-originals m.elements (others m.elements [] c) kept_set d of_kept.elements e) ∙ holds)).0 in
        let out = sym (is_element-set_of m.elements (λ j. not (is_element (union [] c) j)) e small ∙ ap not (is_element-union [] c e)) ∙ in_kept in
        both_ways (not (is_element c e)) (ap not (is_element-from_Contains c e also)) out

    whole : (minor : Presentation) × IsMinor m (originals (others m.elements [] c) d) c minor
    whole = minor-exists m (originals (others m.elements [] c) d) c matroid of_c

    dual_whole : IsDual whole.0 co_b.0
    dual_whole = minor-of_dual m (originals (others m.elements [] c) d) c co.0 matroid raised_set of_c apart co.1 whole.0 co_b.0 whole.1
        (subst (λ (w : List ℕ). IsMinor co.0 c (originals w d) co_b.0) (same_kept m [] c co.0 co.1) of_dual)
